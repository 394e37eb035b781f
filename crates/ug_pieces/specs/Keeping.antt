-- Bytes that are kept one piece behind the other.
use Rattle.std.proofs.Common.{◌≡◌, ℕ, List, [], ◌++◌, sym, ap, ◌∙◌, append_assoc}
use Rattle.std.proofs.lemmas.List.{append-nil}

pub keeps_none : (kept : List ℕ) → kept ≡ kept ++ []
keeps_none kept = sym (append-nil kept)

pub keeps_more : (old mid new front more : List ℕ) → mid ≡ old ++ front → new ≡ mid ++ more → new ≡ old ++ (front ++ more)
keeps_more old mid new front more first then = then ∙ ap (λ (x : List ℕ). x ++ more) first ∙ append_assoc old front more
