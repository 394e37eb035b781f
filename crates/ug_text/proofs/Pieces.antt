-- Cutting texts into parts.
use Rattle.std.proofs.Common.{◌≡◌, ℕ, ◌+◌, length, ◌==◌, Bool, true, false, List, [], ◌∷◌, ◌++◌, Option, Some, None, append_assoc, ◌∙◌, ap, sym}
use Rattle.std.specs.Prelude.{if◌then◌else◌}
use Rattle.std.proofs.lemmas.List.{append-nil}
use Rattle.std.specs.Borrow.{Bor}
use Rattle.ug_text.specs.Cutting.{with_front, cut_at, pieces_from, pieces}

-- with these bytes in front of what stands before the separator
abbrev pub in_front : List ℕ → Option (List ℕ × List ℕ) → Option (List ℕ × List ℕ)
in_front front None = None
in_front front (Some parts) = Some (front ++ parts.0, parts.1)

-- the parts where there is a separator, and where there is none
abbrev pub pieces_cut : ℕ → List ℕ → List ℕ → Option (List ℕ × List ℕ) → List (List ℕ)
pieces_cut separator piece text None = (piece ++ text) ∷ []
pieces_cut separator piece text (Some parts) = (piece ++ parts.0) ∷ pieces separator parts.1

pieces_after : (separator : ℕ) (piece text : List ℕ) → pieces_from separator piece text ≡ pieces_cut separator piece text (cut_at separator text)
unfolding pieces_from cut_at
pieces_after separator piece [] = ap (λ p. p ∷ []) (sym (append-nil piece))
pieces_after separator piece (b ∷ bytes) = one (b == separator) (cut_at separator bytes) (pieces_after separator (piece ++ b ∷ []) bytes)
  where
    one : (is : Bool) (cut : Option (List ℕ × List ℕ)) → pieces_from separator (piece ++ b ∷ []) bytes ≡ pieces_cut separator (piece ++ b ∷ []) bytes cut
        → (if is then piece ∷ pieces_from separator [] bytes else pieces_from separator (piece ++ b ∷ []) bytes)
        ≡ pieces_cut separator piece (b ∷ bytes) (if is then Some ([], bytes) else with_front b cut)
    one true cut h = ap (λ p. p ∷ pieces separator bytes) (sym (append-nil piece))
    one false None h = rw append_assoc at h
    one false (Some parts) h = rw append_assoc at h

pub pieces_none : (separator : ℕ) (text : List ℕ) → cut_at separator text ≡ None → pieces separator text ≡ text ∷ []
pieces_none separator text none = pieces_after separator [] text ∙ ap (λ cut. pieces_cut separator [] text cut) none

pub pieces_some : (separator : ℕ) (text first rest : List ℕ) → cut_at separator text ≡ Some (first, rest) → pieces separator text ≡ first ∷ pieces separator rest
pieces_some separator text first rest some = pieces_after separator [] text ∙ ap (λ cut. pieces_cut separator [] text cut) some

pub ruleset pieces_steps = (pieces_none, pieces_some)

-- ---- reading part after part

-- how much is left to read, where something is
abbrev pub size_left : Option (Bor (List ℕ)) → ℕ
size_left None = 0
size_left (Some text) = length text.now + 1

-- behind some items those that were read
abbrev pub behind_items : {A : Type 0} → List A → Option (List A) → Option (List A)
behind_items items None = None
behind_items items (Some more) = Some (items ++ more)
