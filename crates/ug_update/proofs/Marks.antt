-- The mark of a refresh, as it was put down.
use Rattle.std.proofs.Common.{◌≡◌, ℕ, Bool, true, false, List, [], ◌∷◌, ◌++◌, Some, refl, sym, ap, ◌∙◌}
use Rattle.std.specs.Prelude.{replicate, if◌then◌else◌}
use Rattle.ug_types.specs.declared.family.Family.{Family}
use Rattle.ug_types.specs.declared.capabilities.Capabilities.{Capabilities}
use Rattle.ug_types.specs.Messages.{Begins, Ends}
use Rattle.ug_message.specs.Texts.{framed, afi, refresh_mark, written}

abbrev mark : Family → ℕ → List ℕ
mark family which = replicate 16 255 ++ 0 ∷ 23 ∷ 5 ∷ 0 ∷ afi family ∷ which ∷ 1 ∷ []

mark_is : (family : Family) (which : ℕ) → refresh_mark family which ≡ mark family which
unfolding framed
mark_is family which = refl

pub written_mark : (c : Capabilities) (family : Family) (begin : Bool) (items : List ℕ) → c.family ≡ family → items ≡ mark family (if begin then 1 else 2) → written c (if begin then Begins else Ends) ≡ Some items
unfolding written
written_mark c family true items f put = ap (λ (x : Family). Some (refresh_mark x 1)) f ∙ ap (λ (t : List ℕ). Some t) (mark_is family 1 ∙ sym put)
written_mark c family false items f put = ap (λ (x : Family). Some (refresh_mark x 2)) f ∙ ap (λ (t : List ℕ). Some t) (mark_is family 2 ∙ sym put)
