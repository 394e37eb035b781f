-- More words than a line of its form has.
use Rattle.std.proofs.Common.{◌≡◌, ℕ, Bool, true, false, List, [], ◌∷◌, ◌++◌, Option, Some, None, Bor, refl, ap, ◌∙◌}
use Rattle.std.specs.Prelude.{◌==◌, if◌then◌else◌}
use Rattle.ug_text.specs.Cutting.{pieces_from, pieces}
use Rattle.ug_text.specs.Seen.{pieces_in}
use Rattle.ug_world.specs.World.{World}
use Rattle.ug_audit_rules.specs.Reports.{mark_said, loss_said}

record HasFirst (words : List (List ℕ)) : Type 0 where
  word : List ℕ
  more : List (List ℕ)
  is : words ≡ word ∷ more

first_from : (front text : List ℕ) → HasFirst (pieces_from 32 front text)
unfolding pieces_from
first_from front [] = record { word = front; more = []; is = refl }
first_from front (b ∷ text) = by (b == 32) (first_from (front ++ b ∷ []) text)
  where
    by : (t : Bool) → HasFirst (pieces_from 32 (front ++ b ∷ []) text) → HasFirst (if t then front ∷ pieces_from 32 [] text else pieces_from 32 (front ++ b ∷ []) text)
    by true later = record { word = front; more = pieces_from 32 [] text; is = refl }
    by false later = later

pub no_loss : (last : World) (a b text : List ℕ) → loss_said last (a ∷ b ∷ pieces 32 text) ≡ None
no_loss last a b text = let first = first_from [] text in ap (λ (words : List (List ℕ)). loss_said last (a ∷ b ∷ words)) first.is

pub no_mark : (last : World) (a b c d text : List ℕ) → mark_said last (a ∷ b ∷ c ∷ d ∷ pieces 32 text) ≡ None
no_mark last a b c d text = let first = first_from [] text in ap (λ (words : List (List ℕ)). mark_said last (a ∷ b ∷ c ∷ d ∷ words)) first.is

-- the words of what is left, by its first
pub behind : {o : Option (Bor (List ℕ))} {text : Bor (List ℕ)} {words : List (List ℕ)} → o ≡ Some text → pieces 32 text.now ≡ words → pieces_in 32 o ≡ words
behind is cut = ap (pieces_in 32) is ∙ cut
