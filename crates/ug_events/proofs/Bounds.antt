-- The bounds of an entry.
use Rattle.std.proofs.Common.{◌≡◌, ℕ, Bool, true, false, ◌==◌, List, [], ◌∷◌, ◌++◌, Option, Some, None, is_some, refl}
use Rattle.std.specs.Prelude.{if◌then◌else◌}
use Rattle.std.specs.Borrow.{Bor}
use Rattle.ug_text.specs.Cutting.{pieces_from}
use Rattle.ug_text.specs.Seen.{pieces_in}
use Rattle.ug_events.specs.Entries.{bounds_of}

too_many : (ge le more piece : List ℕ) → bounds_of (ge ∷ le ∷ pieces_from 58 piece more) ≡ None
unfolding bounds_of pieces_from
too_many ge le [] piece = refl
too_many ge le (b ∷ more) piece = one (b == 58) (too_many ge le more (piece ++ b ∷ []))
  where
    one : (is : Bool) → bounds_of (ge ∷ le ∷ pieces_from 58 (piece ++ b ∷ []) more) ≡ None
        → bounds_of (ge ∷ le ∷ (if is then piece ∷ pieces_from 58 [] more else pieces_from 58 (piece ++ b ∷ []) more)) ≡ None
    one true h = refl
    one false h = h

-- more than two parts are none
pub no_bounds : (ge le : List ℕ) (rest : Option (Bor (List ℕ))) (texts : List (List ℕ)) → is_some rest ≡ true → texts ≡ le ∷ pieces_in 58 rest → bounds_of (ge ∷ texts) ≡ None
no_bounds ge le None texts some e = absurd cc
no_bounds ge le (Some more) texts some e = rw e (too_many ge le more.now [])
