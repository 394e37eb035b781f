-- What the seat of a pass knows.
use Rattle.std.specs.Prelude.{◌≡◌, ℕ, Bool, true, false, List, [], ◌∷◌, Option, Some, None}
use Rattle.atomic_table.specs.declared.shared.Seat.{Seat}
use Rattle.ug_turnstile.specs.declared.view.Part.{Part}
use Rattle.ug_turnstile.specs.declared.view.View.{View}
use Rattle.ug_turnstile.specs.Passes.{Held}
use Rattle.ug_turnstile.specs.Rule.{view}

-- what the seat has in hand: the emptied slot while it holds the turn
abbrev pub in_hand : {S : Type 0} → Bool → List (ℕ × Option S)
in_hand true = (0, None) ∷ []
in_hand false = []

module _ {E R : Type 0} where
  abbrev pub root_of : List (Part E R) → Option R
  root_of [] = None
  root_of (p ∷ ps) = Some p.root

  abbrev pub seen_of : List (Part E R) → List E
  seen_of [] = []
  seen_of (p ∷ ps) = p.seen

  abbrev pub spent_of : List (Part E R) → Bool
  spent_of [] = false
  spent_of (p ∷ ps) = p.spent

  abbrev pub held : {S : Type 0} → ℕ → Seat (Option S) (View E R) → Held E R
  held number seat = record { turnstile = seat.table_id; number = number; holds = seat.me.0.holds; root = root_of seat.me.0.parts; seen = seen_of seat.me.0.parts; spent = spent_of seat.me.0.parts }

  -- the seat has one part, of this number, and has the slot in hand exactly where it holds the turn
  abbrev pub IsOnePass : {S : Type 0} → ℕ → Seat (Option S) (View E R) → Type 0
  IsOnePass number seat = (p : Part E R) × (p.number ≡ number) × (seat.me ≡ (view seat.me.0.holds (p ∷ []), in_hand seat.me.0.holds))
