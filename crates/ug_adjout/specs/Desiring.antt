-- Keys that are desired anew, one after the other, and rows that are desired as a whole.
use Rattle.std.specs.Prelude.{◌≡◌, Bool, true, ◌||◌, List, [], ◌∷◌, Option, is_some}
use Rattle.std.specs.Map.{keys_of}
use Rattle.std.specs.declared.cmp.Ordering.{Ordering}
use Rattle.ug_adjout.specs.Tables.{has, joined, value_at}
use Rattle.ug_adjout.specs.Pending.{AdjRibOut, settled, still_forced, with_desired}

module _ {K V : Type 0} (cmp : K → K → Ordering) (same : V → V → Bool) where
  -- each of these keys is desired with its value from now on, one after the other
  abbrev pub with_each_desired : (K → Option V) → AdjRibOut K V → List K → AdjRibOut K V
  with_each_desired value a [] = a
  with_each_desired value a (key ∷ keys) = with_each_desired value (with_desired cmp same a key (value key)) keys

  -- these rows are desired from now on
  abbrev pub with_all_desired : List (K × V) → AdjRibOut K V → AdjRibOut K V
  with_all_desired rows a = settled cmp same a.formatted rows (still_forced cmp a.formatted rows a.forced) a.pending (joined cmp (keys_of a.formatted) (keys_of rows))

module _ {K V : Type 0} (cmp : K → K → Ordering) where
  -- each forced key stands in one of the tables
  abbrev pub AreForcedShown : AdjRibOut K V → Type 0
  AreForcedShown a = (q : K) → has cmp a.forced q ≡ true → (is_some (value_at cmp a.formatted q) || is_some (value_at cmp a.desired q)) ≡ true
