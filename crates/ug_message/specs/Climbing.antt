-- How tables follow a past: key by key, and never back.
use Rattle.std.specs.Prelude.{◌≡◌, ℕ, ◌<◌, ◌≤◌, ◌≢◌, List, [], ◌∷◌, drop, map, slice_get, Option, Some}
use Rattle.ug_types.specs.declared.key.Key.{Key}
use Rattle.ug_types.specs.Attributes.{Attributes}
use Rattle.ug_message.specs.Tables.{Table}

-- Each value stands in the past at a place not before that of the value before it.
abbrev pub Climbs : {V : Type 0} → List V → List V → Type 0
Climbs past [] = Unit {0}
Climbs past (v ∷ vs) = (n : ℕ) × (slice_get past n ≡ Some v) × Climbs (drop n past) vs

-- The least place of the past, not before this one, at which this value stands.
pub record IsLeastPlace {V : Type 0} (past : List V) (from : ℕ) (v : V) (place : ℕ) : Type 0 where
  pub not_before : from ≤ place
  pub stands : slice_get past place ≡ Some v
  pub least : (n : ℕ) → from ≤ n → n < place → slice_get past n ≢ Some v

-- The climb: from a place, for each value in turn to the least place, not before the present one, at which the
-- past has that value.
abbrev pub ClimbsFrom : {V : Type 0} → List V → ℕ → List V → Type 0
ClimbsFrom past from [] = Unit {0}
ClimbsFrom past from (v ∷ vs) = (place : ℕ) × IsLeastPlace past from v place × ClimbsFrom past place vs

-- The same climb with its places told, one for each value.
abbrev pub ClimbsTo : {V : Type 0} → List V → ℕ → List ℕ → List V → Type 0
ClimbsTo past from [] [] = Unit {0}
ClimbsTo past from [] (v ∷ vs) = ⊥
ClimbsTo past from (place ∷ places) [] = ⊥
ClimbsTo past from (place ∷ places) (v ∷ vs) = IsLeastPlace past from v place × ClimbsTo past place places vs

-- the value that each table has for a key
abbrev pub values_at : Key → List Table → List (Option Attributes)
values_at key tables = map (λ (table : Table). table key) tables

-- For every key the tables climb the past.
abbrev pub NeverBack : List Table → List Table → Type 0
NeverBack past tables = (key : Key) → ClimbsFrom (values_at key past) 0 (values_at key tables)

-- The same with each value at some place, and not the least.
abbrev pub Follows : List Table → List Table → Type 0
Follows past tables = (key : Key) → Climbs (values_at key past) (values_at key tables)
