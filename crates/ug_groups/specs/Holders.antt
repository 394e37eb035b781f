-- How often the rows of an Adj-RIB-Out hold each id of a pool, and how the pool counts them. A pool counts every holder of an
-- id: each row that has it, in whatever table of whatever subgroup, is one.
use Rattle.std.specs.Prelude.{◌≡◌, ℕ, ◌+◌, ◌<◌, ◌≤◌, ◌==◌, ◌^◌, List, length, Option, Some, None, is_some, IsSome, IfSome, if◌then◌else◌}
use Rattle.ug_types.specs.declared.key.Key.{Key}
use Rattle.ug_types.specs.declared.route.OutAttrs.{OutAttrs}
use Rattle.ug_intern.specs.Pools.{Pooled, held, uses_of}
use Rattle.ug_adjout.specs.Pending.{AdjRibOut}
use Rattle.ug_adjout.specs.Stored.{projected, of_row}
use Rattle.ug_groups.specs.Values.{value_in}
use Rattle.ug_groups.specs.declared.side.Side.{Side}
use Rattle.ug_groups.specs.declared.side.Side.TheVariants.{Formatted, Desired}

abbrev pub only : ℕ → ℕ → Option ℕ
only id n = if n == id then Some 0 else None

-- in so many of the rows the id stands
abbrev pub holders : {K : Type 0} → ℕ → List (K × ℕ) → ℕ
holders id rows = length (projected (only id) rows)

-- so many holders of the id the Adj-RIB-Out is
abbrev pub holds : AdjRibOut Key ℕ → ℕ → ℕ
holds a id = holders id a.formatted + holders id a.desired

-- one where the value is the id, none else
abbrev pub one_at : ℕ → Option ℕ → ℕ
one_at id o = if is_some (of_row (only id) o) then 1 else 0

-- the value, where there is one, is held
abbrev pub IsUsed : Pooled OutAttrs → Option ℕ → Type 0
IsUsed pool o = IfSome o (λ id. 1 ≤ uses_of (held pool id))

-- A value is held in place of another, and ids that are live stand for what they did.
pub record IsExchanged (old new : Pooled OutAttrs) (was now : Option ℕ) : Type 0 where
  pub uses : (id : ℕ) → uses_of (held new id) + one_at id was ≡ uses_of (held old id) + one_at id now
  pub values : (id : ℕ) → IsSome (held new id) → value_in new id ≡ value_in old id

-- The Adj-RIB-Out is counted among the holders of its ids.
abbrev pub IsCounted : Pooled OutAttrs → AdjRibOut Key ℕ → Type 0
IsCounted pool a = (id : ℕ) → holds a id ≤ uses_of (held pool id)

-- In place of one Adj-RIB-Out another is counted, and ids that are live stand for what they did.
pub record IsMoved (old new : Pooled OutAttrs) (a b : AdjRibOut Key ℕ) : Type 0 where
  pub counts : (id : ℕ) → uses_of (held new id) + holds a id ≡ uses_of (held old id) + holds b id
  pub values : (id : ℕ) → IsSome (held new id) → value_in new id ≡ value_in old id

-- each id has room for holders more
abbrev pub HasRoom : ℕ → Pooled OutAttrs → Type 0
HasRoom n pool = (id : ℕ) → uses_of (held pool id) + n < 2 ^ 128

-- the rows of one of the two tables
abbrev pub rows_of : {K : Type 0} → Side → AdjRibOut K ℕ → List (K × ℕ)
rows_of Formatted a = a.formatted
rows_of Desired a = a.desired
