-- How an Adj-RIB-Out is stored: a row a key, which tells what is formatted, whether the key is forced, and where it waits.
use Rattle.std.specs.Prelude.{◌≡◌, ℕ, ◌<◌, nat_eq, Bool, true, false, not, ◌&&◌, ◌||◌, List, [], ◌∷◌, ◌++◌, Option, Some, None, is_some, if◌then◌else◌}
use Rattle.std.specs.Option.{option_eq}
use Rattle.std.specs.Ordering.{nat_cmp}
use Rattle.std.specs.Map.{keys_of}
use Rattle.std.specs.BTreeSet.{insert_key}
use Rattle.std.specs.Borrow.{Bor}
use Rattle.std.specs.declared.ops.Bound.{Bound}
use Rattle.std.specs.declared.ops.Bound.TheVariants.{Excluded, Unbounded}
use Rattle.std.specs.declared.cmp.Ordering.{Ordering}
use Rattle.ug_adjout.specs.Tables.{has, value_at, IsTable}
use Rattle.ug_adjout.specs.Pending.{AdjRibOut}
use Rattle.ug_adjout.specs.declared.row.Row.{Row}
use Rattle.ug_adjout.specs.declared.row.Change.{Change}
use Rattle.ug_adjout.specs.declared.waiting.Waiting.{Waiting}
use Rattle.ug_adjout.specs.Waits.{waiting_keys}

-- the rows in key order, the waiting keys by their places, and the place that the next one gets
pub record Stored (K : Type 0) : Type 0 where
  pub rows : List (K × Row)
  pub waiting : List (ℕ × Waiting K)
  pub next : ℕ

abbrev pub desired_by : Option ℕ → Option Change → Option ℕ
desired_by formatted None = formatted
desired_by formatted (Some change) = change.desired

abbrev pub formatted_of : Row → Option ℕ
formatted_of row = row.formatted

-- a key that waits for nothing is desired as it was formatted
abbrev pub desired_of : Row → Option ℕ
desired_of row = desired_by row.formatted row.change

abbrev pub mark_of : Row → Option ℕ
mark_of row = if row.forced then Some 0 else None

abbrev pub is_owed : Option ℕ → Option ℕ → Bool → Bool
is_owed formatted desired forced = not (option_eq nat_eq formatted desired) || (forced && is_some desired)

-- what the rows say of the keys of which they say something
module _ {K V W : Type 0} (of : V → Option W) where
  abbrev pub projected_with : K → Option W → List (K × W) → List (K × W)
  projected_with key None rows = rows
  projected_with key (Some v) rows = (key, v) ∷ rows

  abbrev pub projected : List (K × V) → List (K × W)
  projected [] = []
  projected (e ∷ rows) = projected_with e.0 (of e.1) (projected rows)

-- the Adj-RIB-Out that is stored
abbrev pub adj_of : {K : Type 0} → List (K × Row) → List (ℕ × Waiting K) → AdjRibOut K ℕ
adj_of rows waiting = record { formatted = projected formatted_of rows; desired = projected desired_of rows; forced = keys_of (projected mark_of rows); pending = waiting_keys waiting }

-- a row that waits for nothing is of a formatted key that isn't forced
abbrev pub IsRowBy : Row → Option Change → Type 0
IsRowBy row None = (is_some row.formatted ≡ true) × (row.forced ≡ false)
IsRowBy row (Some change) = is_owed row.formatted change.desired row.forced ≡ true

abbrev pub IsRow : Row → Type 0
IsRow row = IsRowBy row row.change

pub record IsStored {K : Type 0} (cmp : K → K → Ordering) (rows : List (K × Row)) (waiting : List (ℕ × Waiting K)) (next : ℕ) : Type 0 where
  pub ordered : IsTable cmp rows
  pub in_line : IsTable nat_cmp waiting
  pub sound : (key : K) (row : Row) → value_at cmp rows key ≡ Some row → IsRow row
  -- a row that waits has its place in the list
  pub listed : (key : K) (row : Row) (change : Change) → value_at cmp rows key ≡ Some row → row.change ≡ Some change
      → value_at nat_cmp waiting change.place ≡ Some (record { key = key; value = change.desired })
  -- and each place is some row's
  pub known : (place : ℕ) (w : Waiting K) → value_at nat_cmp waiting place ≡ Some w
      → (row : Row) × (value_at cmp rows w.key ≡ Some row) × (row.change ≡ Some (record { place = place; desired = w.value }))
  pub before : (place : ℕ) (w : Waiting K) → value_at nat_cmp waiting place ≡ Some w → place < next

-- there is no row, or one that waits for nothing
abbrev pub IsFree : Option Row → Type 0
IsFree None = Unit {0}
IsFree (Some row) = row.change ≡ None

-- the row of a key that waits there for this
abbrev pub with_change : Row → ℕ → Option ℕ → Row
with_change row place desired = record { formatted = row.formatted; forced = row.forced; change = Some (record { place = place; desired = desired }) }

-- the row of a key that waits for nothing
abbrev pub quiet : Option ℕ → Option Row
quiet None = None
quiet (Some value) = Some (record { formatted = Some value; forced = false; change = None })

-- what a row says, where there is one
abbrev pub of_row : {V W : Type 0} → (V → Option W) → Option V → Option W
of_row f None = None
of_row f (Some row) = f row

abbrev pub is_forced : Option Row → Bool
is_forced None = false
is_forced (Some row) = row.forced

abbrev pub pends : Option Row → Bool
pends None = false
pends (Some row) = is_some row.change

-- a row as it is lent
abbrev pub row_lent : {K : Type 0} → Bor K × ℕ → K × ℕ
row_lent row = (row.0.now, row.1)

-- where the rows behind a key begin
abbrev pub start_at : {K : Type 0} → Option K → Bound K
start_at None = Unbounded
start_at (Some key) = Excluded key

-- one key more is forced: it keeps its place in the list, or goes last
abbrev pub with_one_forced : {K : Type 0} → (K → K → Ordering) → AdjRibOut K ℕ → K → AdjRibOut K ℕ
with_one_forced cmp a key = record { formatted = a.formatted; desired = a.desired; forced = insert_key cmp a.forced key; pending = if has cmp a.pending key then a.pending else a.pending ++ key ∷ [] }

abbrev pub with_each_forced : {K : Type 0} → (K → K → Ordering) → AdjRibOut K ℕ → List K → AdjRibOut K ℕ
with_each_forced cmp a [] = a
with_each_forced cmp a (key ∷ keys) = with_each_forced cmp (with_one_forced cmp a key) keys

-- the key stands in one of the tables
abbrev pub IsShown : {K : Type 0} → (K → K → Ordering) → AdjRibOut K ℕ → K → Type 0
IsShown cmp a key = (is_some (value_at cmp a.formatted key) || is_some (value_at cmp a.desired key)) ≡ true
