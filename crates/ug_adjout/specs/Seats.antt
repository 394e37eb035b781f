-- How the rows lie: the handle of each key, in key order, and at each handle that is given out a key and its row. The list of
-- waiting keys has the handles in the place of the keys.
use Rattle.std.specs.Prelude.{◌≡◌, ◌≢◌, ℕ, List, Option, Some, None, IsSome, slice_index_or}
use Rattle.std.specs.List.{AllByRecursion}
use Rattle.std.specs.Ordering.{nat_cmp}
use Rattle.std.specs.declared.cmp.Ordering.{Ordering}
use Rattle.ug_adjout.specs.Tables.{value_at, with_value, IsTable}
use Rattle.ug_adjout.specs.declared.row.Row.{Row}
use Rattle.ug_adjout.specs.declared.seat.Seat.{Seat}
use Rattle.ug_adjout.specs.declared.waiting.Waiting.{Waiting}
use Rattle.ug_adjout.specs.Counted.{IsCounted}
use Rattle.ug_adjout.specs.Stored.{projected}

-- the rows in key order, and the list of waiting keys by their places
pub record Told (K : Type 0) : Type 0 where
  pub rows : List (K × Row)
  pub waiting : List (ℕ × Waiting K)

-- the handles in key order, and what lies at each handle
pub record Seated (K : Type 0) : Type 0 where
  pub index : List (K × ℕ)
  pub slots : List (Option (Seat K))

abbrev pub handle_with : ℕ → Option Row → Option ℕ
handle_with handle None = None
handle_with handle (Some row) = Some handle

module _ {K : Type 0} where
  abbrev pub seat_at : List (Option (Seat K)) → ℕ → Option (Seat K)
  seat_at slots handle = slice_index_or slots handle None

  abbrev pub key_of : Option (Seat K) → Option K
  key_of None = None
  key_of (Some seat) = Some seat.key

  abbrev pub row_of : Option (Seat K) → Option Row
  row_of None = None
  row_of (Some seat) = Some seat.row

  abbrev pub seat_with : K → Option Row → Option (Seat K)
  seat_with key None = None
  seat_with key (Some row) = Some (record { key = key; row = row })

  -- who waits for this, by key
  abbrev pub named_by : Option ℕ → Option (Seat K) → Option (Waiting K)
  named_by value None = None
  named_by value (Some seat) = Some (record { key = seat.key; value = value })

  abbrev pub named_waiting : (ℕ → Option (Seat K)) → Waiting ℕ → Option (Waiting K)
  named_waiting at w = named_by w.value (at w.key)

  -- the list with each key in the place of its handle
  abbrev pub named : (ℕ → Option (Seat K)) → List (ℕ × Waiting ℕ) → List (ℕ × Waiting K)
  named at line = projected (named_waiting at) line

  -- the rows in key order
  abbrev pub rows_by : (ℕ → Option (Seat K)) → List (K × ℕ) → List (K × Row)
  rows_by at index = projected (λ handle. row_of (at handle)) index

  abbrev pub seat_in : Seated K → ℕ → Option (Seat K)
  seat_in rows handle = seat_at rows.slots handle

  abbrev pub rows_in : Seated K → List (K × Row)
  rows_in rows = rows_by (seat_in rows) rows.index

  abbrev pub named_in : Seated K → List (ℕ × Waiting ℕ) → List (ℕ × Waiting K)
  named_in rows line = named (seat_in rows) line

  -- each key lies at its handle, and nothing else lies anywhere
  pub record IsSeated (cmp : K → K → Ordering) (index : List (K × ℕ)) (at : ℕ → Option (Seat K)) : Type 0 where
    pub ordered : IsTable cmp index
    pub seated : (key : K) (handle : ℕ) → value_at cmp index key ≡ Some handle → (row : Row) × (at handle ≡ Some (record { key = key; row = row }))
    pub indexed : (handle : ℕ) (seat : Seat K) → at handle ≡ Some seat → value_at cmp index seat.key ≡ Some handle

  pub record IsRows (cmp : K → K → Ordering) (index : List (K × ℕ)) (at : ℕ → Option (Seat K)) (formatted forced : ℕ) : Type 0 where
    pub seats : IsSeated cmp index at
    pub counts : IsCounted cmp (rows_by at index) formatted forced

  -- each handle that waits has a row
  abbrev pub AreNamed : (ℕ → Option (Seat K)) → List (ℕ × Waiting ℕ) → Type 0
  AreNamed at line = AllByRecursion (λ e. IsSome (at e.1.key)) line

  pub record IsLined (at : ℕ → Option (Seat K)) (line : List (ℕ × Waiting ℕ)) : Type 0 where
    pub in_line : IsTable nat_cmp line
    pub are_named : AreNamed at line

  -- each key that waits has a row
  abbrev pub HaveRows : (K → K → Ordering) → List (K × Row) → List (ℕ × Waiting K) → Type 0
  HaveRows cmp rows waiting = (place : ℕ) (w : Waiting K) → value_at nat_cmp waiting place ≡ Some w → IsSome (value_at cmp rows w.key)

  -- at the handle lies the key with this row now, or nothing, and elsewhere what did
  pub record IsReseated (at now : ℕ → Option (Seat K)) (handle : ℕ) (key : K) (row : Option Row) : Type 0 where
    pub here : now handle ≡ seat_with key row
    pub others : (other : ℕ) → other ≢ handle → now other ≡ at other

  -- the key's row becomes another, or goes
  pub record IsChanged (cmp : K → K → Ordering) (index new_index : List (K × ℕ)) (at now : ℕ → Option (Seat K)) (handle : ℕ) (key : K) (was row : Option Row) : Type 0 where
    pub lay : at handle ≡ seat_with key was
    pub found : value_at cmp index key ≡ handle_with handle was
    pub reseated : IsReseated at now handle key row
    pub reindexed : new_index ≡ with_value cmp index key (handle_with handle row)
