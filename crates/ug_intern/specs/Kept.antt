-- How a pool is kept: the values stand in a list with their ids, and each id knows the place of its value there.
use Rattle.std.specs.Prelude.{◌≡◌, ℕ, ◌<◌, Bool, List, map, Option, Some, None, slice_get, slice_index_or}
use Rattle.std.specs.List.{IsDistinct}
use Rattle.std.specs.Map.{keys_of}
use Rattle.ug_intern.specs.declared.seat.Seat.{Seat}
use Rattle.ug_intern.specs.Pools.{Held, Pooled}

module _ {T : Type 0} where
  -- the value at the seat's place
  abbrev pub held_by : ℕ → Option (T × ℕ) → Option (Held T)
  held_by uses None = None
  held_by uses (Some entry) = Some (record { value = entry.0; uses = uses })

  -- what an id stands for
  abbrev pub seen : List (T × ℕ) → Option Seat → Option (Held T)
  seen entries None = None
  seen entries (Some seat) = held_by seat.uses (slice_get entries seat.place)

  abbrev pub pooled : List (Option Seat) → List (T × ℕ) → Pooled T
  pooled slots entries = record { slots = map (seen entries) slots }

  -- no two entries have equal values
  pub record IsKept (eq : T → T → Bool) (slots : List (Option Seat)) (entries : List (T × ℕ)) : Type 0 where
    pub distinct : IsDistinct eq (keys_of entries)
    pub seated : (id : ℕ) (seat : Seat) → slice_index_or slots id None ≡ Some seat → (value : T) × (slice_get entries seat.place ≡ Some (value, id)) × (0 < seat.uses)
    pub named : (place : ℕ) (entry : T × ℕ) → slice_get entries place ≡ Some entry → (uses : ℕ) × (slice_index_or slots entry.1 None ≡ Some (record { place = place; uses = uses }))
