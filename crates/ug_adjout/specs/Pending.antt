-- The Adj-RIB-Out of a subgroup (RFC 4271 section 3.2): what its packets have told (formatted), what its members are to be
-- told (desired), the keys that a refresh forces, and the keys for which a packet is owed, in their order.
use Rattle.std.specs.Prelude.{◌≡◌, Bool, not, ◌&&◌, ◌||◌, List, [], ◌∷◌, ◌++◌, Option, is_some}
use Rattle.std.specs.Option.{option_eq}
use Rattle.std.specs.List.{filter, IsDistinct}
use Rattle.std.specs.Map.{keys_of}
use Rattle.std.specs.Ordering.{eq_by_cmp}
use Rattle.std.specs.declared.cmp.Ordering.{Ordering}
use Rattle.ug_adjout.specs.Tables.{has, without, joined, value_at, with_value, IsTable}

-- the forced keys stand in key order
pub record AdjRibOut (K V : Type 0) : Type 0 where
  pub formatted : List (K × V)
  pub desired : List (K × V)
  pub forced : List K
  pub pending : List K

abbrev pub nothing_out : {K V : Type 0} → AdjRibOut K V
nothing_out = record { formatted = []; desired = []; forced = []; pending = [] }

module _ {K : Type 0} (cmp : K → K → Ordering) where
  -- The pending list where some keys may have changed, these in key order: a key still pending keeps its place, and
  -- keys newly pending go last.
  abbrev pub requeue : (K → Bool) → List K → List K → List K
  requeue test old changed = filter test old ++ filter (λ q. test q && not (has cmp old q)) changed

module _ {K V : Type 0} (cmp : K → K → Ordering) where
  -- a key in neither table is forced no more
  abbrev pub still_forced : List (K × V) → List (K × V) → List K → List K
  still_forced formatted desired forced = filter (λ q. is_some (value_at cmp formatted q) || is_some (value_at cmp desired q)) forced

module _ {K V : Type 0} (cmp : K → K → Ordering) (same : V → V → Bool) where
  -- a packet is owed for a key at which the tables differ, and for a forced key that is desired
  abbrev pub waits : List (K × V) → List (K × V) → List K → K → Bool
  waits formatted desired forced key =
      not (option_eq same (value_at cmp formatted key) (value_at cmp desired key)) || (has cmp forced key && is_some (value_at cmp desired key))

  -- tables and forced keys as they are now, with the pending list that was, where some keys changed
  abbrev pub settled : List (K × V) → List (K × V) → List K → List K → List K → AdjRibOut K V
  settled formatted desired forced pending changed =
      record { formatted = formatted; desired = desired; forced = forced; pending = requeue cmp (waits formatted desired forced) pending changed }

  -- the key's desired value is this, or it is desired no more
  abbrev pub with_desired : AdjRibOut K V → K → Option V → AdjRibOut K V
  with_desired a key value =
      let desired = with_value cmp a.desired key value in settled a.formatted desired (still_forced cmp a.formatted desired a.forced) a.pending (key ∷ [])

  -- all keys of both tables are forced
  abbrev pub with_all_forced : AdjRibOut K V → AdjRibOut K V
  with_all_forced a = let keys = joined cmp (keys_of a.formatted) (keys_of a.desired) in settled a.formatted a.desired keys a.pending keys

  -- the formatted table takes the key's desired value, and the key is forced no more
  abbrev pub with_formatted : AdjRibOut K V → K → AdjRibOut K V
  with_formatted a key = settled (with_value cmp a.formatted key (value_at cmp a.desired key)) a.desired (without cmp a.forced key) a.pending (key ∷ [])

  -- what formatting these keys leaves
  abbrev pub with_all_formatted : AdjRibOut K V → List K → AdjRibOut K V
  with_all_formatted a [] = a
  with_all_formatted a (key ∷ keys) = with_all_formatted (with_formatted a key) keys

  -- the pending list has exactly the keys for which a packet is owed, each once
  pub record IsExact (a : AdjRibOut K V) : Type 0 where
    pub all : (key : K) → has cmp a.pending key ≡ waits a.formatted a.desired a.forced key
    pub once : IsDistinct (eq_by_cmp cmp) a.pending
    pub formatted_rows : IsTable cmp a.formatted
    pub desired_rows : IsTable cmp a.desired
