-- The certificate of a session: for each key that its messages name, the places to which it climbed.
use Rattle.std.specs.Prelude.{◌≡◌, ℕ, ◌||◌, Bool, false, List, map, slice_get, Some}
use Rattle.std.specs.List.{list_any}
use Rattle.std.specs.List.Sorted.{IsStrictlySortedBy}
use Rattle.ug_types.specs.declared.key.Key.{Key}
use Rattle.ug_types.specs.Keys.{same_key}
use Rattle.ug_types.specs.Orders.{key_cmp}
use Rattle.ug_types.specs.Messages.{Message, Updates, Begins, Ends, Ignored}
use Rattle.ug_message.specs.Tables.{Table, among, tables_after}
use Rattle.ug_message.specs.Climbing.{ClimbsTo, values_at}
use Rattle.ug_hearing.specs.Shifts.{Shift, shifts_from}

-- a key, and the messages at which its least place moves, each with the place that it moves to
pub record KeyClimb : Type 0 where
  pub key : Key
  pub shifts : List Shift

-- The key climbs the past with these moves.
pub record IsClimbOf (past tables : List Table) (k : KeyClimb) : Type 0 where
  pub places : List ℕ
  pub climb : ClimbsTo (values_at k.key past) 0 places (values_at k.key tables)
  pub shifts : k.shifts ≡ shifts_from 0 1 places

-- the message withdraws the key, or announces it
abbrev pub names : Key → Message → Bool
names key (Updates u) = among u.withdrawn key || among u.announced key
names key Begins = false
names key Ends = false
names key Ignored = false

-- Every key that is named climbs, in key order, each once.
pub record AreClimbs (past : List Table) (messages : List Message) (climbs : List KeyClimb) : Type 0 where
  pub ascending : IsStrictlySortedBy key_cmp (map (λ (k : KeyClimb). k.key) climbs)
  pub named : (key : Key) → list_any (λ (k : KeyClimb). same_key key k.key) climbs ≡ list_any (names key) messages
  pub each : (i : ℕ) (k : KeyClimb) → slice_get climbs i ≡ Some k → IsClimbOf past (tables_after messages) k
