-- What is so after some messages of a session, where none of their keys could not climb.
use Rattle.std.specs.Prelude.{◌≡◌, ℕ, ◌≤◌, nat_lt, Bool, true, false, ◌&&◌, List, [], Option, Some, None, is_some}
use Rattle.std.specs.List.{list_any}
use Rattle.ug_types.specs.declared.key.Key.{Key}
use Rattle.ug_types.specs.Messages.{Message, Updates, Begins, Ends, Ignored}
use Rattle.ug_message.specs.Tables.{Table, among, reading_from, nothing_read, tables_after}
use Rattle.ug_message.specs.Climbing.{values_at}
use Rattle.ug_hearing.specs.declared.change.Change.{Change}
use Rattle.ug_hearing.specs.Pasts.{value_before}
use Rattle.ug_hearing.specs.Certificates.{names}
use Rattle.ug_hearing.specs.declared.row.Row.{Row}
use Rattle.ug_hearing.specs.declared.standings.Standings.{Standings}
use Rattle.ug_hearing.specs.Keyed.{value_for}
use Rattle.ug_hearing.specs.Courses.{changes_of}
use Rattle.ug_hearing.specs.Passes.{HasRow, CantClimb}

-- the route of the row was announced before the last of so many refreshes began
abbrev pub is_stale_row : ℕ → List Change → Option Row → Bool
is_stale_row refreshes changes None = false
is_stale_row refreshes changes (Some row) = nat_lt row.seen refreshes && is_some (value_before row.standing.next changes)

abbrev pub is_stale_in : ℕ → List (Key × List Change) → List (Key × Row) → Key → Bool
is_stale_in refreshes entries rows key = is_stale_row refreshes (changes_of entries key) (value_for rows key)

-- no row was named after more refreshes than there were
abbrev pub IsSeenBy : ℕ → Option Row → Type 0
IsSeenBy refreshes None = Unit {0}
IsSeenBy refreshes (Some row) = row.seen ≤ refreshes

-- Each key that the messages named has a row, and each row stands as the messages say.
pub record IsHeard (entries : List (Key × List Change)) (from to : ℕ) (past tables : List Table) (st : Standings) (refreshing : Bool) (ms : List Message) : Type 0 where
  pub rows : (key : Key) → HasRow entries from to past tables st key (values_at key (tables_after ms))
  pub named : (key : Key) → is_some (value_for st.rows key) ≡ list_any (names key) ms
  pub seen : (key : Key) → IsSeenBy st.refreshes (value_for st.rows key)
  pub stale : (key : Key) → (reading_from nothing_read ms).stale key ≡ (refreshing && is_stale_in st.refreshes entries st.rows key)

-- So it is after one message more, or the keys that could not climb are known.
pub record IsTaken (entries : List (Key × List Change)) (from to : ℕ) (past tables : List Table) (failed : List Key) (st : Standings) (refreshing : Bool) (ms : List Message) : Type 0 where
  pub heard : failed ≡ [] → IsHeard entries from to past tables st refreshing ms
  pub fails : (key : Key) → among failed key ≡ true → CantClimb entries from to past tables key (values_at key (tables_after ms))
  pub others : (key : Key) → among failed key ≡ false → HasRow entries from to past tables st key (values_at key (tables_after ms))

-- the message ends a refresh, which may be heard of keys that it doesn't name
abbrev pub ends_refresh : Message → Bool
ends_refresh (Updates u) = false
ends_refresh Begins = false
ends_refresh Ends = true
ends_refresh Ignored = false

-- The row of a key that the message says nothing of stays as it was.
abbrev pub KeepsOthers : Message → List (Key × Row) → List (Key × Row) → Type 0
KeepsOthers m old new = ends_refresh m ≡ false → (q : Key) → names q m ≡ false → value_for new q ≡ value_for old q
