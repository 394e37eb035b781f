-- What is known of a session after some of its messages.
use Rattle.std.specs.Prelude.{◌≡◌, ◌≢◌, ℕ, ◌<◌, ◌≤◌, Bool, true, false, List, [], ◌∷◌, ◌++◌, length, take, slice_get, Option, Some, None, if◌then◌else◌}
use Rattle.std.specs.declared.cmp.Ordering.TheVariants.{Greater}
use Rattle.ug_types.specs.declared.key.Key.{Key}
use Rattle.ug_types.specs.declared.mark.Mark.{Mark}
use Rattle.ug_types.specs.Messages.{Message}
use Rattle.ug_message.specs.Tables.{Table, table_of}
use Rattle.ug_hearing.specs.declared.breach.Ending.{Ending}
use Rattle.ug_hearing.specs.declared.breach.Breach.{Breach}
use Rattle.ug_hearing.specs.declared.breach.BreachKind.{BreachKind}
use Rattle.ug_hearing.specs.declared.breach.BreachKind.TheVariants as kinds
use Rattle.ug_hearing.specs.Breaches.{AreAlike, IsBreach, breach_cmp}
use Rattle.ug_hearing.specs.Courses.{IsCourse}
use Rattle.ug_hearing.specs.Heard.{IsHeard}
use Rattle.ug_hearing.specs.declared.session.Session.{Session}
use Rattle.ug_hearing.specs.declared.judge.Judge.{Judge}
use Rattle.ug_hearing.specs.Watched.{IsWatched}

-- the numbers of messages do not fall along these marks
abbrev pub Rise : ℕ → List Mark → Type 0
Rise low [] = Unit {0}
Rise low (m ∷ marks) = (low ≤ m.handed) × Rise m.handed marks

-- the table of a version
abbrev pub table_in : List Table → ℕ → Option Table
table_in tables version = slice_get tables version

-- the table that a session is to end with
abbrev pub last_table : Session → List Table → Option Table
last_table session tables = if session.is_open then slice_get tables session.last else None

-- The session follows these tables, and its marks and its end are of versions that there are.
pub record IsSession (session : Session) (past tables : List Table) : Type 0 where
  pub course : IsCourse session.course.changes session.course.from session.course.to past tables
  pub rise : Rise 0 session.syncs.items
  pub versions : (i : ℕ) (m : Mark) → slice_get session.syncs.items i ≡ Some m → m.version < length tables
  pub last : session.last < length tables

-- of these marks those before `next` are of at most so many messages, and the others of more
pub record IsUpToMark (syncs : List Mark) (next messages : ℕ) : Type 0 where
  pub behind : (i : ℕ) (m : Mark) → slice_get syncs i ≡ Some m → i < next → m.handed ≤ messages
  pub ahead : (i : ℕ) (m : Mark) → slice_get syncs i ≡ Some m → next ≤ i → messages < m.handed

-- At each mark of at most so many messages the whole table was there.
abbrev pub AreWhole : List Table → List Mark → List Message → Type 0
AreWhole tables syncs ms =
    (i : ℕ) (m : Mark) (table : Table) → slice_get syncs i ≡ Some m → m.handed ≤ length ms → slice_get tables m.version ≡ Some table → AreAlike (table_of (take m.handed ms)) table

abbrev pub found_amiss : ℕ → Option Key → Option Breach → Option Breach
found_amiss message None before = before
found_amiss message (Some key) before = Some (record { kind = kinds.Amiss; message = message; key = Some key })

-- The marks of the messages so far were checked, and this is the least key that differs at one of them.
pub record IsChecked (old new : Judge) (is : Option Key → Type 0) : Type 0 where
  pub worst : Option Key
  pub it : is worst
  pub hearing : new.hearing ≡ old.hearing
  pub messages : new.messages ≡ old.messages
  pub found : new.found ≡ found_amiss old.messages worst old.found

-- No breach is there so far.
pub record IsClear (session : Session) (past tables : List Table) (j : Judge) (ms : List Message) : Type 0 where
  pub heard : IsHeard session.course.changes session.course.from session.course.to past tables j.hearing.standings j.hearing.refreshing ms
  pub marks : IsUpToMark session.syncs.items j.next (length ms)
  pub whole : AreWhole tables session.syncs.items ms
  pub watched : IsWatched j.hearing.standings.rows session.course.changes session.course.from j.watch

-- the breach is that the session ends before a mark of `sync`
abbrev pub is_short_by : BreachKind → Option Key → Bool
is_short_by kinds.Amiss None = true
is_short_by kinds.Amiss (Some key) = false
is_short_by kinds.Unread key = false
is_short_by kinds.Stuck key = false
is_short_by kinds.Off key = false

abbrev pub is_short : Breach → Bool
is_short b = is_short_by b.kind b.key

-- marks that are amiss are known up to their message
abbrev pub IsMarked : BreachKind → List Mark → ℕ → ℕ → Type 0
IsMarked kinds.Unread syncs next message = ⊥
IsMarked kinds.Stuck syncs next message = Unit {0}
IsMarked kinds.Amiss syncs next message = IsUpToMark syncs next message
IsMarked kinds.Off syncs next message = ⊥

-- This breach is there, whatever comes, and none comes before it but that the session may end before a mark of `sync`.
pub record IsFound (session : Session) (past tables : List Table) (b : Breach) (next : ℕ) (ms : List Message) : Type 0 where
  pub early : b.message ≤ length ms
  pub marks : IsMarked b.kind session.syncs.items next b.message
  pub is : (more : List Message) (ending : Ending) → IsBreach past (table_in tables) session.syncs.items session.lost (last_table session tables) (ms ++ more) ending b
  pub first : (more : List Message) (ending : Ending) (other : Breach) → IsBreach past (table_in tables) session.syncs.items session.lost (last_table session tables) (ms ++ more) ending other
      → is_short other ≡ false → breach_cmp b other ≢ Greater

abbrev pub IsSo : Session → List Table → List Table → Judge → List Message → Option Breach → Type 0
IsSo session past tables j ms None = IsClear session past tables j ms
IsSo session past tables j ms (Some b) = IsFound session past tables b j.next ms

-- What is known after these messages.
pub record IsJudged (session : Session) (past tables : List Table) (j : Judge) (ms : List Message) : Type 0 where
  pub count : j.messages ≡ length ms
  pub room : j.messages < 18446744073709551615
  pub so : IsSo session past tables j ms j.found
