-- What is found at the end of a session.
use Rattle.std.specs.Prelude.{◌≡◌, ◌≢◌, ℕ, ◌+◌, ◌<◌, ◌==◌, nat_lt, Bool, true, false, ◌&&◌, ◌||◌, not, List, length, Option, Some, None, if◌then◌else◌}
use Rattle.std.specs.declared.cmp.Ordering.TheVariants.{Greater}
use Rattle.ug_types.specs.declared.key.Key.{Key}
use Rattle.ug_types.specs.Messages.{Message}
use Rattle.ug_types.specs.Orders.{key_cmp}
use Rattle.ug_message.specs.Tables.{Table}
use Rattle.ug_hearing.specs.declared.breach.Ending.{Ending}
use Rattle.ug_hearing.specs.declared.breach.Ending.TheVariants.{Whole, Cut, Malformed}
use Rattle.ug_hearing.specs.declared.breach.Breach.{Breach}
use Rattle.ug_hearing.specs.declared.breach.BreachKind.{BreachKind}
use Rattle.ug_hearing.specs.declared.breach.BreachKind.TheVariants as kinds
use Rattle.ug_hearing.specs.Breaches.{IsHeardRight, IsFirstBreach}
use Rattle.ug_hearing.specs.declared.session.Session.{Session}
use Rattle.ug_hearing.specs.declared.judge.Judge.{Judge}
use Rattle.ug_hearing.specs.Differences.{IsSame, Differs}
use Rattle.ug_hearing.specs.Judged.{table_in, last_table}

-- The first breach of the session, or that there is none.
abbrev pub IsAnswer : Session → List Table → List Table → List Message → Ending → Option Breach → Type 0
IsAnswer session past tables ms ending None = IsHeardRight past (table_in tables) session.syncs.items session.lost (last_table session tables) ms ending
IsAnswer session past tables ms ending (Some b) = IsFirstBreach past (table_in tables) session.syncs.items session.lost (last_table session tables) ms ending b

abbrev pub is_short_of : Session → Judge → Bool
is_short_of session j = nat_lt j.next (length session.syncs.items) && not session.lost

abbrev pub is_amiss : BreachKind → Bool
is_amiss kinds.Unread = false
is_amiss kinds.Stuck = false
is_amiss kinds.Amiss = true
is_amiss kinds.Off = false

abbrev pub is_unread : Ending → Bool → Bool
is_unread Whole lost = false
is_unread Cut lost = not lost
is_unread Malformed lost = true

abbrev pub breach_at : Judge → BreachKind → Option Key → Breach
breach_at j kind key = record { kind = kind; message = j.messages; key = key }

abbrev pub found_in_end : Session → Judge → Breach → Breach
found_in_end session j b = if is_short_of session j && (is_amiss b.kind && (b.message == j.messages)) then breach_at j kinds.Amiss None else b

-- The least key that isn't as it should be, or that there is none or none is asked for.
abbrev pub IsOffBy : Session → Judge → Option Key → Type 0
IsOffBy session j None = (session.lost || not session.is_open) ≡ false → (q : Key) → IsSame j.hearing.standings.rows session.course.changes session.course.from session.last q
IsOffBy session j (Some k) =
    ((session.lost || not session.is_open) ≡ false) × Differs j.hearing.standings.rows session.course.changes session.course.from session.last k
    × ((q : Key) → Differs j.hearing.standings.rows session.course.changes session.course.from session.last q → key_cmp k q ≢ Greater)

-- the number behind this one, where it is of 64 bits
abbrev pub IsNextOf : ℕ → ℕ → Type 0
IsNextOf n m = n < 18446744073709551615 → m ≡ n + 1

abbrev pub NoneOff : Session → Judge → Type 0
NoneOff session j = IsOffBy session j None

-- the session ends before a mark of `sync`; or a key isn't as it should be; or bytes follow that must not
pub data IsEnd (session : Session) (j : Judge) (ending : Ending) : Breach → Type 0 where
  EndsShort : is_short_of session j ≡ true → IsEnd session j ending (breach_at j kinds.Amiss None)
  EndsOff : (key : Key) → is_short_of session j ≡ false → IsOffBy session j (Some key) → IsEnd session j ending (breach_at j kinds.Off (Some key))
  EndsUnread : (message : ℕ) → is_short_of session j ≡ false → NoneOff session j → is_unread ending session.lost ≡ true → IsNextOf j.messages message → IsEnd session j ending (record { kind = kinds.Unread; message = message; key = None })

-- What is found behind the last message: the first of these that there is.
abbrev pub IsEndOf : Session → Judge → Ending → Option Breach → Type 0
IsEndOf session j ending None = (is_short_of session j ≡ false) × NoneOff session j × (is_unread ending session.lost ≡ false)
IsEndOf session j ending (Some b) = IsEnd session j ending b
