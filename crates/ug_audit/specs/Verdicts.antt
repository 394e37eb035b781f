-- What is found of a session.
use Rattle.std.specs.Prelude.{◌≡◌, ℕ, ◌<◌, ◌≤◌, List, length, Option, None}
use Rattle.ug_types.specs.declared.memory.NoMemory.{NoMemory}
use Rattle.ug_types.specs.declared.capabilities.Capabilities.{Capabilities}
use Rattle.ug_types.specs.Messages.{Message}
use Rattle.ug_message.specs.Tables.{Table}
use Rattle.ug_edge.specs.Told.{IsEnded}
use Rattle.ug_pieces.specs.declared.halt.Halt.{Halt}
use Rattle.ug_pieces.specs.declared.halt.Halt.TheVariants as halts
use Rattle.ug_hearing.specs.declared.breach.Ending.{Ending}
use Rattle.ug_hearing.specs.Breaches.{IsReadAs, IsHeardRight, IsFirstBreach}
use Rattle.ug_hearing.specs.declared.session.Session.{Session}
use Rattle.ug_hearing.specs.Judged.{IsSession, IsJudged, table_in, last_table}
use Rattle.ug_audit.specs.declared.verdict.Verdict.{Verdict}
use Rattle.ug_audit.specs.declared.verdict.Verdict.TheVariants as verdicts

-- the most bytes of a session
unfoldable pub most_bytes : ℕ
most_bytes = 1073741824

-- What is found of these messages and what stands behind them: that they are right, and the judge that stands behind them, or
-- the first breach.
abbrev pub Agrees : Session → List Table → List Table → List Message → Ending → Verdict → Type 0
Agrees session past tables ms ending (verdicts.Right judge) =
    IsHeardRight past (table_in tables) session.syncs.items session.lost (last_table session tables) ms ending × IsJudged session past tables judge ms × (judge.found ≡ None)
Agrees session past tables ms ending (verdicts.Broken b) = IsFirstBreach past (table_in tables) session.syncs.items session.lost (last_table session tables) ms ending b

-- The verdict on a session whose bytes these are.
pub record IsVerdictOn (c : Capabilities) (session : Session) (bytes : List ℕ) (verdict : Verdict) : Type 0 where
  pub messages : List Message
  pub ending : Ending
  pub is : IsReadAs c bytes messages ending
  pub agrees : (past tables : List Table) → IsSession session past tables → Agrees session past tables messages ending verdict

-- All of a source was read, within the limit, and that is the verdict.
pub record IsVerdict (c : Capabilities) (session : Session) (now : Option (List ℕ)) (verdict : Verdict) (read : List ℕ) : Type 0 where
  pub ended : IsEnded now
  pub within : length read ≤ most_bytes
  pub on : IsVerdictOn c session read verdict

-- Why there is none.
abbrev pub IsStop : Halt NoMemory → List ℕ → Type 0
IsStop halts.Read read = length read ≤ most_bytes
IsStop halts.NoMemory read = Unit {0}
IsStop halts.TooLong read = most_bytes < length read
IsStop (halts.Stopped stop) read = Unit {0}
