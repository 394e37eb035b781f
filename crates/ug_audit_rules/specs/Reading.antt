-- How far a report was read.
use Rattle.std.specs.Prelude.{◌≡◌, ℕ, ◌<◌, ◌≤◌, ◌⊎◌, List, [], ◌++◌, length, map, take, Option}
use Rattle.ug_edge.specs.Told.{IsEnded}
use Rattle.ug_pieces.specs.Lines.{lines_of, ended_from, rest_from}
use Rattle.ug_pieces.specs.declared.halt.Halt.{Halt}
use Rattle.ug_pieces.specs.declared.halt.Halt.TheVariants as halts
use Rattle.ug_world.specs.World.{World}
use Rattle.ug_audit_rules.specs.declared.entry.Entry.{Entry}
use Rattle.ug_audit_rules.specs.Reports.{entry_of, entries_of, AreClear}
use Rattle.ug_audit_rules.specs.declared.lines.Told.{Told}
use Rattle.ug_audit_rules.specs.declared.reading.Reading.{Reading}
use Rattle.ug_audit_rules.specs.declared.stop.Stop.{Stop}
use Rattle.ug_audit_rules.specs.Told.{TellsAsMuch, most_lines, IsStop}
use Rattle.ug_audit_rules.specs.Kept.{IsAmple, IsKept}

-- These are all that lines told, they are clear, and they are no more than the limit.
pub record HasTold (t : Told) (all : List Entry) : Type 0 where
  pub clear : AreClear all
  pub count : t.lines ≡ length all
  pub few : length all ≤ most_lines
  pub tells : TellsAsMuch t.entries.items all

-- what the lines tell that a newline ends, and what all lines do
abbrev pub whole_entries : World → List ℕ → List Entry
whole_entries last bytes = map (entry_of last) (ended_from [] bytes)

-- Of all bytes these are left, the lines that end before them were told, and what stands before them of a line that doesn't
-- is kept.
pub record IsMid (last : World) (r : Reading) (all left : List ℕ) : Type 0 where
  pub done : List (List ℕ)
  pub line : List ℕ
  pub lines : ended_from [] all ≡ done ++ ended_from line left
  pub rest : rest_from [] all ≡ rest_from line left
  pub kept : IsKept r.most r.rest.items line
  pub ample : IsAmple last r.most
  pub told : HasTold r.told (map (entry_of last) done)

-- Nothing of these bytes is left.
abbrev pub HasReadTo : World → Reading → List ℕ → Type 0
HasReadTo last r bytes = IsMid last r bytes []

-- These bytes came further; or behind them that is why no more are taken. The world is the same.
abbrev pub HasGone : Reading → World → Reading → World → List ℕ → Type 0
HasGone r w r' w' bytes = (w' ≡ w) × ((stream : List ℕ) → HasReadTo w r stream → HasReadTo w r' (stream ++ bytes))

abbrev pub HasStoppedIn : Reading → World → Reading → World → List ℕ → Stop → Type 0
HasStoppedIn r w r' w' bytes stop = (w' ≡ w) × ((stream : List ℕ) → HasReadTo w r stream → IsStop stop (whole_entries w (stream ++ bytes)))

-- the most bytes of a report
unfoldable pub most_bytes : ℕ
most_bytes = 1073741824

-- All of a report was read, within its limits, its lines are clear, and they tell as much as these.
pub record IsReport (last : World) (now : Option (List ℕ)) (entries : List Entry) (read : List ℕ) : Type 0 where
  pub ended : IsEnded now
  pub few_bytes : length read ≤ most_bytes
  pub few_lines : length (lines_of read) ≤ most_lines
  pub clear : AreClear (entries_of last read)
  pub tells : TellsAsMuch entries (entries_of last read)

-- Why it tells nothing. The whole lines that were read are clear where it could not be read further, or has more bytes
-- than the limit.
abbrev pub IsReportHalt : World → Option (List ℕ) → Halt Stop → List ℕ → Type 0
IsReportHalt last now halts.Read read = (length read ≤ most_bytes) × AreClear (whole_entries last read)
IsReportHalt last now halts.NoMemory read = Unit {0}
IsReportHalt last now halts.TooLong read = (most_bytes < length read) × AreClear (whole_entries last (take most_bytes read))
IsReportHalt last now (halts.Stopped stop) read =
    IsStop stop (whole_entries last (take most_bytes read)) ⊎ (IsEnded now × (length read ≤ most_bytes) × IsStop stop (entries_of last read))
