-- What a completed run leaves for an auditor.
use Rattle.std.specs.Prelude.{◌≤◌, ℕ, List, length}
use Rattle.ug_pieces.specs.Lines.{lines_of}
use Rattle.ug_world.specs.World.{World}
use Rattle.ug_world.specs.Worlds.{last_world}
use Rattle.ug_event_loop.specs.Files.{most_bytes, most_lines}
use Rattle.ug_audit_rules.specs.Lines.{said_in}
use Rattle.ug_event_loop.specs.Contents.{WireTold}
use Rattle.ug_audit_rules.specs.Audited.{IsAudited}
use Rattle.ug_audit_rules.specs.Reports.{entries_of, AreClear}
use Rattle.ug_run.specs.Files.{held_by}

-- An auditor finds the files right: the events are within their limits, no line of the report is unclear, and each session
-- is as the events and the report ask.
pub record LeavesRight (w : World) (events report : List ℕ) (wires : List WireTold) : Type 0 where
  pub few_bytes : length events ≤ most_bytes
  pub few_lines : length (lines_of events) ≤ most_lines
  pub clear : AreClear (entries_of (last_world w (said_in events)) report)
  pub audited : IsAudited w (said_in events) (entries_of (last_world w (said_in events)) report) (held_by wires)
