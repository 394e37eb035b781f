-- How a run that began ends: its last lines, and its status.
use Rattle.std.specs.Prelude.{◌≡◌, ℕ, ◌⊎◌, Bool, true, false, List, [], ◌∷◌, ◌++◌, Option}
use Rattle.std.specs.List.{flat_map}
use Rattle.ug_edge.specs.Told.{AppendsPiece}
use Rattle.ug_pieces.specs.Reporting.{AppendsFront}
use Rattle.ug_report.specs.declared.endings.Loss.{Loss}
use Rattle.ug_report.specs.Report.{loss_text, counts_text, losses_status}
use Rattle.ug_commands.specs.Files.{AppendsThenStatus}
use Rattle.ug_report.specs.Statuses.{status_text}
use Rattle.ug_report.specs.declared.status.Status.{Status}
use Rattle.ug_report.specs.declared.status.Status.TheVariants as statuses
use Rattle.ug_event_loop.specs.declared.reading.End.{End}
use Rattle.ug_event_loop.specs.declared.reading.End.TheVariants as ends

-- the last lines of a run that completed, but for the status line
abbrev pub last_text : List (List ℕ) → List Loss → ℕ → ℕ → List ℕ
last_text names losses accepted refused = flat_map (loss_text names) losses ++ counts_text accepted refused

-- this loss is the first
abbrev pub IsFirst : ℕ → ℕ → List Loss → Type 0
IsFirst peer session losses = (others : List Loss) × (losses ≡ record { peer = peer; session = session } ∷ others)

module _ (names : List (List ℕ)) (losses : List Loss) (accepted refused : ℕ) (before held : Option (List ℕ)) (failed : Type 0) where
  -- The last lines of a run whose lines are all taken, and its status.
  abbrev pub IsConcluded : Status → Type 0
  IsConcluded statuses.Ok = (losses ≡ []) × AppendsPiece before held (last_text names losses accepted refused)
  IsConcluded (statuses.Lost peer session) = IsFirst peer session losses × AppendsThenStatus before held failed (last_text names losses accepted refused) (losses_status names losses)
  IsConcluded statuses.ReportFault = failed × AppendsFront before held (last_text names losses accepted refused)
  IsConcluded statuses.NoMemory = AppendsThenStatus before held failed [] (status_text statuses.NoMemory)
  IsConcluded statuses.Usage = ⊥
  IsConcluded (statuses.Config number field) = ⊥
  IsConcluded statuses.ReadFault = ⊥
  IsConcluded statuses.SiteFault = ⊥
  IsConcluded statuses.TooLong = ⊥
  IsConcluded (statuses.Malformed cause offset) = ⊥
  IsConcluded (statuses.Refuted peer session kind message key) = ⊥
  IsConcluded (statuses.Unclear line) = ⊥

  -- the same, unless a loss was passed over since memory ran out
  abbrev pub CompletesBy : Bool → Status → Type 0
  CompletesBy false status = IsConcluded status
  CompletesBy true status = (status ≡ statuses.NoMemory) × AppendsThenStatus before held failed [] (status_text statuses.NoMemory)

  -- The end of a report, and the status, by how the reading ended.
  abbrev pub IsFinished : End → Bool → Status → Type 0
  IsFinished ends.Complete unnoted status = CompletesBy unnoted status
  IsFinished ends.Read unnoted status = (status ≡ statuses.ReadFault) × AppendsThenStatus before held failed [] (status_text statuses.ReadFault)
  IsFinished ends.Report unnoted status = (status ≡ statuses.ReportFault) × (held ≡ before)
  IsFinished ends.NoMemory unnoted status = (status ≡ statuses.NoMemory) × AppendsThenStatus before held failed [] (status_text statuses.NoMemory)
  IsFinished ends.TooLong unnoted status = (status ≡ statuses.TooLong) × AppendsThenStatus before held failed [] (status_text statuses.TooLong)
