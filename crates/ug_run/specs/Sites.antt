-- The files that a run leaves in a folder, and how an audit of them may end.
use Rattle.std.specs.Prelude.{◌≡◌, ℕ, List, slice_get, Some}
use Rattle.ug_edge.specs.Told.{FileText, file_named}
use Rattle.ug_report.specs.declared.status.Status.{Status}
use Rattle.ug_report.specs.declared.status.Status.TheVariants as statuses
use Rattle.ug_event_loop.specs.Contents.{WireTold}
use Rattle.ug_audit.specs.Sessions.{file_name}
use Rattle.ug_run.specs.Files.{held_by}

-- In the folder are the bytes of all sessions on these wires, each in the file of its peer's name and its number.
abbrev pub HoldSessions : List FileText → List ℕ → List (List ℕ) → List WireTold → Type 0
HoldSessions files dir names wires =
    (p n : ℕ) (name bytes : List ℕ) → slice_get names p ≡ Some name → held_by wires p n ≡ Some bytes → file_named (file_name dir name n) files ≡ Some bytes

-- So an audit may end where nothing is amiss: all is right, or a call of the outside failed, memory ran out, or a file
-- is past its limit.
abbrev pub IsNothingAmiss : Status → Type 0
IsNothingAmiss statuses.Ok = Unit {0}
IsNothingAmiss statuses.ReadFault = Unit {0}
IsNothingAmiss statuses.ReportFault = Unit {0}
IsNothingAmiss statuses.NoMemory = Unit {0}
IsNothingAmiss statuses.TooLong = Unit {0}
IsNothingAmiss statuses.Usage = ⊥
IsNothingAmiss (statuses.Config number field) = ⊥
IsNothingAmiss statuses.SiteFault = ⊥
IsNothingAmiss (statuses.Lost peer session) = ⊥
IsNothingAmiss (statuses.Malformed cause offset) = ⊥
IsNothingAmiss (statuses.Refuted peer session kind message key) = ⊥
IsNothingAmiss (statuses.Unclear line) = ⊥
