-- What of a run an auditor sees: the marks that are told of lines, and the bytes of sessions.
use Rattle.std.specs.Prelude.{◌≡◌, ℕ, zero, suc, List, [], ◌∷◌, ◌++◌, slice_get, Option, Some, None, option_and_then, Ok, Err}
use Rattle.ug_types.specs.declared.mark.Mark.{Mark}
use Rattle.ug_events.specs.Events.{Saying, SaysNothing, SaysSync, Says}
use Rattle.ug_events.specs.Reads.{Reads}
use Rattle.ug_report.specs.Report.{first_marks, later_marks}
use Rattle.ug_event_loop.specs.Contents.{WireTold}

-- the marks of a line that says `sync`
abbrev pub sync_marks : Reads Saying → List Mark → List Mark
sync_marks (Ok SaysNothing) ms = []
sync_marks (Ok SaysSync) ms = ms
sync_marks (Ok (Says e)) ms = []
sync_marks (Err refusal) ms = []

-- those of all lines, in their order
abbrev pub all_syncs : List (Reads Saying) → List (List Mark) → List Mark
all_syncs [] marks = []
all_syncs (line ∷ lines) marks = sync_marks line (first_marks marks) ++ all_syncs lines (later_marks marks)

abbrev pub bytes_of : ℕ → Option (List (List ℕ)) → Option (List ℕ)
bytes_of zero sessions = None
bytes_of (suc n) None = None
bytes_of (suc n) (Some sessions) = slice_get sessions n

-- the bytes of session `n`, counted from 1, on the wire of the peer at a place
abbrev pub held_by : List WireTold → ℕ → ℕ → Option (List ℕ)
held_by wires p n = option_and_then (λ (wire : WireTold). bytes_of n wire.sessions) (slice_get wires p)

-- Each wire tells its sessions.
abbrev pub TellAll : List WireTold → Type 0
TellAll wires = (p : ℕ) (wire : WireTold) → slice_get wires p ≡ Some wire → (sessions : List (List ℕ)) × (wire.sessions ≡ Some sessions)
