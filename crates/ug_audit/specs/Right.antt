-- What an auditor asks of the files that a site tells.
use Rattle.std.specs.Prelude.{◌≡◌, ℕ, List, slice_get, Option, Some, None, Ok}
use Rattle.ug_edge.specs.Told.{FileText, file_named}
use Rattle.ug_world.specs.declared.peer_state.PeerState.{PeerState}
use Rattle.ug_world.specs.World.{World}
use Rattle.ug_config.specs.Worlds as configs
use Rattle.ug_audit_rules.specs.Audited.{IsAudited}
use Rattle.ug_audit_rules.specs.Lines.{said_in}
use Rattle.ug_commands.specs.Words.{AuditCommand}
use Rattle.ug_audit.specs.Sessions.{file_name}
use Rattle.ug_audit.specs.Auditing.{last_of, told_by}

-- the bytes of the file of a session of a peer
abbrev pub held_by : List ℕ → List FileText → ℕ → Option PeerState → Option (List ℕ)
held_by dir files number None = None
held_by dir files number (Some s) = file_named (file_name dir s.peer.name number) files

-- Whatever world the configuration stands for: the sessions that a run from it with these events has left are right, by what
-- the report tells.
abbrev pub AreRight : AuditCommand → List FileText → Type 0
AreRight command files =
    (settings events report : List ℕ) (w : World) → file_named command.config files ≡ Some settings → configs.config settings ≡ Ok w
    → file_named command.events files ≡ Some events → file_named command.report files ≡ Some report
    → IsAudited w (said_in events) (told_by w events report) (λ (p n : ℕ). held_by command.dir files n (slice_get (last_of w events).peers p))
