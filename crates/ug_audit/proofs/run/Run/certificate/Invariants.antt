use Rattle.std.proofs.Common.{◌≡◌, ℕ, List, [], drop, Option}
use Rattle.ug_edge.specs.Told.{file_told}
use Rattle.ug_commands.specs.Words.{AuditCommand}
use Rattle.ug_audit.specs.Sessions.{sessions_of, sessions_of_peers}
use Rattle.ug_audit.specs.Stopping.{last_in, IsAt}
use Rattle.ug_audit.proofs.run.Run.certificate.Given as goal

-- the sessions of the peers so far were heard, and are right
abbrev pub invariant-loop-id : goal.invariant-loop-id
invariant-loop-id g l = record {
  went : (command : AuditCommand) (names : Option (List (List ℕ))) → command.dir ≡ l.dir
      → IsAt command (file_told (g.E.Source.files l.fn.site)) l.self names (g.E.Source.picks l.fn.site).names (sessions_of (last_in l.self)) []
      → IsAt command (file_told (g.E.Source.files l.fn.site)) l.self names (g.E.Source.picks l.site).names (sessions_of_peers l.id (drop l.id (last_in l.self).peers)) l.text;
  faults : g.E.Source.faults l.site ≡ g.E.Source.faults l.fn.site;
  files : g.E.Source.files l.site ≡ g.E.Source.files l.fn.site;
  made : g.E.Source.made l.site ≡ g.E.Source.made l.fn.site;
  wire_faults : g.E.Source.wire_faults l.site ≡ g.E.Source.wire_faults l.fn.site;
}
