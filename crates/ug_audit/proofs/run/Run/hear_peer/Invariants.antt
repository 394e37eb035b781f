use Rattle.std.proofs.Common.{◌≡◌, ◌+◌, ◌-◌, ◌++◌, ℕ, List, length, Option, Some, slice_get}
use Rattle.ug_edge.specs.Told.{file_told}
use Rattle.ug_world.specs.declared.peer_state.PeerState.{PeerState}
use Rattle.ug_audit.specs.Asked.{IsAsked}
use Rattle.ug_commands.specs.Words.{AuditCommand}
use Rattle.ug_audit.specs.Sessions.{SessionOf, sessions_from}
use Rattle.ug_audit.specs.Auditing.{worlds_of}
use Rattle.ug_audit.specs.Stopping.{last_in, IsAt}
use Rattle.ug_audit.proofs.run.Run.hear_peer.Given as goal

-- the sessions so far were heard, and are right
abbrev pub invariant-loop-before : goal.invariant-loop-before
invariant-loop-before g l = record {
  asked : IsAsked l.id (worlds_of l.self.first l.self.events.items) l.asked;
  begun : (s : PeerState) → slice_get (last_in l.self).peers l.id ≡ Some s → length l.asked.begun.items ≡ s.sessions;
  went : (command : AuditCommand) (names : Option (List (List ℕ))) (s : PeerState) (left : List SessionOf) → command.dir ≡ l.dir → slice_get (last_in l.self).peers l.id ≡ Some s
      → IsAt command (file_told (g.E.Source.files l.fn.site)) l.self names (g.E.Source.picks l.fn.site).names (sessions_from l.id s 1 s.sessions ++ left) l.fn.text
      → IsAt command (file_told (g.E.Source.files l.fn.site)) l.self names (g.E.Source.picks l.site).names (sessions_from l.id s (l.before + 1) (s.sessions - l.before) ++ left) l.text;
  faults : g.E.Source.faults l.site ≡ g.E.Source.faults l.fn.site;
  files : g.E.Source.files l.site ≡ g.E.Source.files l.fn.site;
  made : g.E.Source.made l.site ≡ g.E.Source.made l.fn.site;
  wire_faults : g.E.Source.wire_faults l.site ≡ g.E.Source.wire_faults l.fn.site;
}
