use Rattle.std.proofs.Common.{◌≡◌, ℕ, ◌++◌, Bool, drop}
use Rattle.std.specs.Prelude.{◌&&◌}
use Rattle.ug_events.specs.Views.{event_of}
use Rattle.ug_world.specs.declared.peer_state.PeerState.{PeerState}
use Rattle.ug_world.specs.Touches.{is_about}
use Rattle.ug_speaker.specs.Speech.{is_request}
use Rattle.ug_group_rules.specs.Machine.{marks_at}
use Rattle.ug_groups.specs.Rows.{Rows}
use Rattle.ug_groups.specs.Members.{system}
use Rattle.ug_groups.proofs.marking.marks_of_each_asker.Given as goal

-- the marks so far, and those of the peers that are left
abbrev pub invariant-loop-id : goal.invariant-loop-id
invariant-loop-id l = (closed : Bool) (made : ℕ) (rows : Rows) →
    l.marks.items ++ marks_at (λ (p : PeerState). is_request (event_of l.event) && is_about (event_of l.event) p) l.id (drop l.id l.world.peers) (system l.world closed made rows l.members)
    ≡ marks_at (λ (p : PeerState). is_request (event_of l.event) && is_about (event_of l.event) p) 0 l.world.peers (system l.world closed made rows l.members)
