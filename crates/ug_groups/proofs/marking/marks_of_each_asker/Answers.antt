use Rattle.std.proofs.Common.{◌<◌, ◌≤◌, length, arith}
use Rattle.std.specs.Prelude.{◌&&◌}
use Rattle.ug_events.specs.Views.{event_of}
use Rattle.ug_world.specs.declared.peer_state.PeerState.{PeerState}
use Rattle.ug_world.specs.Touches.{is_about}
use Rattle.ug_speaker.specs.Speech.{is_request}
use Rattle.ug_group_rules.specs.Machine.{marks_at}
use Rattle.ug_groups.specs.Members.{system}
use Rattle.ug_groups.proofs.MarkedPeers.{mark_step, mark_end}
use Rattle.ug_groups.proofs.marking.marks_of_each_asker.Goals as goal

pub loop-id-preserved : goal.loop-id-preserved
loop-id-preserved c = λ closed made rows.
    let peers = c.args.world.now.peers in
    let s = system c.args.world.now closed made rows c.args.members.now in
    let inside : c.loop-id.id < length peers = omega arith in
    let e = event_of c.args.event.now in
    mark_step (λ (p : PeerState). is_request e && is_about e p) s peers c.loop-id.id c.loop-id.marks.items c.add_asker.new.marks.items (marks_at (λ (p : PeerState). is_request e && is_about e p) 0 peers s) inside (c.in_ok-add_asker.ensures closed made rows) (c.loop-id.invariant closed made rows)

pub returns : goal.returns
returns c = λ closed made rows.
    let peers = c.args.world.now.peers in
    let s = system c.args.world.now closed made rows c.args.members.now in
    let past : length peers ≤ c.loop-id.id = omega arith in
    let e = event_of c.args.event.now in
    mark_end (λ (p : PeerState). is_request e && is_about e p) s peers c.loop-id.id c.loop-id.marks.items (marks_at (λ (p : PeerState). is_request e && is_about e p) 0 peers s) past (c.loop-id.invariant closed made rows)
