use Rattle.std.proofs.Common.{◌<◌, ◌≤◌, true, length, arith}
use Rattle.ug_world.specs.declared.peer_state.PeerState.{PeerState}
use Rattle.ug_group_rules.specs.Machine.{marks_at}
use Rattle.ug_groups.specs.Members.{system}
use Rattle.ug_groups.proofs.MarkedPeers.{mark_step, mark_end}
use Rattle.ug_groups.proofs.marking.marks_of_all.Goals as goal

pub loop-id-preserved : goal.loop-id-preserved
loop-id-preserved c = λ closed made rows.
    let peers = c.args.world.now.peers in
    let s = system c.args.world.now closed made rows c.args.members.now in
    let inside : c.loop-id.id < length peers = omega arith in
    mark_step (λ (p : PeerState). true) s peers c.loop-id.id c.loop-id.marks.items c.add_mark.new.marks.items (marks_at (λ (p : PeerState). true) 0 peers s) inside (c.in_ok-add_mark.ensures closed made rows) (c.loop-id.invariant closed made rows)

pub returns : goal.returns
returns c = λ closed made rows.
    let peers = c.args.world.now.peers in
    let s = system c.args.world.now closed made rows c.args.members.now in
    let past : length peers ≤ c.loop-id.id = omega arith in
    mark_end (λ (p : PeerState). true) s peers c.loop-id.id c.loop-id.marks.items (marks_at (λ (p : PeerState). true) 0 peers s) past (c.loop-id.invariant closed made rows)
