use Rattle.std.proofs.Common.{sym, ◌∙◌}
use Rattle.ug_events.specs.Views.{event_of}
use Rattle.ug_world.specs.declared.peer_state.PeerState.{PeerState}
use Rattle.ug_world.specs.Touches.{is_about}
use Rattle.ug_speaker.specs.Speech.{is_request}
use Rattle.ug_groups.specs.Members.{system}
use Rattle.ug_groups.proofs.MarkedPeers.{mark_nobody}
use Rattle.ug_groups.proofs.marking.marks_of_asker.Goals as goal

pub returns : goal.returns
returns c = λ closed made rows.
    let e = event_of c.args.event.now in
    let none = mark_nobody (is_request e) (λ (p : PeerState). is_about e p) 0 c.args.world.now.peers (system c.args.world.now closed made rows c.args.members.now) (sym c.is_request.ensures ∙ c.if-is_request.false) in
    c.new.ensures ∙ sym none
