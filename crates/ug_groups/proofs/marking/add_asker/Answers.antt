use Rattle.std.proofs.Common.{sym, ◌∙◌, is_some}
use Rattle.std.specs.Prelude.{◌&&◌}
use Rattle.ug_events.specs.Views.{event_of}
use Rattle.ug_world.specs.Touches.{is_about}
use Rattle.ug_speaker.specs.Speech.{is_request}
use Rattle.ug_group_rules.specs.Machine.{mark_at, seat_at}
use Rattle.ug_groups.specs.Members.{system}
use Rattle.ug_groups.proofs.MarkedPeers.{asks-mark}
use Rattle.ug_groups.proofs.Seats.{peer-name}
use Rattle.ug_groups.proofs.marking.add_asker.Goals as goal

pub returns-in_ok-add_mark : goal.returns-in_ok-add_mark
returns-in_ok-add_mark c = λ closed made rows s at.
    let state = system c.args.world.now closed made rows c.args.members.now in
    asks-mark (is_request (event_of c.args.event.now) && is_about (event_of c.args.event.now) s) (is_some (seat_at c.args.id state)) c.args.marks.now.items c.add_mark.new.marks.items (mark_at c.args.id s state)
    (sym (c.asks_again.ensures s (peer-name c.args.world.now c.args.id c.peer.result.now s c.peer.ensures at)) ∙ c.if-asks_again.true) (c.in_ok-add_mark.ensures closed made rows s at)
