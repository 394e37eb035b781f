use Rattle.ug_groups.proofs.MarkedPeers.{mark_none, mark_some, mark_is}
use Rattle.ug_types.specs.declared.mark.Mark.{Mark}
use Rattle.ug_group_rules.specs.Machine.{mark_at}
use Rattle.ug_groups.specs.Members.{system}
use Rattle.ug_groups.proofs.marking.add_mark.Goals as goal

pub returns-in_default : goal.returns-in_default
returns-in_default c = λ closed made rows s at.
    mark_none c.args.world.now closed made rows c.args.members.now c.args.id c.args.marks.now.items (mark_at c.args.id s (system c.args.world.now closed made rows c.args.members.now)) c.in_default.ensures

pub returns : goal.returns
returns c = λ closed made rows s at.
    let mark : Mark = record { version = c.version.result; peer = c.args.id; session = c.session-session.result; handed = c.handed_now.result } in
    mark_some c.args.world.now closed made rows c.args.members.now c.args.id c.args.marks.now.items c.push.new.self.items mark
    (mark_at c.args.id s (system c.args.world.now closed made rows c.args.members.now)) c.in-Some._sub c.in-Some.ensures c.in-Ok.ensures.ok
    (mark_is c.args.world.now closed made rows c.args.members.now c.args.id c.session-session.result c.handed_now.result c.version.result s at c.session-session.ensures c.version.ensures (c.handed_now.ensures rows))
