use Rattle.std.proofs.Common.{sym, ◌∙◌}
use Rattle.ug_groups.proofs.ListFacts.{get_is}
use Rattle.ug_groups.proofs.MarkedPeers.{handed-none, handed-some}
use Rattle.ug_groups.proofs.marking.handed_now.Goals as goal

pub returns-then-place-members : goal.returns-then-place-members
returns-then-place-members c = λ rows. sym (handed-none rows c.args.members.now c.args.place c.if-place-members.true c.args.session)

pub returns : goal.returns
returns c = λ rows.
    c.handed_in.ensures
    ∙ sym (handed-some rows c.args.members.now c.args.place c.index-members-place.result (get_is c.args.members.now c.args.place c.index-members-place.result c.if-place-members.false c.index-members-place.is) c.args.session)
