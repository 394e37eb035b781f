use Rattle.ug_groups.proofs.TurnLeaves.{left-done}
use Rattle.ug_groups.proofs.turning.depart.Goals as goal

pub returns : goal.returns
returns c = λ w key beside.
    left-done c.args.peer w key c.args.subgroups.now c.args.members.now c.know_rows.ensures beside c.leave.new.subgroups c.leave.new.members c.leave.ensures.rows c.leave.ensures.members
