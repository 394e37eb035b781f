use Rattle.std.specs.Prelude.{None}
use Rattle.ug_groups.specs.Rows.{left_row}
use Rattle.ug_groups.proofs.Accounts.{kept_done, rows_seen}
use Rattle.ug_groups.proofs.numbered.Subgroups.leave.Goals as goal

pub invariant_of-self : goal.invariant_of-self
invariant_of-self c = let i = c.self.inside in kept_done i.pool i.pool i.live c.leave.new.live c.args.g (left_row c.args.member) (c.leave.ensures i.pool) i.classes None c.self.invariant

pub returns : goal.returns
returns c = let i = c.self.inside in rows_seen i.pool i.pool i.live c.leave.new.live c.args.g (left_row c.args.member) i.classes None c.self.invariant c.args.self.now c.self.view_is (c.leave.ensures i.pool)
