use Rattle.std.specs.Prelude.{None}
use Rattle.ug_group_rules.specs.Machine.{unstuck}
use Rattle.ug_groups.specs.Rows.{with_sub}
use Rattle.ug_groups.proofs.Accounts.{kept_done, rows_seen}
use Rattle.ug_groups.proofs.numbered.Subgroups.unstick.Goals as goal

pub invariant_of-self : goal.invariant_of-self
invariant_of-self c = let i = c.self.inside in kept_done i.pool i.pool i.live c.unstick.new.live c.args.g (with_sub unstuck) (c.unstick.ensures i.pool) i.classes None c.self.invariant

pub returns : goal.returns
returns c = let i = c.self.inside in rows_seen i.pool i.pool i.live c.unstick.new.live c.args.g (with_sub unstuck) i.classes None c.self.invariant c.args.self.now c.self.view_is (c.unstick.ensures i.pool)
