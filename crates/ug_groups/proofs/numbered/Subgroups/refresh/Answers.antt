use Rattle.std.specs.Prelude.{None}
use Rattle.ug_group_rules.specs.Machine.{asked}
use Rattle.ug_groups.specs.Rows.{with_sub}
use Rattle.ug_groups.proofs.Accounts.{kept_done, rows_seen}
use Rattle.ug_groups.proofs.numbered.Subgroups.refresh.Goals as goal

pub invariant_of-self-in_default : goal.invariant_of-self-in_default
invariant_of-self-in_default c = c.clear.ensures c.self.inside.classes

pub invariant_of-self : goal.invariant_of-self
invariant_of-self c = let i = c.self.inside in kept_done i.pool i.pool i.live c.refresh.new.live c.args.g (with_sub asked) c.in-Ok.ensures i.classes None c.self.invariant

pub returns : goal.returns
returns c = let i = c.self.inside in rows_seen i.pool i.pool i.live c.refresh.new.live c.args.g (with_sub asked) i.classes None c.self.invariant c.args.self.now c.self.view_is c.in-Ok.ensures
