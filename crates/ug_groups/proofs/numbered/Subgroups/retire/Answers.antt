use Rattle.std.specs.Prelude.{None}
use Rattle.ug_groups.proofs.ComeAndGone.{kept_gone, rows_gone}
use Rattle.ug_groups.proofs.numbered.Subgroups.retire.Goals as goal

pub invariant_of-self : goal.invariant_of-self
invariant_of-self c = let i = c.self.inside in kept_gone i.classes None i.pool c.retire.new.pool i.live c.retire.new.live c.args.g c.self.invariant c.retire.ensures

pub returns : goal.returns
returns c = let i = c.self.inside in rows_gone i.classes None i.pool c.retire.new.pool i.live c.retire.new.live c.args.g c.self.invariant c.retire.ensures c.args.self.now c.self.view_is
