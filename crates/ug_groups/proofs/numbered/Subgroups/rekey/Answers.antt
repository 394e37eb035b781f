use Rattle.std.specs.Prelude.{None}
use Rattle.ug_groups.proofs.ComeAndGone.{kept_rekeyed, rows_rekeyed}
use Rattle.ug_groups.proofs.numbered.Subgroups.rekey.Goals as goal

pub invariant_of-self : goal.invariant_of-self
invariant_of-self c = let i = c.self.inside in kept_rekeyed i.classes None i.pool i.live c.rekey.new.live c.args.g c.args.key c.self.invariant c.rekey.ensures

pub returns-clause-rows : goal.returns-clause-rows
returns-clause-rows c = let i = c.self.inside in rows_rekeyed i.classes None i.pool i.live c.rekey.new.live c.args.g c.args.key c.self.invariant c.rekey.ensures c.args.self.now c.self.view_is
