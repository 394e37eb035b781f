use Rattle.std.specs.Prelude.{None, length}
use Rattle.std.proofs.Common.{ap, ◌∙◌, sym}
use Rattle.ug_groups.proofs.Lists.{length_map}
use Rattle.ug_groups.specs.Entries.{row_in}
use Rattle.ug_groups.proofs.ComeAndGone.{kept_added, rows_added}
use Rattle.ug_groups.proofs.numbered.Subgroups.add.Goals as goal

pub invariant_of-self-2 : goal.invariant_of-self-2
invariant_of-self-2 c = let i = c.self.inside in kept_added i.classes None i.pool i.live c.add.new.live c.args.key c.args.limit c.self.invariant c.in_ok-g.ensures.ok

pub returns-clause-number : goal.returns-clause-number
returns-clause-number c = let i = c.self.inside in c.in_ok-g.ensures.number ∙ sym (length_map (row_in i.pool) i.live) ∙ ap length c.self.view_is

pub returns-clause-rows : goal.returns-clause-rows
returns-clause-rows c = let i = c.self.inside in rows_added i.classes None i.pool i.live c.add.new.live c.args.key c.args.limit c.self.invariant c.in_ok-g.ensures.ok c.args.self.now c.self.view_is
