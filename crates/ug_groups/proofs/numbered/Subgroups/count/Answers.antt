use Rattle.std.specs.Prelude.{None}
use Rattle.std.proofs.Common.{ap, ◌∙◌}
use Rattle.std.proofs.lemmas.Result.{on_ok_weaker}
use Rattle.ug_groups.specs.Rows.{Rows, each_row, counted_row}
use Rattle.ug_groups.proofs.numbered.Subgroups.count.Goals as goal

pub invariant_of-self : goal.invariant_of-self
invariant_of-self c = let i = c.self.inside in c.count_all.ensures.kept i.classes None i.pool c.self.invariant

pub returns : goal.returns
returns c = let i = c.self.inside in on_ok_weaker c.count_all.result (λ is. is i.pool ∙ ap (λ (rs : Rows). each_row counted_row rs) c.self.view_is) c.count_all.ensures.rows
