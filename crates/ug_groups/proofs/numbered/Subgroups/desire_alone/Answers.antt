use Rattle.std.proofs.Common.{ap, ◌∙◌}
use Rattle.std.proofs.lemmas.Result.{on_ok_weaker}
use Rattle.ug_groups.specs.Standings.{desiring}
use Rattle.ug_groups.specs.Rows.{Rows, with_row, with_sub}
use Rattle.ug_groups.proofs.numbered.Subgroups.desire_alone.Goals as goal

pub invariant_of-self : goal.invariant_of-self
invariant_of-self c = c.desire_alone.ensures.kept c.self.inside.classes c.self.invariant

pub returns : goal.returns
returns c = on_ok_weaker c.desire_alone.result (λ is. is ∙ ap (λ (rs : Rows). with_row c.args.g (with_sub (desiring c.args.key.now c.args.value)) rs) c.self.view_is) c.desire_alone.ensures.rows
