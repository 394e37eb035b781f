use Rattle.std.specs.Prelude.{map}
use Rattle.std.specs.Option.{option_map}
use Rattle.std.proofs.Common.{ap, ◌∙◌}
use Rattle.std.proofs.lemmas.Result.{IfOk-weaker}
use Rattle.ug_groups.specs.Rows.{Row, row_at}
use Rattle.ug_groups.proofs.FirstKeys.{groups_are}
use Rattle.ug_groups.proofs.numbered.Subgroups.groups.Goals as goal

pub returns : goal.returns
returns c =
    let i = c.self.inside in
    record {
      keys = IfOk-weaker c.first_of_each.result _ _
          (λ gs is. ap (map (λ g. option_map (λ (r : Row). r.sub.key) (row_at g c.args.self.now))) is ∙ groups_are i.classes i.pool i.live c.args.self.now c.self.view_is c.self.invariant.classed c.entries.result.now c.entries.ensures)
          c.first_of_each.ensures;
    }
