use Rattle.std.proofs.Common.{refl, ◌∙◌}
use Rattle.ug_group_rules.specs.Machine.{owes}
use Rattle.ug_groups.proofs.Found.{found_any}
use Rattle.ug_groups.proofs.numbered.Subgroups.some_owes.Goals as goal

pub returns : goal.returns
returns c =
    let i = c.self.inside in
    c.is_some.ensures ∙ found_any (λ r. owes r.sub) i.pool i.live c.args.self.now c.self.view_is (λ e. refl) c.entries.result.now c.entries.ensures c.place_that_owes.result c.place_that_owes.ensures
