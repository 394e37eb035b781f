use Rattle.std.proofs.Common.{refl}
use Rattle.ug_groups.specs.Rows.{must_part_row}
use Rattle.ug_groups.proofs.Found.{found_some, found_none}
use Rattle.ug_groups.proofs.numbered.Subgroups.first_to_part.Goals as goal

pub returns-clause-some : goal.returns-clause-some
returns-clause-some c =
    let i = c.self.inside in
    found_some (must_part_row c.args.after) i.pool i.live c.args.self.now c.self.view_is (λ e. refl) c.entries-entries.result.now c.entries-entries.ensures c.place_to_part.result c.place_to_part.ensures c.number_of.result c.number_of.ensures

pub returns-clause-none : goal.returns-clause-none
returns-clause-none c =
    let i = c.self.inside in
    found_none (must_part_row c.args.after) i.pool i.live c.args.self.now c.self.view_is (λ e. refl) c.entries-entries.result.now c.entries-entries.ensures c.place_to_part.result c.place_to_part.ensures c.number_of.result c.number_of.ensures
