use Rattle.std.proofs.Common.{Option, ap, sym, ◌∙◌}
use Rattle.std.specs.Borrow.{Bor}
use Rattle.std.specs.Prelude.{option_copied}
use Rattle.ug_types.specs.Ip.{IpPrefix}
use Rattle.ug_world.specs.Rows.{rows_behind}
use Rattle.ug_world.proofs.Families.{none_behind}
use Rattle.ug_world.proofs.row_trees.v4_behind.Goals as goal

pub returns-in-V6 : goal.returns-in-V6
returns-in-V6 c =
    let rows = c.args.rows.now.entries in
    let family = ap (λ (p : IpPrefix). p.family) (sym c.prefix.view_is) ∙ c.in-V6.is in
    sym (none_behind c.in-Some.prefix.now rows family c.requires) ∙ ap (λ (from : Option (Bor IpPrefix)). rows_behind (option_copied from) rows) (sym c.in-Some.is)
