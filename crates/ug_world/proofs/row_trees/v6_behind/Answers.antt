use Rattle.std.proofs.Common.{Option, ap, sym, ◌∙◌}
use Rattle.std.specs.Borrow.{Bor}
use Rattle.std.specs.Prelude.{option_copied}
use Rattle.ug_types.specs.Ip.{IpPrefix}
use Rattle.ug_world.specs.Rows.{rows_behind}
use Rattle.ug_world.proofs.Families.{all_between, all_behind}
use Rattle.ug_world.proofs.PrefixOrder.{behind_same}
use Rattle.ug_world.proofs.row_trees.v6_behind.Goals as goal

pub returns-in-V4 : goal.returns-in-V4
returns-in-V4 c =
    let rows = c.args.rows.now.entries in
    let family = ap (λ (p : IpPrefix). p.family) (sym c.prefix.view_is) ∙ c.in-V4.is in
    c.range-in-V4.ensures.between tt ∙ all_between rows ∙ sym (all_behind c.in-Some.prefix.now rows family c.requires)
    ∙ ap (λ (from : Option (Bor IpPrefix)). rows_behind (option_copied from) rows) (sym c.in-Some.is)

pub returns-in-V6 : goal.returns-in-V6
returns-in-V6 c =
    let rows = c.args.rows.now.entries in
    c.range-in-V6.ensures.between tt ∙ behind_same rows c.narrow-key.result c.in-Some.prefix.now c.narrow-key.ensures
    ∙ ap (λ (from : Option (Bor IpPrefix)). rows_behind (option_copied from) rows) (sym c.in-Some.is)
