use Rattle.std.proofs.Common.{ap, sym, subst, ◌∙◌}
use Rattle.std.specs.Prelude.{option_copied}
use Rattle.std.specs.Map.{keys_of}
use Rattle.std.specs.List.Sorted.{IsStrictlySortedBy}
use Rattle.ug_types.specs.Keys.{prefix_cmp}
use Rattle.ug_world.specs.World.{Routes}
use Rattle.ug_world.specs.Rows.{rows_behind}
use Rattle.ug_world.proofs.FirstBehind.{none_there, first_after, first_there, first_least}
use Rattle.ug_world.proofs.loc_rib.LocRib.prefix_after.Goals as goal

pub returns-in-Some-clause-there : goal.returns-in-Some-clause-there
returns-in-Some-clause-there c =
    let from = option_copied c.args.prefix in
    let first = sym (c.rows_behind.ensures.rows ∙ ap (rows_behind from) c.self.view_is) ∙ c.in-Some.ensures.steps in
    first_there from c.args.self.now c.in-Some.row.0 c.in-Some.row.1.now c.next.new.self first

pub returns-in-Some-clause-above : goal.returns-in-Some-clause-above
returns-in-Some-clause-above c =
    let from = option_copied c.args.prefix in
    let first = sym (c.rows_behind.ensures.rows ∙ ap (rows_behind from) c.self.view_is) ∙ c.in-Some.ensures.steps in
    first_after from c.args.self.now c.in-Some.row.0 c.in-Some.row.1.now c.next.new.self first

pub returns-in-Some-clause-least : goal.returns-in-Some-clause-least
returns-in-Some-clause-least c =
    let from = option_copied c.args.prefix in
    let first = sym (c.rows_behind.ensures.rows ∙ ap (rows_behind from) c.self.view_is) ∙ c.in-Some.ensures.steps in
    let sorted = subst (λ (es : Routes). IsStrictlySortedBy prefix_cmp (keys_of es)) c.self.view_is c.rows_behind.ensures.ordered in
    first_least from c.args.self.now c.in-Some.row.0 c.in-Some.row.1.now c.next.new.self first sorted

pub returns-in-None-clause-none : goal.returns-in-None-clause-none
returns-in-None-clause-none c =
    let from = option_copied c.args.prefix in
    none_there from c.args.self.now (sym (c.rows_behind.ensures.rows ∙ ap (rows_behind from) c.self.view_is) ∙ c.in-None.ensures.steps.0)
