use Rattle.std.proofs.Common.{ap, subst, ◌∙◌}
use Rattle.std.specs.Prelude.{option_copied}
use Rattle.std.specs.Map.{keys_of}
use Rattle.std.specs.List.Sorted.{IsStrictlySortedBy}
use Rattle.ug_types.specs.Keys.{prefix_cmp}
use Rattle.ug_world.specs.World.{Routes}
use Rattle.ug_world.specs.Rows.{rows_behind}
use Rattle.ug_world.proofs.loc_rib.LocRib.rows_behind.Goals as goal

pub returns-clause-rows : goal.returns-clause-rows
returns-clause-rows c = c.rows_behind.ensures.rows ∙ ap (rows_behind (option_copied c.args.prefix)) c.self.view_is

pub returns-clause-ascending : goal.returns-clause-ascending
returns-clause-ascending c = subst (λ (es : Routes). IsStrictlySortedBy prefix_cmp (keys_of es)) c.self.view_is c.rows_behind.ensures.ordered
