use Rattle.std.proofs.Common.{ap, subst, ◌∙◌, arith, length}
use Rattle.std.specs.Map.{keys_of}
use Rattle.std.specs.List.Sorted.{IsStrictlySortedBy}
use Rattle.ug_types.specs.Keys.{prefix_cmp}
use Rattle.ug_world.specs.World.{Routes}
use Rattle.ug_world.specs.Verdicts.{path_count}
use Rattle.ug_world.proofs.Counting.{not_over}
use Rattle.ug_world.proofs.loc_rib.LocRib.has_room.Goals as goal

pub returns : goal.returns
returns c = λ yes prefix given is.
    let sorted = subst (λ (es : Routes). IsStrictlySortedBy prefix_cmp (keys_of es)) c.self.view_is c.len.ensures.ordered in
    not_over c.args.self.now prefix given c.args.count c.len.result c.self.inside.paths sorted (c.len.ensures.len ∙ ap length c.self.view_is) (c.self.invariant ∙ ap path_count c.self.view_is) (omega arith) (omega arith) is
