use Rattle.std.proofs.Common.{◌≡◌, length, ap, ◌∙◌, arith}
use Rattle.ug_types.specs.Keys.{same_prefix}
use Rattle.std.specs.Map.{remove_entry}
use Rattle.ug_world.specs.World.{Routes}
use Rattle.ug_world.specs.Verdicts.{path_count}
use Rattle.ug_world.proofs.PrefixOrder.{were_paths, removed_same}
use Rattle.ug_world.proofs.Counting.{few_paths, removed_paths}
use Rattle.ug_world.proofs.loc_rib.LocRib.remove.Goals as goal

pub overflow_sub-self : goal.overflow_sub-self
overflow_sub-self c =
    let routes = c.args.self.now in
    let few = few_paths routes c.args.prefix.now in
    let before = c.count_of.ensures ∙ ap length (were_paths c.self.inside.rows routes c.args.prefix.now c.remove.result c.self.view_is c.remove.ensures.value) in
    let all : c.self.inside.paths ≡ path_count routes = c.self.invariant ∙ ap path_count c.self.view_is in
    omega (arith, few, before, all)

pub invariant_of-self : goal.invariant_of-self
invariant_of-self c =
    let routes = c.args.self.now in
    let left = removed_paths routes c.args.prefix.now in
    let before = c.count_of.ensures ∙ ap length (were_paths c.self.inside.rows routes c.args.prefix.now c.remove.result c.self.view_is c.remove.ensures.value) in
    let all : c.self.inside.paths ≡ path_count routes = c.self.invariant ∙ ap path_count c.self.view_is in
    let now : path_count c.remove.new.self ≡ path_count (remove_entry (same_prefix c.args.prefix.now) routes) =
    ap path_count (removed_same c.self.inside.rows c.remove.new.self c.args.prefix.now c.remove.ensures.entries ∙ ap (λ (es : Routes). remove_entry (same_prefix c.args.prefix.now) es) c.self.view_is) in
    omega (arith, left, before, all, now)

pub returns : goal.returns
returns c =
    removed_same c.self.inside.rows c.remove.new.self c.args.prefix.now c.remove.ensures.entries ∙ ap (λ (es : Routes). remove_entry (same_prefix c.args.prefix.now) es) c.self.view_is
