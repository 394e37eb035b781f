use Rattle.std.proofs.Common.{◌≡◌, length, ap, subst, ◌∙◌, arith}
use Rattle.std.specs.Prelude.{is_some, if◌then◌else◌}
use Rattle.std.specs.Map.{lookup, keys_of}
use Rattle.std.specs.List.Sorted.{IsStrictlySortedBy}
use Rattle.ug_types.specs.Keys.{prefix_cmp, same_prefix}
use Rattle.ug_world.specs.World.{Routes, paths_to}
use Rattle.ug_world.specs.Verdicts.{path_count}
use Rattle.ug_world.proofs.Counting.{few_paths, inserted_paths, inserted_prefixes, less, one_less}
use Rattle.ug_world.proofs.loc_rib.LocRib.counts_with.Goals as goal

pub overflow_sub-paths : goal.overflow_sub-paths
overflow_sub-paths c =
    let few = few_paths c.args.self.now c.args.prefix.now in
    let all : c.self.inside.paths ≡ path_count c.args.self.now = c.self.invariant ∙ ap path_count c.self.view_is in
    omega (arith, few, c.counts_of-row.ensures.paths, all)

pub returns-clause-prefixes : goal.returns-clause-prefixes
returns-clause-prefixes c given count =
    let sorted = subst (λ (es : Routes). IsStrictlySortedBy prefix_cmp (keys_of es)) c.self.view_is c.len.ensures.ordered in
    one_less c.len.result c.counts_of-row.result.0 (length c.args.self.now)
    (if is_some (lookup (same_prefix c.args.prefix.now) c.args.self.now) then 1 else 0) _
    (c.len.ensures.len ∙ ap length c.self.view_is)
    c.counts_of-row.ensures.one
    (inserted_prefixes c.args.self.now c.args.prefix.now given sorted)

pub returns-clause-paths : goal.returns-clause-paths
returns-clause-paths c given count =
    let sorted = subst (λ (es : Routes). IsStrictlySortedBy prefix_cmp (keys_of es)) c.self.view_is c.len.ensures.ordered in
    less c.self.inside.paths c.args.count c.counts_of-row.result.1 (path_count c.args.self.now) (length given) (length (paths_to c.args.self.now c.args.prefix.now)) _
    (c.self.invariant ∙ ap path_count c.self.view_is) count c.counts_of-row.ensures.paths
    (inserted_paths c.args.self.now c.args.prefix.now given sorted)
