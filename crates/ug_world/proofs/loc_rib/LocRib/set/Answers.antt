use Rattle.std.proofs.Common.{◌≡◌, length, ap, sym, subst, ◌∙◌, arith}
use Rattle.std.specs.Map.{keys_of}
use Rattle.std.specs.BTreeMap.{insert_entry}
use Rattle.std.specs.List.Sorted.{IsStrictlySortedBy}
use Rattle.ug_types.specs.Keys.{prefix_cmp}
use Rattle.ug_world.specs.World.{Routes, paths_to}
use Rattle.ug_world.specs.Verdicts.{path_count}
use Rattle.ug_world.proofs.PrefixOrder.{were_paths}
use Rattle.ug_world.proofs.Counting.{few_paths, inserted_paths, few_in_all, counted}
use Rattle.ug_world.proofs.loc_rib.LocRib.set.Goals as goal

pub overflow_sub-self : goal.overflow_sub-self
overflow_sub-self c =
    let routes = c.args.self.now in
    let few = few_paths routes c.args.prefix in
    let before = c.count_of-before.ensures ∙ ap length (were_paths c.self.inside.rows routes c.args.prefix c.in_ok-insert.field-0 c.self.view_is c.in_ok-insert.ensures.old) in
    let all : c.self.inside.paths ≡ path_count routes = c.self.invariant ∙ ap path_count c.self.view_is in
    omega (arith, few, before, all)

pub overflow_add-self : goal.overflow_add-self
overflow_add-self c =
    let routes = c.args.self.now in
    let few = few_paths routes c.args.prefix in
    let before = c.count_of-before.ensures ∙ ap length (were_paths c.self.inside.rows routes c.args.prefix c.in_ok-insert.field-0 c.self.view_is c.in_ok-insert.ensures.old) in
    let all : c.self.inside.paths ≡ path_count routes = c.self.invariant ∙ ap path_count c.self.view_is in
    let sorted = subst (λ (es : Routes). IsStrictlySortedBy prefix_cmp (keys_of es)) c.self.view_is c.insert.ensures.was_ordered in
    let sum = inserted_paths routes c.args.prefix c.args.best sorted in
    let count = ap length c.as_slice.ensures in
    let after = insert_entry prefix_cmp routes c.args.prefix c.args.best in
    let room = few_in_all (length after) (path_count after) c.requires.room in
    omega (arith, few, before, all, sum, count, room)

pub invariant_of-self-2 : goal.invariant_of-self-2
invariant_of-self-2 c =
    let routes = c.args.self.now in
    let before = c.count_of-before.ensures ∙ ap length (were_paths c.self.inside.rows routes c.args.prefix c.in_ok-insert.field-0 c.self.view_is c.in_ok-insert.ensures.old) in
    let all : c.self.inside.paths ≡ path_count routes = c.self.invariant ∙ ap path_count c.self.view_is in
    let sorted = subst (λ (es : Routes). IsStrictlySortedBy prefix_cmp (keys_of es)) c.self.view_is c.insert.ensures.was_ordered in
    counted c.self.inside.paths (length c.as_slice.result.now) c.count_of-before.result (path_count routes) (length c.args.best) (length (paths_to routes c.args.prefix)) _
    all (sym (ap length c.as_slice.ensures)) before (few_paths routes c.args.prefix) (inserted_paths routes c.args.prefix c.args.best sorted)
    ∙ ap path_count (sym (c.in_ok-insert.ensures.entries ∙ ap (λ (es : Routes). insert_entry prefix_cmp es c.args.prefix c.args.best) c.self.view_is))
