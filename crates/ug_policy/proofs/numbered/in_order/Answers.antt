use Rattle.std.proofs.Common.{sym, ◌∙◌, rules}
use Rattle.std.proofs.lemmas.List.Sorted.{answers_always, IsNonDecreasingBy-from_sort_by_key}
use Rattle.ug_policy.specs.Order.{ascending}
use Rattle.ug_policy.proofs.Sorting.{sorted_by_index, ascending_sorted, ascending_stable, one_order}
use Rattle.ug_policy.proofs.numbered.in_order.Goals as goal

pub returns : goal.returns
returns g c =
    let number = g.T.Numbered.number_of in
    let xs = c.args.items.items in
    let ys = c.sort_by_key.new.self.items in
    one_order number ys (ascending number xs)
    (sorted_by_index number ys (IsNonDecreasingBy-from_sort_by_key number ys c.in_ok-sort_by_key.ensures.sorted (λ a r f' k. search rules)))
    (ascending_sorted number xs)
    (λ w. c.sort_by_key.ensures.stable number (answers_always _ _ _ (λ f a r f' k. search rules)) w ∙ sym (ascending_stable number w xs))
