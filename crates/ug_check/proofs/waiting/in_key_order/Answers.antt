use Rattle.std.proofs.Common.{rules}
use Rattle.std.proofs.lemmas.List.Elements.{All-from_recursion, recursion_from_All}
use Rattle.std.proofs.lemmas.List.Sorted.{answers_always, All-permutation}
use Rattle.ug_check.specs.declared.waiting.Change.{Change}
use Rattle.ug_check.specs.Waiting.{IsWaiting}
use Rattle.ug_check.proofs.WithWaiting.{kept_by_key}
use Rattle.ug_check.proofs.waiting.in_key_order.Goals as goal

pub returns-clause-same : goal.returns-clause-same
returns-clause-same c = λ q.
    kept_by_key c.args.changes.items c.sort_by_key.new.self.items c.sort_by_key.ensures.permutation
    (λ d. c.sort_by_key.ensures.stable (λ (x : Change). x.key) (answers_always _ _ _ (λ f a r f' k. search rules)) d) q

pub returns-clause-waiting : goal.returns-clause-waiting
returns-clause-waiting c = λ n all.
    recursion_from_All (IsWaiting n) c.sort_by_key.new.self.items
    (All-permutation (IsWaiting n) c.args.changes.items c.sort_by_key.new.self.items c.sort_by_key.ensures.permutation (All-from_recursion (IsWaiting n) c.args.changes.items all))
