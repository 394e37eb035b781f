use Rattle.std.proofs.Common.{◌≡◌, List, sym, ap, subst, ◌∙◌, rules}
use Rattle.ug_message.specs.Tables.{among}
use Rattle.ug_check.specs.declared.waiting.Change.{Change}
use Rattle.ug_check.specs.Rows.{row_at}
use Rattle.ug_check.specs.Waiting.{with_waiting, AreWaiting}
use Rattle.ug_check.proofs.Found.{on_ok}
use Rattle.ug_check.proofs.WithWaiting.{row_in_order, stale_in_order}
use Rattle.ug_check.proofs.table.Table.take_in.Goals as goal

pub put_in_turn-requires : goal.put_in_turn-requires
put_in_turn-requires c =
    let was : c.replace-changes.result.items ≡ c.args.waiting.now.items = search rules in
    let n = c.args.self.now.refreshes in
    c.in_ok-sorted.ensures.waiting n (subst (λ (l : List Change). AreWaiting n l) (sym was) c.requires)

pub returns-clause-row : goal.returns-clause-row
returns-clause-row c =
    let was : c.replace-changes.result.items ≡ c.args.waiting.now.items = search rules in
    let table = c.args.self.now in
    on_ok c.put_in_turn.result
    (λ put q. put q ∙ row_in_order q c.replace-changes.result.items c.in_ok-sorted.sorted.items table (c.in_ok-sorted.ensures.same q) ∙ ap (λ (l : List Change). row_at (with_waiting table l).rows q) was)
    c.put_in_turn.ensures.row

pub returns-clause-stale : goal.returns-clause-stale
returns-clause-stale c =
    let was : c.replace-changes.result.items ≡ c.args.waiting.now.items = search rules in
    let table = c.args.self.now in
    on_ok c.put_in_turn.result
    (λ put q. put q ∙ stale_in_order q c.replace-changes.result.items c.in_ok-sorted.sorted.items table (c.in_ok-sorted.ensures.same q) ∙ ap (λ (l : List Change). among (with_waiting table l).stale q) was)
    c.put_in_turn.ensures.stale
