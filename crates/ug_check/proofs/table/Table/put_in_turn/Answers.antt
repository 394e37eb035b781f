use Rattle.std.proofs.Common.{◌≡◌, ℕ, List, ◌∷◌, sym, ap, subst, ◌∙◌, rules}
use Rattle.std.specs.Vec.Iter.{into_iter_items}
use Rattle.ug_message.specs.Tables.{among}
use Rattle.ug_check.specs.declared.waiting.Change.{Change}
use Rattle.ug_check.specs.Rows.{row_at}
use Rattle.ug_check.specs.Waiting.{with_waiting, with_change, AreWaiting}
use Rattle.ug_check.proofs.WithWaiting.{rows_alike, stale_alike}
use Rattle.ug_check.proofs.table.Table.put_in_turn.Goals as goal

pub loop-change-preserved : goal.loop-change-preserved
loop-change-preserved c =
    let before = c.loop-change.self in
    let change = c.in-Some.change in
    let rest = into_iter_items c.next.new.self in
    let next : into_iter_items c.loop-change.rest ≡ change ∷ rest = search rules in
    let waits = subst (λ (l : List Change). AreWaiting before.refreshes l) next c.loop-change.invariant.waiting in
    record {
      row = λ q. rows_alike rest c.put_change.new.self (with_change change before) q (c.in_ok-put_change.ensures.row q)
          ∙ ap (λ (l : List Change). row_at (with_waiting before l).rows q) (sym next) ∙ c.loop-change.invariant.row q;
      stale = λ q. stale_alike rest c.put_change.new.self (with_change change before) q (c.in_ok-put_change.ensures.stale q)
          ∙ ap (λ (l : List Change). among (with_waiting before l).stale q) (sym next) ∙ c.loop-change.invariant.stale q;
      waiting = subst (λ (n : ℕ). AreWaiting n rest) (sym c.in_ok-put_change.ensures.refreshes) waits.1;
    }
