use Rattle.std.proofs.Common.{◌≡◌, ◌+◌, List, ◌∷◌, Some, false, drop, sym, ap, subst, ◌∙◌}
use Rattle.std.specs.Prelude.{if◌then◌else◌}
use Rattle.ug_types.specs.declared.key.Key.{Key}
use Rattle.ug_types.specs.Keys.{same_key}
use Rattle.ug_message.specs.Tables.{among}
use Rattle.ug_check.specs.Rows.{row_at}
use Rattle.ug_check.specs.Waiting.{with_waiting, AreV4}
use Rattle.ug_check.proofs.WithWaiting.{key_done, next_key}
use Rattle.ug_check.proofs.waiting.add_each.Goals as goal

pub loop-key-preserved : goal.loop-key-preserved
loop-key-preserved c =
    let keys = c.args.keys.now in
    let i = c.loop-key.key-index in
    let key = c.key-item.result in
    let before = c.loop-key.waiting.items in
    let attrs = c.args.shared.now.value.attrs in
    let front : drop i keys ≡ key ∷ drop (i + 1) keys = next_key keys i key c.loop-key-test.true c.key-item.is in
    record {
      row = λ t q. key_done (same_key q key) (among (drop (i + 1) keys) q) (Some attrs) _ (row_at (with_waiting t before).rows q) _ (c.in_ok-add.ensures.row t q)
          (sym (ap (λ (l : List Key). if among l q then Some attrs else row_at (with_waiting t before).rows q) front) ∙ c.loop-key.invariant.row t q);
      stale = λ t q. key_done (same_key q key) (among (drop (i + 1) keys) q) false _ (among (with_waiting t before).stale q) _ (c.in_ok-add.ensures.stale t q)
          (sym (ap (λ (l : List Key). if among l q then false else among (with_waiting t before).stale q) front) ∙ c.loop-key.invariant.stale t q);
      waiting = λ n seen all. c.in_ok-add.ensures.waiting n seen (c.loop-key.invariant.waiting n seen all);
      left = (subst (λ (l : List Key). AreV4 l) front c.loop-key.invariant.left).1;
    }
