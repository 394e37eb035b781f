use Rattle.std.proofs.Common.{◌≡◌, ℕ, true, List, length, take, ap, sym, subst, ◌∙◌, arith}
use Rattle.ug_policy.specs.declared.list_entry.ListEntry.{ListEntry}
use Rattle.ug_policy.specs.Order.{rises}
use Rattle.ug_policy.specs.Lists.{seq_of}
use Rattle.ug_policy.specs.OrfApplying.{applied}
use Rattle.ug_world.specs.Filtered.{count_then}
use Rattle.ug_world.proofs.Filtering.{applied_none, applied_next, length_changed, rises_applied, count_few}
use Rattle.ug_world.proofs.orf_length.length_after.Goals as goal

pub loop-i-init : goal.loop-i-init
loop-i-init c = record { counted = ap length (sym (applied_none c.as_slice-entries.result.now)); few = omega arith }

pub loop-i-preserved : goal.loop-i-preserved
loop-i-preserved c =
    let change = c.index-changes-i.result in
    let entries = c.as_slice-entries.result.now in
    let before = applied (take c.loop-i.i c.args.changes.now) entries in
    let there = c.is_there_before-there.result in
    let rising : rises seq_of entries ≡ true =
    subst (λ (xs : List ListEntry). rises seq_of xs ≡ true) (sym (c.as_slice-entries.ensures ∙ c.entries.ensures.entries)) c.entries.ensures.rising in
    let one = count_few c.loop-i.count there change.action change.entry in
    record {
      counted =
          c.count_then-count.ensures
          ∙ ap (λ (n : ℕ). count_then n there change.action change.entry) c.loop-i.invariant.counted
          ∙ sym (length_changed change.action change.entry there before (rises_applied (take c.loop-i.i c.args.changes.now) entries rising) c.is_there_before-there.ensures)
          ∙ ap length (sym (applied_next c.args.changes.now c.loop-i.i change entries c.loop-i-test.true c.index-changes-i.is));
      few = omega (arith, one, c.count_then-count.ensures, c.loop-i.invariant.few);
    }
