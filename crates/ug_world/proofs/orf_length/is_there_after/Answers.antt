use Rattle.std.proofs.Common.{Bool, take, ap, sym, ◌∙◌}
use Rattle.ug_policy.specs.OrfApplying.{applied}
use Rattle.ug_world.specs.Filtered.{has_seq, has_then}
use Rattle.ug_world.proofs.Filtering.{applied_none, applied_next, has_changed}
use Rattle.ug_world.proofs.orf_length.is_there_after.Goals as goal

pub loop-i-init : goal.loop-i-init
loop-i-init c = ap (has_seq c.args.seq) (applied_none c.args.entries.now) ∙ sym c.is_there-there.ensures

pub loop-i-preserved : goal.loop-i-preserved
loop-i-preserved c =
    let change = c.index-changes-i.result in
    let before = applied (take c.loop-i.i c.args.changes.now) c.args.entries.now in
    ap (has_seq c.args.seq) (applied_next c.args.changes.now c.loop-i.i change c.args.entries.now c.loop-i-test.true c.index-changes-i.is)
    ∙ has_changed c.args.seq change.action change.entry before
    ∙ ap (λ (b : Bool). has_then b change.action change.entry c.args.seq) c.loop-i.invariant
    ∙ sym c.is_there_then-there.ensures
