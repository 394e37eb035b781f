use Rattle.std.proofs.Common.{get_or, List, subst, arith}
use Rattle.ug_types.specs.declared.key.Key.{Key}
use Rattle.ug_audit_rules.specs.declared.group.Group.{Group}
use Rattle.ug_audit_rules.specs.GroupLogs.{IsNotedAt}
use Rattle.ug_audit_rules.proofs.GroupNotes.{groups-on}
use Rattle.ug_audit_rules.proofs.history.note_groups.Goals as goal

pub loop-group-preserved : goal.loop-group-preserved
loop-group-preserved g c =
    let w = c.args.world.now in
    let touched = c.args.touched.now in
    let d : Group = get_or c.loop-group.groups c.loop-group.group-index c.group-item.result in
    let in_now = c.loop-group-test.true in
    let many = c.loop-group.auto.groups in
    let noted = subst (λ (ks : List Key). IsNotedAt w d.key ks d.log.changes c.note_keys.new.self.log.changes) c.of-keys.ensures c.in_ok-note_keys.ensures.noted in
    let on = groups-on w touched c.args.groups.now c.loop-group.groups c.loop-group.group-index c.group-item.result c.note_keys.new.self (omega arith) (omega arith) c.loop-group.invariant.noted c.loop-group.invariant.others
    (record { key = c.note_keys.ensures.key; start = c.note_keys.ensures.start; noted = noted }) in
    record { noted = on.0; others = on.1 }
