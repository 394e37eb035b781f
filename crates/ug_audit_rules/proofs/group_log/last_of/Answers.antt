use Rattle.std.proofs.Common.{◌≡◌, ◌-◌, suc, None, Some, length, sym, ap, ◌∙◌, arith}
use Rattle.ug_audit_rules.proofs.Holding.{last-item}
use Rattle.ug_audit_rules.proofs.group_log.last_of.Goals as goal

pub returns-in-Some : goal.returns-in-Some
returns-in-Some c =
    let size : length c.args.changes.now ≡ suc (length c.args.changes.now - 1) = omega arith in
    ap (λ o. Some o) c.get.ensures ∙ (sym c.in-Some.is ∙ sym (last-item None c.args.changes.now (length c.args.changes.now - 1) c.index-changes-count.result size))

pub returns-in-None : goal.returns-in-None
returns-in-None c =
    let size : length c.args.changes.now ≡ suc (length c.args.changes.now - 1) = omega arith in
    sym c.in-None.is ∙ sym (last-item None c.args.changes.now (length c.args.changes.now - 1) c.index-changes-count.result size)
