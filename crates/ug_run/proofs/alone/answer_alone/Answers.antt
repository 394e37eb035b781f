use Rattle.std.proofs.Common.{◌≡◌, sym, subst}
use Rattle.ug_edge.specs.Told.{Rose, AppendsAll, file_told}
use Rattle.ug_commands.specs.Words.{AuditCommand}
use Rattle.ug_audit.specs.Auditing.{IsAuditing}
use Rattle.ug_audit.specs.Right.{AreRight}
use Rattle.ug_run.proofs.Audited.{some-is, same-command}
use Rattle.ug_run.proofs.alone.answer_alone.Goals as goal

pub returns-in-Ok-Some-Audit-clause-audited : goal.returns-in-Ok-Some-Audit-clause-audited
returns-in-Ok-Some-Audit-clause-audited g c command is =
    subst (λ (a : AuditCommand). IsAuditing a (file_told (g.E.Source.files c.args.site.now)) (AppendsAll (g.E.Source.picks c.args.site.now).names (g.E.Source.picks c.audit.new.site).names) c.audit.result (g.K.Sink.held c.args.report.now) (g.K.Sink.held c.audit.new.report)
    (Rose (g.K.Sink.faults c.args.report.now) (g.K.Sink.faults c.audit.new.report)))
    (same-command _ _ _ _ command c.in-Ok-Some-Audit.field-0-is c.in-Ok-Some-Audit.field-0-0-is c.in-Ok-Some-Audit.ensures.read is) c.audit.ensures.audited

pub returns-in-Ok-Some-Audit-clause-audit_right : goal.returns-in-Ok-Some-Audit-clause-audit_right
returns-in-Ok-Some-Audit-clause-audit_right g c command is told at ok =
    subst (λ (a : AuditCommand). AreRight a told)
    (same-command _ _ _ _ command c.in-Ok-Some-Audit.field-0-is c.in-Ok-Some-Audit.field-0-0-is c.in-Ok-Some-Audit.ensures.read is)
    (c.audit.ensures.right (some-is _ _ ok) told at)

pub returns-in-Ok-Some-Audit-clause-audit_refuted : goal.returns-in-Ok-Some-Audit-clause-audit_refuted
returns-in-Ok-Some-Audit-clause-audit_refuted g c command is told at peer session kind message key refuted right =
    c.audit.ensures.refuted peer session kind message key told (some-is _ _ refuted) at
    (subst (λ (a : AuditCommand). AreRight a told)
    (sym (same-command _ _ _ _ command c.in-Ok-Some-Audit.field-0-is c.in-Ok-Some-Audit.field-0-0-is c.in-Ok-Some-Audit.ensures.read is)) right)
