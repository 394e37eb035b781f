use Rattle.std.proofs.Common.{[], inl, inr, refl, sym, ◌∙◌, subst, arith}
use Rattle.ug_edge.specs.Told.{Rose, AppendsAll, file_told}
use Rattle.ug_commands.specs.Words.{AuditCommand}
use Rattle.ug_audit.specs.Auditing.{IsAuditing}
use Rattle.ug_audit.specs.Right.{AreRight}
use Rattle.ug_config.specs.One.{one_world}
use Rattle.ug_report.specs.declared.status.Status.TheVariants as statuses
use Rattle.ug_report.specs.declared.status.Status.{Status}
use Rattle.ug_run.proofs.Audited.{same-command}
use Rattle.ug_run.proofs.Starting.{early-home, unread-unpicked}
use Rattle.ug_run.proofs.serving.serve.Goals as goal

pub returns-in-Err-clause-one : goal.returns-in-Err-clause-one
returns-in-Err-clause-one g c command is =
    inl (early-home g.E.Wire.Wire.sessions g.E.Wire.Wire.begun g.E.Wire.Wire.faults one_world command.events _ _ _ _ _ _ _ _ _ _ _ statuses.NoMemory c.end-in-Err.result c.idle-in-Err.result.status [] c.idle-in-Err.result.wires.items
    c.idle-in-Err.result.history.items c.idle-in-Err.result.spent c.idle-in-Err.ensures.status c.end-in-Err.ensures.status (c.idle-in-Err.ensures.wires ∙ c.new-in-Err.ensures) c.idle-in-Err.ensures.history c.idle-in-Err.ensures.unspent
    (inr (inr refl)) (λ read. absurd cc) (unread-unpicked _ _ (g.E.Source.picks c.args.site.now) (g.E.Source.picks c.args.site.now) _ _ refl) (omega arith) tt c.end-in-Err.ensures.report)

pub returns-in-Audit-clause-audited : goal.returns-in-Audit-clause-audited
returns-in-Audit-clause-audited g c command is =
    subst (λ (status : Status). IsAuditing command (file_told (g.E.Source.files c.args.site.now)) (AppendsAll (g.E.Source.picks c.args.site.now).names (g.E.Source.picks c.audit-status.new.site).names) status (g.K.Sink.held c.args.report.now)
    (g.K.Sink.held c.audit-status.new.report) (Rose (g.K.Sink.faults c.args.report.now) (g.K.Sink.faults c.audit-status.new.report)))
    (sym c.idle-in-Audit.ensures.status)
    (subst (λ (a : AuditCommand). IsAuditing a (file_told (g.E.Source.files c.args.site.now)) (AppendsAll (g.E.Source.picks c.args.site.now).names (g.E.Source.picks c.audit-status.new.site).names) c.audit-status.result (g.K.Sink.held c.args.report.now)
    (g.K.Sink.held c.audit-status.new.report) (Rose (g.K.Sink.faults c.args.report.now) (g.K.Sink.faults c.audit-status.new.report)))
    (same-command _ _ _ _ command c.in-Ok-Some.field-0-is c.in-Audit.is c.in-Ok-Some.ensures.read is) c.audit-status.ensures.audited)

pub returns-in-Audit-clause-audit_right : goal.returns-in-Audit-clause-audit_right
returns-in-Audit-clause-audit_right g c command is told at ok =
    subst (λ (a : AuditCommand). AreRight a told) (same-command _ _ _ _ command c.in-Ok-Some.field-0-is c.in-Audit.is c.in-Ok-Some.ensures.read is)
    (c.audit-status.ensures.right (sym c.idle-in-Audit.ensures.status ∙ ok) told at)

pub returns-in-Audit-clause-audit_refuted : goal.returns-in-Audit-clause-audit_refuted
returns-in-Audit-clause-audit_refuted g c command is told at peer session kind message key refuted right =
    c.audit-status.ensures.refuted peer session kind message key told (sym c.idle-in-Audit.ensures.status ∙ refuted) at
    (subst (λ (a : AuditCommand). AreRight a told) (sym (same-command _ _ _ _ command c.in-Ok-Some.field-0-is c.in-Audit.is c.in-Ok-Some.ensures.read is)) right)
