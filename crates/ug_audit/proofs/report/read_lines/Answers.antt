use Rattle.std.proofs.Common.{refl, ap, subst, ◌∙◌}
use Rattle.ug_pieces.specs.Pieces.{HasRead}
use Rattle.ug_pieces.specs.declared.halt.Halt.{Halt}
use Rattle.ug_pieces.specs.declared.halt.Halt.TheVariants as halts
use Rattle.ug_audit_rules.specs.declared.stop.Stop.{Stop}
use Rattle.ug_audit_rules.specs.declared.stop.Stop.TheVariants as stops
use Rattle.ug_audit_rules.specs.Reading.{IsReportHalt}
use Rattle.ug_audit.proofs.FilesTold.{named_as}
use Rattle.ug_audit.proofs.Seen.{told_whole, told_until, told_long, told_many, told_unclear, told_unpicked}
use Rattle.ug_audit.proofs.report.read_lines.Goals as goal

pub returns-in-Err-clause-stopped : goal.returns-in-Err-clause-stopped
returns-in-Err-clause-stopped g c = told_unpicked _ c.args.last.now _ _ c.in-Err.stop c.in-Err.ensures.stopped

pub returns-in-Ok-read_report-clause-told : goal.returns-in-Ok-read_report-clause-told
returns-in-Ok-read_report-clause-told g c = told_whole _ _ _ _ c.args.last.now c.in-Ok.ensures.picked c.in-Ok-read_report.entries.items c.in-Ok-read_report.ensures.ok

pub returns-in-Err-Read-clause-stopped : goal.returns-in-Err-Read-clause-stopped
returns-in-Err-Read-clause-stopped g c =
    let h = subst (λ (halt : Halt Stop). HasRead (g.E.Source.left c.pick.new.site) (g.E.Source.left c.read_report.new.source) (IsReportHalt c.args.last.now (g.E.Source.left c.read_report.new.source) halt)) c.in-Err-Read.field-0-is c.in-Err-Read.ensures.halted in
    let t = told_until (g.E.Source.files c.args.site.now) c.args.name.now (g.E.Source.left c.pick.new.site) (g.E.Source.left c.read_report.new.source) c.args.last.now c.in-Ok.ensures.picked h in
    (named_as _ _ _ c.args.name.now c.args.name.now c.in-Ok.ensures.named (ap (λ p. p.names) c.read_report.ensures.picks) refl, t.0, t.1, t.2, t.3)

pub returns-in-Err-TooLong-clause-stopped : goal.returns-in-Err-TooLong-clause-stopped
returns-in-Err-TooLong-clause-stopped g c =
    let h = subst (λ (halt : Halt Stop). HasRead (g.E.Source.left c.pick.new.site) (g.E.Source.left c.read_report.new.source) (IsReportHalt c.args.last.now (g.E.Source.left c.read_report.new.source) halt)) c.in-Err-TooLong.field-0-is c.in-Err-TooLong.ensures.halted in
    let t = told_long (g.E.Source.files c.args.site.now) c.args.name.now (g.E.Source.left c.pick.new.site) (g.E.Source.left c.read_report.new.source) c.args.last.now c.in-Ok.ensures.picked h in
    (named_as _ _ _ c.args.name.now c.args.name.now c.in-Ok.ensures.named (ap (λ p. p.names) c.read_report.ensures.picks) refl, t.0, t.1, t.2, t.3)

pub returns-in-Err-Stopped-TooMany-clause-stopped : goal.returns-in-Err-Stopped-TooMany-clause-stopped
returns-in-Err-Stopped-TooMany-clause-stopped g c =
    let h = subst (λ (halt : Halt Stop). HasRead (g.E.Source.left c.pick.new.site) (g.E.Source.left c.read_report.new.source) (IsReportHalt c.args.last.now (g.E.Source.left c.read_report.new.source) halt)) (c.in-Err-Stopped-TooMany.field-0-is ∙ ap halts.Stopped c.in-Err-Stopped-TooMany.field-0-0-is) c.in-Err-Stopped-TooMany.ensures.halted in
    let t = told_many (g.E.Source.files c.args.site.now) c.args.name.now (g.E.Source.left c.pick.new.site) (g.E.Source.left c.read_report.new.source) c.args.last.now c.in-Ok.ensures.picked h in
    (named_as _ _ _ c.args.name.now c.args.name.now c.in-Ok.ensures.named (ap (λ p. p.names) c.read_report.ensures.picks) refl, t.0, t.1, t.2, t.3)

pub returns-in-Err-Stopped-Unclear-clause-stopped : goal.returns-in-Err-Stopped-Unclear-clause-stopped
returns-in-Err-Stopped-Unclear-clause-stopped g c =
    let h = subst (λ (halt : Halt Stop). HasRead (g.E.Source.left c.pick.new.site) (g.E.Source.left c.read_report.new.source) (IsReportHalt c.args.last.now (g.E.Source.left c.read_report.new.source) halt)) (c.in-Err-Stopped-Unclear.field-0-is ∙ ap halts.Stopped c.in-Err-Stopped-Unclear.field-0-0-is) c.in-Err-Stopped-Unclear.ensures.halted in
    let t = told_unclear (g.E.Source.files c.args.site.now) c.args.name.now (g.E.Source.left c.pick.new.site) (g.E.Source.left c.read_report.new.source) c.args.last.now c.in-Ok.ensures.picked c.in-Err-Stopped-Unclear.line h in
    (named_as _ _ _ c.args.name.now c.args.name.now c.in-Ok.ensures.named (ap (λ p. p.names) c.read_report.ensures.picks) refl, t.0, t.1, t.2)
