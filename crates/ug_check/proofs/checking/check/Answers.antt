use Rattle.std.proofs.Common.{List, ℕ, inl, inr, refl}
use Rattle.std.specs.List.{concat}
use Rattle.ug_edge.specs.Told.{AppendsPiece}
use Rattle.ug_check.specs.Checks.{IsReportedUntil}
use Rattle.ug_check.proofs.Done.{done}
use Rattle.ug_check.proofs.checking.check.Goals as goal

pub returns-in-Err-clause-stopped : goal.returns-in-Err-clause-stopped
returns-in-Err-clause-stopped g c = inl (c.in-Err.ensures.stopped, refl)

pub returns-in-Ok-write_report-clause-ok : goal.returns-in-Ok-write_report-clause-ok
returns-in-Ok-write_report-clause-ok g c =
    done (g.E.Source.left c.args.source.now) (g.E.Source.left c.read_stream.new.source) c.args.session c.in-Ok.checker.reader c.in-Ok.checker.table c.in-Ok.checker.messages c.in-Ok.checker.eors
    (λ (lines : List (List ℕ)). AppendsPiece (g.K.Sink.held c.args.report.now) (g.K.Sink.held c.write_report.new.report) (concat lines))
    c.in-Ok.ensures.session c.write_report.ensures.ascending c.in-Ok.ensures.ok c.in-Ok-write_report.ensures.ok

pub returns-clause-stopped : goal.returns-clause-stopped
returns-clause-stopped g c =
    inr (done (g.E.Source.left c.args.source.now) (g.E.Source.left c.read_stream.new.source) c.args.session c.in-Ok.checker.reader c.in-Ok.checker.table c.in-Ok.checker.messages c.in-Ok.checker.eors
    (IsReportedUntil c.in-Err-write_report.stop (g.K.Sink.held c.args.report.now) (g.K.Sink.held c.write_report.new.report))
    c.in-Ok.ensures.session c.write_report.ensures.ascending c.in-Ok.ensures.ok c.in-Err-write_report.ensures.stopped)
