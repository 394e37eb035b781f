use Rattle.std.proofs.Common.{[], inl, Err, refl, ap, subst, ◌∙◌}
use Rattle.ug_pieces.specs.ReadingLaws.{Rose-later}
use Rattle.ug_check.specs.Checks.{HasEnded}
use Rattle.ug_check.specs.declared.stop.Stop.{Stop}
use Rattle.ug_commands.proofs.Ends.{later_status, unbegun_cause, picked_failed}
use Rattle.ug_commands.proofs.Checks.{checked_ok, checked_report, checked_memory, checked_limit, checked_fault, checked_unread, checked_unbegun}
use Rattle.ug_commands.proofs.checking.check.Goals as goal

pub returns-in-Ok-check-clause-checked : goal.returns-in-Ok-check-clause-checked
returns-in-Ok-check-clause-checked g c =
    let line = later_status _ _ _ _ [] _ (λ rose. Rose-later _ _ _ c.in-Ok-check.ensures.report_faults c.end-in-Ok-check.ensures.faults rose) c.end-in-Ok-check.ensures.report in
    rw c.end-in-Ok-check.ensures.status (checked_ok _ _ _ _ _ _ _ _ _ _ c.in-Ok.ensures.picked (ap (λ p. p.is_open) c.in-Ok-check.ensures.picks ∙ c.in-Ok.ensures.is_open) c.in-Ok-check.ensures.ok line)

pub returns-in-Err-Report-clause-checked : goal.returns-in-Err-Report-clause-checked
returns-in-Err-Report-clause-checked g c =
    let line = later_status _ _ _ _ [] _ (λ rose. Rose-later _ _ _ c.in-Err-Report.ensures.report_faults c.end-in-Err-Report.ensures.faults rose) c.end-in-Err-Report.ensures.report in
    rw c.end-in-Err-Report.ensures.status (checked_report _ _ _ _ _ _ _ _ _ _ c.in-Ok.ensures.picked (ap (λ p. p.is_open) c.in-Err-Report.ensures.picks ∙ c.in-Ok.ensures.is_open) (subst (λ (s : Stop). HasEnded s c.args.session (g.E.Source.left c.pick.new.site) (g.E.Source.left c.check.new.source) (g.K.Sink.held c.args.report.now) (g.K.Sink.held c.check.new.report)) c.in-Err-Report.field-0-is c.in-Err-Report.ensures.stopped) line)

pub returns-in-Err-NoMemory-clause-checked : goal.returns-in-Err-NoMemory-clause-checked
returns-in-Err-NoMemory-clause-checked g c =
    let line = later_status _ _ _ _ [] _ (λ rose. Rose-later _ _ _ c.in-Err-NoMemory.ensures.report_faults c.end-in-Err-NoMemory.ensures.faults rose) c.end-in-Err-NoMemory.ensures.report in
    rw c.end-in-Err-NoMemory.ensures.status (checked_memory _ _ _ _ _ _ _ _ _ _ c.in-Ok.ensures.picked (ap (λ p. p.is_open) c.in-Err-NoMemory.ensures.picks ∙ c.in-Ok.ensures.is_open) (subst (λ (s : Stop). HasEnded s c.args.session (g.E.Source.left c.pick.new.site) (g.E.Source.left c.check.new.source) (g.K.Sink.held c.args.report.now) (g.K.Sink.held c.check.new.report)) c.in-Err-NoMemory.field-0-is c.in-Err-NoMemory.ensures.stopped) line)

pub returns-in-Err-TooLong-clause-checked : goal.returns-in-Err-TooLong-clause-checked
returns-in-Err-TooLong-clause-checked g c =
    let line = later_status _ _ _ _ [] _ (λ rose. Rose-later _ _ _ c.in-Err-TooLong.ensures.report_faults c.end-in-Err-TooLong.ensures.faults rose) c.end-in-Err-TooLong.ensures.report in
    rw c.end-in-Err-TooLong.ensures.status (checked_limit _ _ _ _ _ _ _ _ _ _ c.in-Ok.ensures.picked (ap (λ p. p.is_open) c.in-Err-TooLong.ensures.picks ∙ c.in-Ok.ensures.is_open) (subst (λ (s : Stop). HasEnded s c.args.session (g.E.Source.left c.pick.new.site) (g.E.Source.left c.check.new.source) (g.K.Sink.held c.args.report.now) (g.K.Sink.held c.check.new.report)) c.in-Err-TooLong.field-0-is c.in-Err-TooLong.ensures.stopped) line)

pub returns-in-Err-Malformed-clause-checked : goal.returns-in-Err-Malformed-clause-checked
returns-in-Err-Malformed-clause-checked g c =
    let line = later_status _ _ _ _ [] _ (λ rose. Rose-later _ _ _ c.in-Err-Malformed.ensures.report_faults c.end_malformed.ensures.faults rose) c.end_malformed.ensures.report in
    checked_fault _ _ _ _ _ _ _ _ _ _ c.in-Err-Malformed.cause c.in-Err-Malformed.offset c.end_malformed.result c.in-Ok.ensures.picked (ap (λ p. p.is_open) c.in-Err-Malformed.ensures.picks ∙ c.in-Ok.ensures.is_open) (subst (λ (s : Stop). HasEnded s c.args.session (g.E.Source.left c.pick.new.site) (g.E.Source.left c.check.new.source) (g.K.Sink.held c.args.report.now) (g.K.Sink.held c.check.new.report)) c.in-Err-Malformed.field-0-is c.in-Err-Malformed.ensures.stopped) c.end_malformed.ensures.status line

pub returns-in-Err-Read-clause-checked : goal.returns-in-Err-Read-clause-checked
returns-in-Err-Read-clause-checked g c =
    let line = later_status _ _ _ _ [] _ (λ rose. Rose-later _ _ _ c.in-Err-Read.ensures.report_faults c.end-in-Err-Read.ensures.faults rose) c.end-in-Err-Read.ensures.report in
    rw c.end-in-Err-Read.ensures.status (checked_unread _ _ _ _ _ _ _ _ _ _ c.in-Ok.ensures.picked (ap (λ p. p.is_open) c.in-Err-Read.ensures.picks ∙ c.in-Ok.ensures.is_open) (subst (λ (s : Stop). HasEnded s c.args.session (g.E.Source.left c.pick.new.site) (g.E.Source.left c.check.new.source) (g.K.Sink.held c.args.report.now) (g.K.Sink.held c.check.new.report)) c.in-Err-Read.field-0-is c.in-Err-Read.ensures.stopped) line)

pub returns-in-Err-clause-checked : goal.returns-in-Err-clause-checked
returns-in-Err-clause-checked g c =
    rw c.end.ensures.status (checked_unbegun _ _ _ _ _ _ _ c.in-Err.status c.in-Err.ensures.is_closed c.in-Err.ensures.status c.end.ensures.report)

pub returns-in-Err-clause-unharmed : goal.returns-in-Err-clause-unharmed
returns-in-Err-clause-unharmed g c = λ not_read. unbegun_cause c.in-Err.status _ c.in-Err.ensures.status (λ is. not_read (c.end.ensures.status ∙ is)) (λ is. c.in-Err.ensures.starved (ap Err is))

pub returns-in-Ok-check-clause-picked : goal.returns-in-Ok-check-clause-picked
returns-in-Ok-check-clause-picked g c = inl (rw c.check.ensures.picks c.in-Ok.ensures.named)

pub returns-in-Err-Read-clause-picked : goal.returns-in-Err-Read-clause-picked
returns-in-Err-Read-clause-picked g c = inl (rw c.check.ensures.picks c.in-Ok.ensures.named)

pub returns-in-Err-Report-clause-picked : goal.returns-in-Err-Report-clause-picked
returns-in-Err-Report-clause-picked g c = inl (rw c.check.ensures.picks c.in-Ok.ensures.named)

pub returns-in-Err-NoMemory-clause-picked : goal.returns-in-Err-NoMemory-clause-picked
returns-in-Err-NoMemory-clause-picked g c = inl (rw c.check.ensures.picks c.in-Ok.ensures.named)

pub returns-in-Err-TooLong-clause-picked : goal.returns-in-Err-TooLong-clause-picked
returns-in-Err-TooLong-clause-picked g c = inl (rw c.check.ensures.picks c.in-Ok.ensures.named)

pub returns-in-Err-Malformed-clause-picked : goal.returns-in-Err-Malformed-clause-picked
returns-in-Err-Malformed-clause-picked g c = inl (rw c.check.ensures.picks c.in-Ok.ensures.named)

pub returns-in-Err-clause-picked : goal.returns-in-Err-clause-picked
returns-in-Err-clause-picked g c = picked_failed _ _ c.args.stream.now c.in-Err.status _ _ _ c.end.ensures.status refl refl c.in-Err.ensures.once
