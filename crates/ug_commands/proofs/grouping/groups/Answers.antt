use Rattle.std.proofs.Common.{[], inl, Err, refl, ap, subst, ◌∙◌}
use Rattle.ug_pieces.specs.ReadingLaws.{Rose-later}
use Rattle.ug_commands.specs.Grouped.{HasEnded}
use Rattle.ug_commands.specs.declared.stop.Stop.{Stop}
use Rattle.ug_commands.proofs.Ends.{later_status, unbegun_cause, picked_failed}
use Rattle.ug_commands.proofs.Listings.{listed_ok, listed_report, listed_limit}
use Rattle.ug_commands.proofs.grouping.groups.Goals as goal

pub returns-in-Ok-groups-clause-listed : goal.returns-in-Ok-groups-clause-listed
returns-in-Ok-groups-clause-listed g c =
    let line = later_status _ _ _ _ [] _ (λ rose. Rose-later _ _ _ c.in-Ok-groups.ensures.report_faults c.end-in-Ok-groups.ensures.faults rose) c.end-in-Ok-groups.ensures.report in
    rw c.end-in-Ok-groups.ensures.status (listed_ok _ _ _ _ _ _ _ _ c.in-Ok.ensures.picked c.in-Ok-groups.ensures.ok line)

pub returns-in-Err-Report-clause-listed : goal.returns-in-Err-Report-clause-listed
returns-in-Err-Report-clause-listed g c =
    let line = later_status _ _ _ _ [] _ (λ rose. Rose-later _ _ _ c.in-Err-Report.ensures.report_faults c.end-in-Err-Report.ensures.faults rose) c.end-in-Err-Report.ensures.report in
    rw c.end-in-Err-Report.ensures.status (listed_report _ _ _ _ _ _ _ _ c.in-Ok.ensures.picked
    (subst (λ (s : Stop). HasEnded s (g.E.Source.left c.pick.new.site) (g.E.Source.left c.groups.new.source) (g.K.Sink.held c.args.report.now) (g.K.Sink.held c.groups.new.report)) c.in-Err-Report.field-0-is c.in-Err-Report.ensures.stopped) line)

pub returns-in-Err-TooLong-clause-listed : goal.returns-in-Err-TooLong-clause-listed
returns-in-Err-TooLong-clause-listed g c =
    let line = later_status _ _ _ _ [] _ (λ rose. Rose-later _ _ _ c.in-Err-TooLong.ensures.report_faults c.end-in-Err-TooLong.ensures.faults rose) c.end-in-Err-TooLong.ensures.report in
    rw c.end-in-Err-TooLong.ensures.status (listed_limit _ _ _ _ _ _ _ _ c.in-Ok.ensures.picked
    (subst (λ (s : Stop). HasEnded s (g.E.Source.left c.pick.new.site) (g.E.Source.left c.groups.new.source) (g.K.Sink.held c.args.report.now) (g.K.Sink.held c.groups.new.report)) c.in-Err-TooLong.field-0-is c.in-Err-TooLong.ensures.stopped) line)

pub returns-in-Err-clause-unharmed : goal.returns-in-Err-clause-unharmed
returns-in-Err-clause-unharmed g c = λ not_read. unbegun_cause c.in-Err.status _ c.in-Err.ensures.status (λ is. not_read (c.end.ensures.status ∙ is)) (λ is. c.in-Err.ensures.starved (ap Err is))

pub returns-in-Ok-groups-clause-picked : goal.returns-in-Ok-groups-clause-picked
returns-in-Ok-groups-clause-picked g c = inl (rw c.groups.ensures.picks c.in-Ok.ensures.named)

pub returns-in-Err-Read-clause-picked : goal.returns-in-Err-Read-clause-picked
returns-in-Err-Read-clause-picked g c = inl (rw c.groups.ensures.picks c.in-Ok.ensures.named)

pub returns-in-Err-Report-clause-picked : goal.returns-in-Err-Report-clause-picked
returns-in-Err-Report-clause-picked g c = inl (rw c.groups.ensures.picks c.in-Ok.ensures.named)

pub returns-in-Err-NoMemory-clause-picked : goal.returns-in-Err-NoMemory-clause-picked
returns-in-Err-NoMemory-clause-picked g c = inl (rw c.groups.ensures.picks c.in-Ok.ensures.named)

pub returns-in-Err-TooLong-clause-picked : goal.returns-in-Err-TooLong-clause-picked
returns-in-Err-TooLong-clause-picked g c = inl (rw c.groups.ensures.picks c.in-Ok.ensures.named)

pub returns-in-Err-Config-clause-picked : goal.returns-in-Err-Config-clause-picked
returns-in-Err-Config-clause-picked g c = inl (rw c.groups.ensures.picks c.in-Ok.ensures.named)

pub returns-in-Err-clause-picked : goal.returns-in-Err-clause-picked
returns-in-Err-clause-picked g c = picked_failed _ _ c.args.config.now c.in-Err.status _ _ _ c.end.ensures.status refl refl c.in-Err.ensures.once
