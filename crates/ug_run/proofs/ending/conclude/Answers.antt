use Rattle.std.proofs.Common.{subst, ◌∙◌}
use Rattle.ug_edge.specs.Told.{Rose, AppendsPiece}
use Rattle.ug_pieces.specs.Reporting.{AppendsFront}
use Rattle.ug_report.specs.Report.{name_at, lost_status}
use Rattle.ug_commands.specs.Files.{AppendsThenStatus}
use Rattle.ug_run.proofs.Concluding.{concluded-whole, concluded-lost}
use Rattle.ug_run.proofs.ending.conclude.Goals as goal

pub returns-in-None-clause-concluded : goal.returns-in-None-clause-concluded
returns-in-None-clause-concluded g c =
    let old = g.K.Sink.held c.args.report.now in
    let new = g.K.Sink.held c.end_whole.new.report in
    let lines_are = c.as_bytes.ensures.value ∙ c.in-Ok.ensures in
    concluded-whole c.args.names.now c.args.losses.now c.args.tally.accepted c.args.tally.refused old new (Rose (g.K.Sink.faults c.args.report.now) (g.K.Sink.faults c.end_whole.new.report)) c.end_whole.result
    c.in-None.ensures.none c.end_whole.ensures.status
    (λ is. subst (λ t. AppendsPiece old new t) lines_are (c.end_whole.ensures.whole is))
    (λ is. ((c.end_whole.ensures.front is).0, subst (λ t. AppendsFront old new t) lines_are (c.end_whole.ensures.front is).1))

pub returns-clause-concluded : goal.returns-clause-concluded
returns-clause-concluded g c =
    let old = g.K.Sink.held c.args.report.now in
    let new = g.K.Sink.held c.end_lost.new.report in
    let first = c.in-Some.first in
    let lines_are = c.as_bytes-in-Some.ensures.value ∙ c.in-Ok.ensures in
    concluded-lost c.args.names.now c.args.losses.now c.args.tally.accepted c.args.tally.refused old new (Rose (g.K.Sink.faults c.args.report.now) (g.K.Sink.faults c.end_lost.new.report)) c.end_lost.result first
    c.in-Some.ensures.first c.end_lost.ensures.status
    (λ is. subst (λ t. AppendsThenStatus old new (Rose (g.K.Sink.faults c.args.report.now) (g.K.Sink.faults c.end_lost.new.report)) t (lost_status (name_at c.args.names.now first.peer) first.session)) lines_are (c.end_lost.ensures.lost is))
    (λ is. ((c.end_lost.ensures.front is).0, subst (λ t. AppendsFront old new t) lines_are (c.end_lost.ensures.front is).1))
    c.end_lost.ensures.starved
