use Rattle.std.proofs.Common.{true, [], Err, inr, refl, ap, sym, subst}
use Rattle.ug_pieces.specs.Pieces.{HasRead}
use Rattle.ug_event_loop.specs.Files.{lines_read}
use Rattle.ug_event_loop.specs.StandingLaws.{stays_further}
use Rattle.ug_event_loop.specs.Reading.{first_of, EndsAt}
use Rattle.ug_event_loop.proofs.Readings.{has-read, read-nothing, stands-behind, halted-ends, halted-open}
use Rattle.ug_event_loop.proofs.Counting.{least-further, most-further}
use Rattle.ug_event_loop.proofs.reading.take_all.Goals as goal

pub returns-in_default-clause-halted : goal.returns-in_default-clause-halted
returns-in_default-clause-halted g c stands =
    let stopped = c.in_default.ensures.stopped (g.K.Sink.held c.args.report.now) stands in
    (read-nothing (g.E.Source.left c.args.source.now) _ (inr (record { none = refl; within = stopped.0 })), stopped.1)

pub returns-in-Ok-read_events-clause-taken : goal.returns-in-Ok-read_events-clause-taken
returns-in-Ok-read_events-clause-taken g c stands =
    let first = c.in-Ok.ensures.taken (g.K.Sink.held c.args.report.now) stands in
    let start = first.0 in (
      has-read (g.E.Source.left c.args.source.now) (g.E.Source.left c.read_events.new.source) _ _
          (λ read so. (
            so.0,
            so.1,
            stands-behind g.S.Machine.rules g.S.Speaker.speech (first_of c.args.first.items) c.args.builder.now c.admit_all.new.builder c.read_events.new.builder
                (record { left = g.E.Source.left c.args.source.now; reads_failed = g.E.Source.faults c.args.source.now; held = g.K.Sink.held c.args.report.now; writes_failed = g.K.Sink.faults c.args.report.now; steps = c.args.steps.now })
                (record { left = g.E.Source.left c.read_events.new.source; reads_failed = g.E.Source.faults c.read_events.new.source; held = g.K.Sink.held c.read_events.new.report; writes_failed = g.K.Sink.faults c.read_events.new.report; steps = c.read_events.new.steps })
                c.admit_all.ensures.same start (lines_read true read) so.2,
          ))
          c.in-Ok-read_events.ensures.ok,
      stays_further g.S.Machine.rules g.S.Speaker.speech c.args.builder.now.pass.seen c.admit_all.new.builder.pass.seen c.read_events.new.builder.pass.seen first.1
          (c.in-Ok-read_events.ensures.ok.so.2 (first_of c.args.first.items) [] (g.K.Sink.held c.args.report.now) start).1,
    )

pub returns-in-Err-clause-halted : goal.returns-in-Err-clause-halted
returns-in-Err-clause-halted g c stands =
    let first = c.in-Ok.ensures.taken (g.K.Sink.held c.args.report.now) stands in
    let start = first.0 in (
      subst (λ end. HasRead (g.E.Source.left c.args.source.now) (g.E.Source.left c.read_events.new.source)
          (EndsAt g.S.Machine.rules g.S.Speaker.speech (first_of c.args.first.items) c.args.builder.now c.read_events.new.builder
          (record { left = g.E.Source.left c.args.source.now; reads_failed = g.E.Source.faults c.args.source.now; held = g.K.Sink.held c.args.report.now; writes_failed = g.K.Sink.faults c.args.report.now; steps = c.args.steps.now })
          (record { left = g.E.Source.left c.read_events.new.source; reads_failed = g.E.Source.faults c.read_events.new.source; held = g.K.Sink.held c.read_events.new.report; writes_failed = g.K.Sink.faults c.read_events.new.report; steps = c.read_events.new.steps }) end))
          (sym c.end_of.ensures)
          (has-read (g.E.Source.left c.args.source.now) (g.E.Source.left c.read_events.new.source) _ _
          (λ read so. halted-ends g.S.Machine.rules g.S.Speaker.speech (first_of c.args.first.items) c.args.builder.now c.admit_all.new.builder c.read_events.new.builder
          (record { left = g.E.Source.left c.args.source.now; reads_failed = g.E.Source.faults c.args.source.now; held = g.K.Sink.held c.args.report.now; writes_failed = g.K.Sink.faults c.args.report.now; steps = c.args.steps.now })
          (record { left = g.E.Source.left c.read_events.new.source; reads_failed = g.E.Source.faults c.read_events.new.source; held = g.K.Sink.held c.read_events.new.report; writes_failed = g.K.Sink.faults c.read_events.new.report; steps = c.read_events.new.steps })
          c.admit_all.ensures.same start c.in-Err.halt read
          (λ is. c.in-Err.ensures.unread (ap Err is)) (λ is. c.in-Err.ensures.rose (ap Err is)) so)
          c.in-Err.ensures.halted),
      stays_further g.S.Machine.rules g.S.Speaker.speech c.args.builder.now.pass.seen c.admit_all.new.builder.pass.seen c.read_events.new.builder.pass.seen first.1
          (halted-open g.S.Machine.rules g.S.Speaker.speech (first_of c.args.first.items) c.args.builder.now c.admit_all.new.builder c.read_events.new.builder
          (record { left = g.E.Source.left c.args.source.now; reads_failed = g.E.Source.faults c.args.source.now; held = g.K.Sink.held c.args.report.now; writes_failed = g.K.Sink.faults c.args.report.now; steps = c.args.steps.now })
          (record { left = g.E.Source.left c.read_events.new.source; reads_failed = g.E.Source.faults c.read_events.new.source; held = g.K.Sink.held c.read_events.new.report; writes_failed = g.K.Sink.faults c.read_events.new.report; steps = c.read_events.new.steps })
          c.admit_all.ensures.same start c.in-Err.halt c.in-Err.ensures.halted.read c.in-Err.ensures.halted.so),
    )

pub returns-in-Ok-read_events-clause-steps_least : goal.returns-in-Ok-read_events-clause-steps_least
returns-in-Ok-read_events-clause-steps_least g c =
    least-further g.S.Machine.rules c.args.builder.now.pass.root c.admit_all.new.builder.pass.root c.args.builder.now.pass.seen c.admit_all.new.builder.pass.seen c.read_events.new.builder.pass.seen
    c.args.steps.now c.admit_all.new.steps c.read_events.new.steps c.admit_all.ensures.same.pass.2 c.admit_all.ensures.steps_least c.read_events.ensures.steps_least

pub returns-in-Err-clause-steps_least : goal.returns-in-Err-clause-steps_least
returns-in-Err-clause-steps_least g c =
    least-further g.S.Machine.rules c.args.builder.now.pass.root c.admit_all.new.builder.pass.root c.args.builder.now.pass.seen c.admit_all.new.builder.pass.seen c.read_events.new.builder.pass.seen
    c.args.steps.now c.admit_all.new.steps c.read_events.new.steps c.admit_all.ensures.same.pass.2 c.admit_all.ensures.steps_least c.read_events.ensures.steps_least

pub returns-in-Ok-read_events-clause-steps_most : goal.returns-in-Ok-read_events-clause-steps_most
returns-in-Ok-read_events-clause-steps_most g c =
    most-further g.S.Machine.rules c.args.builder.now.pass.root c.admit_all.new.builder.pass.root c.args.builder.now.pass.seen c.admit_all.new.builder.pass.seen c.read_events.new.builder.pass.seen
    c.args.steps.now c.admit_all.new.steps c.read_events.new.steps c.admit_all.ensures.same.pass.2 c.in-Ok.ensures.steps_most c.in-Ok-read_events.ensures.steps_most
