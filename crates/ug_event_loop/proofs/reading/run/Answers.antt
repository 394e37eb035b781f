use Rattle.std.proofs.Common.{true, Err, map, ap}
use Rattle.ug_event_loop.specs.Standing.{said_by}
use Rattle.ug_event_loop.specs.StandingLaws.{same_further}
use Rattle.ug_event_loop.specs.Files.{lines_read}
use Rattle.ug_event_loop.specs.Reading.{first_of}
use Rattle.ug_event_loop.proofs.Turning.{winds_further}
use Rattle.ug_event_loop.proofs.Counting.{least-further, most-further}
use Rattle.ug_event_loop.proofs.Builders.{builder-still}
use Rattle.ug_event_loop.proofs.Passes.{ended-closed}
use Rattle.ug_event_loop.proofs.Readings.{has-read, starved-last, ends-still}
use Rattle.ug_event_loop.proofs.reading.run.Goals as goal

pub returns-in-Ok-conclude-clause-ended : goal.returns-in-Ok-conclude-clause-ended
returns-in-Ok-conclude-clause-ended g c = record {
  same = same_further c.args.builder.now c.take_all.new.builder c.conclude.new.self c.take_all.ensures.same c.conclude.ensures.same;
  ended = λ stands.
      has-read (g.E.Source.left c.args.source.now) (g.E.Source.left c.take_all.new.source) _ _
      (λ read so. (
        so.0,
        so.1,
        builder-still g.S.Machine.rules g.S.Speaker.speech c.take_all.new.builder c.conclude.new.self c.conclude.ensures.same c.conclude.ensures.tally c.conclude.ensures.history c.conclude.ensures.legal
            (first_of c.args.first.items) (map (said_by c.args.builder.now.grammar) (lines_read true read)) (g.K.Sink.held c.args.report.now) (g.K.Sink.held c.take_all.new.report) so.2,
        c.in-Ok-conclude.ensures.ended,
      ))
      (c.in-Ok.ensures.taken stands).0;
  closed = ended-closed g.S.Machine.rules g.S.Speaker.speech c.conclude.new.self.pass.spent c.conclude.new.self.pass.root c.conclude.new.self.pass.seen c.in-Ok-conclude.ensures.ended;
  unharmed = λ other. c.in-Ok.ensures.unharmed (λ is. cc);
  reads = c.take_all.ensures.faults;
  writes = c.take_all.ensures.writes;
  least = least-further g.S.Machine.rules c.args.builder.now.pass.root c.take_all.new.builder.pass.root c.args.builder.now.pass.seen c.take_all.new.builder.pass.seen c.conclude.new.self.pass.seen
      c.args.steps.now c.take_all.new.steps c.conclude.new.steps c.take_all.ensures.same.pass.2 c.take_all.ensures.steps_least c.conclude.ensures.steps_least;
  most = λ _.
      most-further g.S.Machine.rules c.args.builder.now.pass.root c.take_all.new.builder.pass.root c.args.builder.now.pass.seen c.take_all.new.builder.pass.seen c.conclude.new.self.pass.seen
      c.args.steps.now c.take_all.new.steps c.conclude.new.steps c.take_all.ensures.same.pass.2 c.in-Ok.ensures.steps_most c.in-Ok-conclude.ensures.steps_most;
}

pub returns-in-Err-conclude-clause-ended : goal.returns-in-Err-conclude-clause-ended
returns-in-Err-conclude-clause-ended g c =
    let mid = c.take_all.new.builder in
    let same = same_further mid c.conclude.new.self c.break_off.new.self c.conclude.ensures.same c.break_off.ensures.same in
    let goes = winds_further g.S.Machine.rules g.S.Speaker.speech mid.pass.seen c.conclude.new.self.pass.seen c.break_off.new.self.pass.seen c.conclude.ensures.history c.break_off.ensures.history in
    record {
      same = same_further c.args.builder.now mid c.break_off.new.self c.take_all.ensures.same same;
      ended = λ stands.
          has-read (g.E.Source.left c.args.source.now) (g.E.Source.left c.take_all.new.source) _ _
          (λ read so. starved-last g.S.Machine.rules g.S.Speaker.speech (first_of c.args.first.items) c.args.builder.now mid c.break_off.new.self
          (record { left = g.E.Source.left c.args.source.now; reads_failed = g.E.Source.faults c.args.source.now; held = g.K.Sink.held c.args.report.now; writes_failed = g.K.Sink.faults c.args.report.now; steps = c.args.steps.now })
          (record { left = g.E.Source.left c.take_all.new.source; reads_failed = g.E.Source.faults c.take_all.new.source; held = g.K.Sink.held c.take_all.new.report; writes_failed = g.K.Sink.faults c.take_all.new.report; steps = c.break_off.new.steps })
          read same goes c.break_off.ensures.legal so.0 so.2)
          (c.in-Ok.ensures.taken stands).0;
      closed = c.break_off.ensures.closed;
      unharmed = λ other. c.in-Ok.ensures.unharmed (λ is. cc);
      reads = c.take_all.ensures.faults;
      writes = c.take_all.ensures.writes;
      least = least-further g.S.Machine.rules c.args.builder.now.pass.root mid.pass.root c.args.builder.now.pass.seen mid.pass.seen c.break_off.new.self.pass.seen
          c.args.steps.now c.take_all.new.steps c.break_off.new.steps c.take_all.ensures.same.pass.2 c.take_all.ensures.steps_least
          (least-further g.S.Machine.rules mid.pass.root c.conclude.new.self.pass.root mid.pass.seen c.conclude.new.self.pass.seen c.break_off.new.self.pass.seen
          c.take_all.new.steps c.conclude.new.steps c.break_off.new.steps c.conclude.ensures.same.pass.2 c.conclude.ensures.steps_least c.break_off.ensures.steps_least);
      most = λ no. absurd cc;
    }

pub returns-in-Err-clause-ended : goal.returns-in-Err-clause-ended
returns-in-Err-clause-ended g c =
    let mid = c.take_all.new.builder in
    record {
      same = same_further c.args.builder.now mid c.break_off-in-Err.new.self c.take_all.ensures.same c.break_off-in-Err.ensures.same;
      ended = λ stands.
          has-read (g.E.Source.left c.args.source.now) (g.E.Source.left c.take_all.new.source) _ _
          (λ read so. ends-still g.S.Machine.rules g.S.Speaker.speech (first_of c.args.first.items) c.args.builder.now mid c.break_off-in-Err.new.self
          (record { left = g.E.Source.left c.args.source.now; reads_failed = g.E.Source.faults c.args.source.now; held = g.K.Sink.held c.args.report.now; writes_failed = g.K.Sink.faults c.args.report.now; steps = c.args.steps.now })
          (record { left = g.E.Source.left c.take_all.new.source; reads_failed = g.E.Source.faults c.take_all.new.source; held = g.K.Sink.held c.take_all.new.report; writes_failed = g.K.Sink.faults c.take_all.new.report; steps = c.take_all.new.steps }) c.break_off-in-Err.new.steps
          c.in-Err.end read (λ is. c.in-Err.ensures.incomplete (ap Err is)) c.break_off-in-Err.ensures.same c.break_off-in-Err.ensures.tally c.break_off-in-Err.ensures.history c.break_off-in-Err.ensures.legal so)
          (c.in-Err.ensures.halted stands).0;
      closed = c.break_off-in-Err.ensures.closed;
      unharmed = λ other. c.in-Err.ensures.unharmed (λ is. other cc);
      reads = c.take_all.ensures.faults;
      writes = c.take_all.ensures.writes;
      least = least-further g.S.Machine.rules c.args.builder.now.pass.root mid.pass.root c.args.builder.now.pass.seen mid.pass.seen c.break_off-in-Err.new.self.pass.seen
          c.args.steps.now c.take_all.new.steps c.break_off-in-Err.new.steps c.take_all.ensures.same.pass.2 c.take_all.ensures.steps_least c.break_off-in-Err.ensures.steps_least;
      most = λ is. absurd (c.in-Err.ensures.incomplete (ap Err is));
    }
