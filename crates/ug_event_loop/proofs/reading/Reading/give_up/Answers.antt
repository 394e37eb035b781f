use Rattle.ug_event_loop.specs.Reading.{first_of}
use Rattle.ug_event_loop.proofs.Readings.{given-up}
use Rattle.ug_event_loop.proofs.reading.Reading.give_up.Goals as goal

pub returns : goal.returns
returns g c = record {
  ended = λ outside.
      given-up g.S.Machine.rules g.S.Speaker.speech (first_of c.args.self.now.first.items) c.args.self.now.builder c.break_off.new.self outside c.args.steps.now c.break_off.new.steps
      c.break_off.ensures.same c.break_off.ensures.tally c.break_off.ensures.history c.break_off.ensures.closed c.break_off.ensures.legal c.break_off.ensures.steps_least;
}
