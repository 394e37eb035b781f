use Rattle.std.proofs.Common.{map, sym, ◌∙◌, ap, subst}
use Rattle.ug_events.specs.Views.{event_of}
use Rattle.ug_speaker.specs.Owes.{AreEvents}
use Rattle.ug_sender.specs.Posts.{AreHere, posts}
use Rattle.ug_event_loop.specs.Reading.{Outside, first_of, HasEnded}
use Rattle.ug_run.proofs.Running.{here-at, keeps-read, read-same, read-ended}
use Rattle.ug_run.proofs.run.Run.read.Goals as goal

pub read_lines-requires-clause-here : goal.read_lines-requires-clause-here
read_lines-requires-clause-here g c κs within = c.self.invariant.here

pub read_lines-requires-clause-lanes : goal.read_lines-requires-clause-lanes
read_lines-requires-clause-lanes g c κs within =
    let i = c.self.inside in
    subst (λ ls. AreHere i.turnstile.id (posts ls)) (sym (ap (λ l. l.items) c.replace-lanes.ensures.value)) (here-at i.turnstile.id i.reading.builder.pass.root i.lanes.items c.self.invariant.posts)

pub read_lines-requires-clause-form : goal.read_lines-requires-clause-form
read_lines-requires-clause-form g c κs within = subst (λ run. AreEvents (map event_of run.first)) (sym c.self.view_is) c.requires.form

pub invariant_of-self : goal.invariant_of-self
invariant_of-self g c =
    let i = c.self.inside in
    let new = c.read_lines.new.reading in
    let same = read-same g.S.Machine.rules g.S.Speaker.speech (first_of i.reading.first.items) i.reading.builder new.builder _ _ new.end c.read_lines.ensures.ended in
    keeps-read i.turnstile i.reading.builder new.builder i.lanes.items c.read_lines.result.items i.peers i.wires i.passes c.self.invariant same.pass (c.read_lines.ensures.posts ∙ ap (λ l. posts l.items) c.replace-lanes.ensures.value)

pub returns-clause-ended : goal.returns-clause-ended
returns-clause-ended g c =
    let i = c.self.inside in
    let new = c.read_lines.new.reading in
    let o : Outside = record { left = g.E.Source.left c.args.site.now; reads_failed = g.E.Source.faults c.args.site.now; held = g.K.Sink.held c.args.report.now; writes_failed = g.K.Sink.faults c.args.report.now; steps = c.args.steps.now } in
    let o' : Outside = record { left = g.E.Source.left c.read_lines.new.source; reads_failed = g.E.Source.faults c.read_lines.new.source; held = g.K.Sink.held c.read_lines.new.report; writes_failed = g.K.Sink.faults c.read_lines.new.report; steps = c.read_lines.new.steps } in
    subst (λ run. HasEnded g.S.Machine.rules g.S.Speaker.speech (first_of run.first) run.builder new.builder o o' c.in-Some.end) c.self.view_is
    (read-ended g.S.Machine.rules g.S.Speaker.speech (first_of i.reading.first.items) i.reading.builder new.builder o o' new.end c.in-Some.end c.in-Some.is c.read_lines.ensures.ended)

pub returns-clause-posts : goal.returns-clause-posts
returns-clause-posts g c = c.read_lines.ensures.posts ∙ (ap (λ l. posts l.items) c.replace-lanes.ensures.value ∙ ap (λ run. posts run.lanes) c.self.view_is)
