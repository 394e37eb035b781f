use Rattle.std.proofs.Common.{Err, refl, ap, sym, subst, arith}
use Rattle.ug_pieces.specs.Pieces.{HasRead}
use Rattle.ug_pieces.proofs.LineReads.{room_for}
use Rattle.ug_event_loop.specs.StandingLaws.{rose_later}
use Rattle.ug_event_loop.specs.Reading.{LinesHalted}
use Rattle.ug_event_loop.proofs.FilesRead.{bytes-are, lines-are, report-alone, report-last, file-halted, file-stopped-last, file-taken}
use Rattle.ug_event_loop.proofs.Counting.{least-further, most-further}
use Rattle.ug_event_loop.proofs.files.read_events.Goals as goal

pub returns-in-Err-clause-halted : goal.returns-in-Err-clause-halted
returns-in-Err-clause-halted g c =
    let after = c.read_ended.new.begun in
    let now = g.E.Source.left c.read_ended.new.source in
    let old = c.args.builder.now in
    let new = c.read_ended.new.builder in
    let held = g.K.Sink.held c.args.report.now in
    let held_new = g.K.Sink.held c.read_ended.new.report in
    subst (λ halt. HasRead (g.E.Source.left c.args.source.now) now (LinesHalted g.S.Machine.rules g.S.Speaker.speech halt old held new held_new now)) (sym c.halt_of_pieces.ensures)
    (file-halted g.S.Machine.rules g.S.Speaker.speech 4097 2000000 1073741824 (omega arith) bytes-are lines-are _ after.rest.items 0 after.count after.kept after.most c.new.ensures.items refl
    (g.E.Source.left c.args.source.now) now old new held held_new c.in-Err.halt (room_for after.count after.most after.rest after.counted after.begun) c.in-Err.ensures.halted)

pub returns-clause-halted : goal.returns-clause-halted
returns-clause-halted g c =
    let after = c.read_ended.new.begun in
    let now = g.E.Source.left c.read_ended.new.source in
    let old = c.args.builder.now in
    let mid = c.read_ended.new.builder in
    let new = c.take_last.new.builder in
    let held = g.K.Sink.held c.args.report.now in
    let held_mid = g.K.Sink.held c.read_ended.new.report in
    let held_new = g.K.Sink.held c.take_last.new.report in
    subst (λ halt. HasRead (g.E.Source.left c.args.source.now) now (LinesHalted g.S.Machine.rules g.S.Speaker.speech halt old held new held_new now)) (sym c.halt_of_stop.ensures)
    (file-stopped-last g.S.Machine.rules g.S.Speaker.speech 4097 2000000 1073741824 (omega arith) bytes-are lines-are _ after.rest.items 0 after.count after.kept after.most c.new.ensures.items refl
    (g.E.Source.left c.args.source.now) now old mid new held held_mid held_new c.read_ended.ensures.same c.in-Err-take_last.stop (room_for after.count after.most after.rest after.counted after.begun) c.in-Err-take_last.ensures.stopped c.in-Ok.ensures.ok)

pub returns-in-Ok-take_last-clause-ok : goal.returns-in-Ok-take_last-clause-ok
returns-in-Ok-take_last-clause-ok g c =
    let after = c.read_ended.new.begun in
    let now = g.E.Source.left c.read_ended.new.source in
    let old = c.args.builder.now in
    let mid = c.read_ended.new.builder in
    let new = c.take_last.new.builder in
    let held = g.K.Sink.held c.args.report.now in
    let held_mid = g.K.Sink.held c.read_ended.new.report in
    let held_new = g.K.Sink.held c.take_last.new.report in
    file-taken g.S.Machine.rules g.S.Speaker.speech 4097 2000000 1073741824 (omega arith) bytes-are lines-are _ after.rest.items 0 after.count after.kept after.most c.new.ensures.items refl
    (g.E.Source.left c.args.source.now) now old mid new held held_mid held_new c.read_ended.ensures.same (room_for after.count after.most after.rest after.counted after.begun)
    c.in-Ok-take_last.ensures.taken c.in-Ok.ensures.ok

pub returns-in-Err-clause-rose : goal.returns-in-Err-clause-rose
returns-in-Err-clause-rose g c = λ is. c.in-Err.ensures.rose (ap Err (report-alone c.in-Err.halt (let e = c.halt_of_pieces.ensures in cc)))

pub returns-clause-rose : goal.returns-clause-rose
returns-clause-rose g c = λ is.
    rose_later (g.K.Sink.faults c.args.report.now) (g.K.Sink.faults c.read_ended.new.report) (g.K.Sink.faults c.take_last.new.report) c.read_ended.ensures.writes c.take_last.ensures.faults
    (c.in-Err-take_last.ensures.rose (ap Err (report-last c.in-Err-take_last.stop (let e = c.halt_of_stop.ensures in cc))))

pub returns-clause-steps_least : goal.returns-clause-steps_least
returns-clause-steps_least g c =
    let old = c.args.builder.now in
    let mid = c.read_ended.new.builder in
    let new = c.take_last.new.builder in
    least-further g.S.Machine.rules old.pass.root mid.pass.root old.pass.seen mid.pass.seen new.pass.seen c.args.steps.now c.read_ended.new.steps c.take_last.new.steps
    c.read_ended.ensures.same.pass.2 c.read_ended.ensures.steps_least c.take_last.ensures.steps_least

pub returns-in-Ok-take_last-clause-steps_least : goal.returns-in-Ok-take_last-clause-steps_least
returns-in-Ok-take_last-clause-steps_least g c =
    let old = c.args.builder.now in
    let mid = c.read_ended.new.builder in
    let new = c.take_last.new.builder in
    least-further g.S.Machine.rules old.pass.root mid.pass.root old.pass.seen mid.pass.seen new.pass.seen c.args.steps.now c.read_ended.new.steps c.take_last.new.steps
    c.read_ended.ensures.same.pass.2 c.read_ended.ensures.steps_least c.take_last.ensures.steps_least

pub returns-in-Ok-take_last-clause-steps_most : goal.returns-in-Ok-take_last-clause-steps_most
returns-in-Ok-take_last-clause-steps_most g c =
    let old = c.args.builder.now in
    let mid = c.read_ended.new.builder in
    let new = c.take_last.new.builder in
    most-further g.S.Machine.rules old.pass.root mid.pass.root old.pass.seen mid.pass.seen new.pass.seen c.args.steps.now c.read_ended.new.steps c.take_last.new.steps
    c.read_ended.ensures.same.pass.2 c.in-Ok.ensures.steps_most c.in-Ok-take_last.ensures.steps_most
