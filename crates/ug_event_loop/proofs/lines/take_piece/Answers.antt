use Rattle.std.proofs.Common.{sym, subst, ◌∙◌, refl, arith}
use Rattle.ug_pieces.proofs.LineCuts.{within_init, within_next, within_stopped, within_done, within_unkept}
use Rattle.ug_event_loop.specs.Standing.{TakesLines, StopsWithin}
use Rattle.ug_event_loop.specs.StandingLaws.{same_itself, same_further, takes_none, takes_more, stops_later, rose_later}
use Rattle.ug_event_loop.proofs.Counting.{least-further, most-further}
use Rattle.ug_event_loop.proofs.lines.take_piece.Goals as goal

pub loop-line-init : goal.loop-line-init
loop-line-init g c =
    let begun = c.args.begun.now in
    let held = g.K.Sink.held c.args.report.now in
    record {
      within = within_init (TakesLines g.S.Machine.rules g.S.Speaker.speech c.args.builder.now held c.args.builder.now held) begun.kept begun.most begun.rest.items c.args.piece.now begun.count
          (takes_none g.S.Machine.rules g.S.Speaker.speech c.args.builder.now held);
      same = same_itself c.args.builder.now;
      posts = refl;
      faults = omega arith;
      least = omega arith;
      most = omega arith;
    }

pub returns-in-Err-clause-stopped : goal.returns-in-Err-clause-stopped
returns-in-Err-clause-stopped g c =
    let rules = g.S.Machine.rules in
    let speech = g.S.Speaker.speech in
    let begun = c.args.begun.now in
    let at = c.loop-line.begun in
    let old = c.args.builder.now in
    let mid = c.loop-line.builder in
    let new = c.take_ended.new.builder in
    let held = g.K.Sink.held c.args.report.now in
    let held_mid = g.K.Sink.held c.loop-line.report in
    let held_new = g.K.Sink.held c.take_ended.new.report in
    within_stopped (TakesLines rules speech old held mid held_mid) (TakesLines rules speech old held new held_new)
    (λ lines why. StopsWithin rules speech why mid held_mid new held_new lines) (λ lines why. StopsWithin rules speech why old held new held_new lines)
    begun.kept begun.most begun.rest.items c.args.piece.now at.rest.items c.loop-line.left.now c.in-Some.line.now c.in-Some.more.now begun.count at.count at.kept at.most (sym c.in-Some.ensures.parts)
    c.in-Err.stop
    (λ same xs took. subst (λ h. TakesLines rules speech old held new h xs) (sym same.1) (subst (λ b. TakesLines rules speech old held b held_mid xs) (sym same.0) took))
    (λ a b s took stopped. stops_later rules speech old mid new held held_mid held_new a b s c.loop-line.invariant.same took stopped)
    at.counted c.in-Err.ensures.stopped c.loop-line.invariant.within

pub loop-line-smaller : goal.loop-line-smaller
loop-line-smaller g c = c.in-Some.ensures.shorter

pub loop-line-preserved : goal.loop-line-preserved
loop-line-preserved g c =
    let rules = g.S.Machine.rules in
    let speech = g.S.Speaker.speech in
    let begun = c.args.begun.now in
    let at = c.loop-line.begun in
    let after = c.take_ended.new.begun in
    let old = c.args.builder.now in
    let mid = c.loop-line.builder in
    let new = c.take_ended.new.builder in
    let held = g.K.Sink.held c.args.report.now in
    let held_mid = g.K.Sink.held c.loop-line.report in
    let held_new = g.K.Sink.held c.take_ended.new.report in
    record {
      within = within_next (TakesLines rules speech old held mid held_mid) (TakesLines rules speech mid held_mid new held_new) (TakesLines rules speech old held new held_new)
          begun.kept begun.most begun.rest.items c.args.piece.now at.rest.items c.loop-line.left.now c.in-Some.line.now c.in-Some.more.now begun.count at.count at.kept at.most (sym c.in-Some.ensures.parts)
          after.rest.items after.count after.kept after.most c.in-Ok.ensures.rest c.in-Ok.ensures.count c.in-Ok.ensures.kept c.in-Ok.ensures.most
          (λ a b took more. takes_more rules speech old mid new held held_mid held_new a b c.loop-line.invariant.same took more)
          c.in-Ok.ensures.taken c.loop-line.invariant.within;
      same = same_further old mid new c.loop-line.invariant.same c.take_ended.ensures.same;
      posts = c.take_ended.ensures.posts ∙ c.loop-line.invariant.posts;
      faults = omega (arith, c.take_ended.ensures.faults, c.loop-line.invariant.faults);
      least = least-further rules old.pass.root mid.pass.root old.pass.seen mid.pass.seen new.pass.seen c.args.steps.now c.loop-line.steps c.take_ended.new.steps
          c.loop-line.invariant.same.pass.2 c.loop-line.invariant.least c.take_ended.ensures.steps_least;
      most = most-further rules old.pass.root mid.pass.root old.pass.seen mid.pass.seen new.pass.seen c.args.steps.now c.loop-line.steps c.take_ended.new.steps
          c.loop-line.invariant.same.pass.2 c.loop-line.invariant.most c.in-Ok.ensures.steps_most;
    }

pub returns-in-Ok-keep_begun-clause-taken : goal.returns-in-Ok-keep_begun-clause-taken
returns-in-Ok-keep_begun-clause-taken g c =
    let begun = c.args.begun.now in
    let at = c.loop-line.begun in
    let after = c.keep_begun.new.begun in
    let is = c.in-Ok-keep_begun.ensures in
    let held = g.K.Sink.held c.args.report.now in
    let held_mid = g.K.Sink.held c.loop-line.report in
    within_done (TakesLines g.S.Machine.rules g.S.Speaker.speech c.args.builder.now held c.loop-line.builder held_mid) (λ lines why. StopsWithin g.S.Machine.rules g.S.Speaker.speech why c.args.builder.now held c.loop-line.builder held_mid lines)
    begun.kept begun.most begun.rest.items c.args.piece.now at.rest.items c.loop-line.left.now begun.count at.count at.kept at.most (sym c.in_default.ensures.parts)
    after.rest.items after.count after.kept after.most is.rest c.keep_begun.ensures.count c.keep_begun.ensures.kept c.keep_begun.ensures.most
    c.loop-line.invariant.within

pub returns-in-Err-keep_begun-clause-stopped : goal.returns-in-Err-keep_begun-clause-stopped
returns-in-Err-keep_begun-clause-stopped g c =
    let begun = c.args.begun.now in
    let at = c.loop-line.begun in
    let held = g.K.Sink.held c.args.report.now in
    let held_mid = g.K.Sink.held c.loop-line.report in
    within_unkept (TakesLines g.S.Machine.rules g.S.Speaker.speech c.args.builder.now held c.loop-line.builder held_mid) (λ lines why. StopsWithin g.S.Machine.rules g.S.Speaker.speech why c.args.builder.now held c.loop-line.builder held_mid lines)
    begun.kept begun.most begun.rest.items c.args.piece.now at.rest.items c.loop-line.left.now begun.count at.count at.kept at.most (sym c.in_default.ensures.parts)
    c.in-Err-keep_begun.stop at.counted c.in-Err-keep_begun.ensures.stopped c.loop-line.invariant.within

pub returns-in-Err-clause-rose : goal.returns-in-Err-clause-rose
returns-in-Err-clause-rose g c = λ is. rose_later (g.K.Sink.faults c.args.report.now) (g.K.Sink.faults c.loop-line.report) (g.K.Sink.faults c.take_ended.new.report) c.loop-line.invariant.faults c.take_ended.ensures.faults (c.in-Err.ensures.rose is)

pub returns-in-Err-clause-steps_least : goal.returns-in-Err-clause-steps_least
returns-in-Err-clause-steps_least g c =
    let old = c.args.builder.now in
    let mid = c.loop-line.builder in
    let new = c.take_ended.new.builder in
    least-further g.S.Machine.rules old.pass.root mid.pass.root old.pass.seen mid.pass.seen new.pass.seen c.args.steps.now c.loop-line.steps c.take_ended.new.steps
    c.loop-line.invariant.same.pass.2 c.loop-line.invariant.least c.take_ended.ensures.steps_least
