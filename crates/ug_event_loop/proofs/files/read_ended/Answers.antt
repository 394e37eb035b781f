use Rattle.std.proofs.Common.{◌≡◌, ℕ, ◌-◌, List, take, refl, ap, subst, ◌∙◌, arith, rules}
use Rattle.ug_edge.specs.Told.{Rose}
use Rattle.ug_pieces.specs.ReadingLaws.{taken_none, piece_within, buffer_back}
use Rattle.ug_pieces.specs.LineSteps.{HasTakenLines, HasStoppedWithin}
use Rattle.ug_pieces.specs.LineLaws.{takes_no_lines, takes_more_lines, stops_later_within, len_within}
use Rattle.ug_pieces.proofs.PieceSteps.{begins, nothing, goes_on, stops_at, passes_limit, not_read, reads_all}
use Rattle.ug_event_loop.specs.Standing.{TakesLines, StopsWithin}
use Rattle.ug_event_loop.specs.StandingLaws.{same_itself, same_further, takes_none, takes_more, stops_later, rose_later}
use Rattle.ug_event_loop.proofs.Counting.{least-further, most-further}
use Rattle.ug_event_loop.proofs.files.read_ended.Goals as goal

pub loop-count-init : goal.loop-count-init
loop-count-init g c =
    let begun = c.args.begun.now in
    let held = g.K.Sink.held c.args.report.now in
    let Takes = TakesLines g.S.Machine.rules g.S.Speaker.speech c.args.builder.now held c.args.builder.now held in
    record {
      behind = begins (g.E.Source.left c.args.source.now) _
          (takes_no_lines Takes begun.kept begun.most begun.rest.items begun.count (len_within begun.rest begun.kept begun.short) (takes_none g.S.Machine.rules g.S.Speaker.speech c.args.builder.now held));
      within = omega arith;
      room = c.in-Ok.ensures.len;
      same = same_itself c.args.builder.now;
      posts = refl;
      writes = omega arith;
      least = omega arith;
      most = omega arith;
      faults = refl;
      files = refl;
      picks = refl;
      made = refl;
      wire_faults = refl;
    }

pub returns-in-Err-clause-halted : goal.returns-in-Err-clause-halted
returns-in-Err-clause-halted g c =
    let begun = c.args.begun.now in
    let held = g.K.Sink.held c.args.report.now in
    let Takes = TakesLines g.S.Machine.rules g.S.Speaker.speech c.args.builder.now held c.args.builder.now held in
    nothing (g.E.Source.left c.args.source.now) _
    (takes_no_lines Takes begun.kept begun.most begun.rest.items begun.count (len_within begun.rest begun.kept begun.short) (takes_none g.S.Machine.rules g.S.Speaker.speech c.args.builder.now held))

pub returns-in-Err-read-clause-halted : goal.returns-in-Err-read-clause-halted
returns-in-Err-read-clause-halted g c =
    not_read c.args.limit c.loop-count.total (g.E.Source.left c.args.source.now) (g.E.Source.left c.loop-count.source) (g.E.Source.left c.read.new.self) _
    c.loop-count.invariant.within c.in-Err-read.ensures.err c.loop-count.invariant.behind

pub returns-in-Err-read-clause-unread : goal.returns-in-Err-read-clause-unread
returns-in-Err-read-clause-unread g c = λ e. subst (λ (n : ℕ). Rose n (g.E.Source.faults c.read.new.self)) c.loop-count.invariant.faults c.in-Err-read.ensures.failed

pub returns-then-count-eq0-clause-ok : goal.returns-then-count-eq0-clause-ok
returns-then-count-eq0-clause-ok g c =
    let none : c.in-Ok-read.count ≡ 0 = c.if-count-eq0.true in
    let room = c.loop-count.invariant.room in
    let len = c.as_mut_slice.ensures.len in
    reads_all c.args.limit c.loop-count.total (g.E.Source.left c.args.source.now) (g.E.Source.left c.loop-count.source) (g.E.Source.left c.read.new.self) _ c.loop-count.invariant.within
    (c.in-Ok-read.ensures.end none (omega (arith, room, len))) (taken_none _ _ _ _ none c.in-Ok-read.ensures.taken) c.loop-count.invariant.behind

pub returns-in-Err-take_piece-clause-halted : goal.returns-in-Err-take_piece-clause-halted
returns-in-Err-take_piece-clause-halted g c =
    let rules' = g.S.Machine.rules in
    let speech = g.S.Speaker.speech in
    let begun = c.args.begun.now in
    let at = c.loop-count.begun in
    let old = c.args.builder.now in
    let mid = c.loop-count.builder in
    let new = c.take_piece.new.builder in
    let held = g.K.Sink.held c.args.report.now in
    let held_mid = g.K.Sink.held c.loop-count.report in
    let held_new = g.K.Sink.held c.take_piece.new.report in
    let piece = piece_within c.in-Ok-read.count (c.args.limit - c.loop-count.total) c.read.new.buf c.split_at.result.0.now (c.split_at.ensures.front ∙ ap (λ (bs : List ℕ). take c.min-within.result bs) (c.as_slice.ensures.value ∙ buffer_back _ _ _ (search rules)) ∙ ap (λ (k : ℕ). take k c.read.new.buf) c.min-within.ensures) in
    stops_at c.args.limit c.loop-count.total c.in-Ok-read.count c.read.new.buf c.split_at.result.0.now (g.E.Source.left c.args.source.now) (g.E.Source.left c.loop-count.source) (g.E.Source.left c.read.new.self)
    (HasTakenLines (TakesLines rules' speech old held mid held_mid) begun.kept begun.most begun.rest.items at.rest.items begun.count at.count at.kept at.most)
    (λ bytes. HasStoppedWithin c.in-Err-take_piece.stop (TakesLines rules' speech old held new held_new) (λ lines why. StopsWithin rules' speech why old held new held_new lines) begun.kept begun.most begun.rest.items begun.count bytes)
    c.loop-count.invariant.within piece c.in-Ok-read.ensures.taken
    (λ front took. stops_later_within (TakesLines rules' speech old held mid held_mid) (TakesLines rules' speech mid held_mid new held_new) (TakesLines rules' speech old held new held_new)
    (λ lines why. StopsWithin rules' speech why mid held_mid new held_new lines) (λ lines why. StopsWithin rules' speech why old held new held_new lines)
    begun.kept begun.most begun.rest.items at.rest.items begun.count at.count at.kept at.most front c.split_at.result.0.now c.in-Err-take_piece.stop begun.some at.counted
    (λ a b p q. takes_more rules' speech old mid new held held_mid held_new a b c.loop-count.invariant.same p q)
    (λ a b s p q. stops_later rules' speech old mid new held held_mid held_new a b s c.loop-count.invariant.same p q)
    took c.in-Err-take_piece.ensures.stopped)
    c.loop-count.invariant.behind

pub returns-in-Err-take_piece-clause-rose : goal.returns-in-Err-take_piece-clause-rose
returns-in-Err-take_piece-clause-rose g c = λ is. rose_later (g.K.Sink.faults c.args.report.now) (g.K.Sink.faults c.loop-count.report) (g.K.Sink.faults c.take_piece.new.report) c.loop-count.invariant.writes c.take_piece.ensures.faults (c.in-Err-take_piece.ensures.rose cc)

pub returns-then-within-count-clause-halted : goal.returns-then-within-count-clause-halted
returns-then-within-count-clause-halted g c =
    let rules' = g.S.Machine.rules in
    let speech = g.S.Speaker.speech in
    let begun = c.args.begun.now in
    let at = c.loop-count.begun in
    let after = c.take_piece.new.begun in
    let old = c.args.builder.now in
    let mid = c.loop-count.builder in
    let new = c.take_piece.new.builder in
    let held = g.K.Sink.held c.args.report.now in
    let held_mid = g.K.Sink.held c.loop-count.report in
    let held_new = g.K.Sink.held c.take_piece.new.report in
    let piece = piece_within c.in-Ok-read.count (c.args.limit - c.loop-count.total) c.read.new.buf c.split_at.result.0.now (c.split_at.ensures.front ∙ ap (λ (bs : List ℕ). take c.min-within.result bs) (c.as_slice.ensures.value ∙ buffer_back _ _ _ (search rules)) ∙ ap (λ (k : ℕ). take k c.read.new.buf) c.min-within.ensures) in
    passes_limit c.args.limit c.loop-count.total c.in-Ok-read.count c.read.new.buf c.split_at.result.0.now (g.E.Source.left c.args.source.now) (g.E.Source.left c.loop-count.source) (g.E.Source.left c.read.new.self)
    (HasTakenLines (TakesLines rules' speech old held mid held_mid) begun.kept begun.most begun.rest.items at.rest.items begun.count at.count at.kept at.most)
    (HasTakenLines (TakesLines rules' speech old held new held_new) begun.kept begun.most begun.rest.items after.rest.items begun.count after.count after.kept after.most)
    c.loop-count.invariant.within (search rules) (omega (arith, c.min-within.ensures, c.if-within-count.true)) piece c.in-Ok-read.ensures.taken
    (λ front took. takes_more_lines (TakesLines rules' speech old held mid held_mid) (TakesLines rules' speech mid held_mid new held_new) (TakesLines rules' speech old held new held_new)
    begun.kept begun.most begun.rest.items at.rest.items after.rest.items begun.count at.count after.count at.kept after.kept at.most after.most front c.split_at.result.0.now
    (λ a b p q. takes_more rules' speech old mid new held held_mid held_new a b c.loop-count.invariant.same p q)
    took c.in-Ok-take_piece.ensures.taken)
    c.loop-count.invariant.behind

pub loop-count-preserved : goal.loop-count-preserved
loop-count-preserved g c =
    let rules' = g.S.Machine.rules in
    let speech = g.S.Speaker.speech in
    let begun = c.args.begun.now in
    let at = c.loop-count.begun in
    let after = c.take_piece.new.begun in
    let old = c.args.builder.now in
    let mid = c.loop-count.builder in
    let new = c.take_piece.new.builder in
    let held = g.K.Sink.held c.args.report.now in
    let held_mid = g.K.Sink.held c.loop-count.report in
    let held_new = g.K.Sink.held c.take_piece.new.report in
    let piece = piece_within c.in-Ok-read.count (c.args.limit - c.loop-count.total) c.read.new.buf c.split_at.result.0.now (c.split_at.ensures.front ∙ ap (λ (bs : List ℕ). take c.min-within.result bs) (c.as_slice.ensures.value ∙ buffer_back _ _ _ (search rules)) ∙ ap (λ (k : ℕ). take k c.read.new.buf) c.min-within.ensures) in
    record {
      behind = goes_on c.args.limit c.loop-count.total c.in-Ok-read.count c.read.new.buf c.split_at.result.0.now (g.E.Source.left c.args.source.now) (g.E.Source.left c.loop-count.source) (g.E.Source.left c.read.new.self)
          (HasTakenLines (TakesLines rules' speech old held mid held_mid) begun.kept begun.most begun.rest.items at.rest.items begun.count at.count at.kept at.most)
          (HasTakenLines (TakesLines rules' speech old held new held_new) begun.kept begun.most begun.rest.items after.rest.items begun.count after.count after.kept after.most)
          (search rules) (omega (arith, c.min-within.ensures, c.if-within-count.false)) piece c.in-Ok-read.ensures.taken
          (λ front took. takes_more_lines (TakesLines rules' speech old held mid held_mid) (TakesLines rules' speech mid held_mid new held_new) (TakesLines rules' speech old held new held_new)
          begun.kept begun.most begun.rest.items at.rest.items after.rest.items begun.count at.count after.count at.kept after.kept at.most after.most front c.split_at.result.0.now
          (λ a b p q. takes_more rules' speech old mid new held held_mid held_new a b c.loop-count.invariant.same p q)
          took c.in-Ok-take_piece.ensures.taken)
          c.loop-count.invariant.behind;
      within = omega (arith, c.loop-count.invariant.within, c.min-within.ensures, c.if-within-count.false);
      room = c.loop-count.invariant.room;
      same = same_further old mid new c.loop-count.invariant.same c.take_piece.ensures.same;
      posts = c.take_piece.ensures.posts ∙ c.loop-count.invariant.posts;
      writes = omega (arith, c.take_piece.ensures.faults, c.loop-count.invariant.writes);
      least = least-further rules' old.pass.root mid.pass.root old.pass.seen mid.pass.seen new.pass.seen c.args.steps.now c.loop-count.steps c.take_piece.new.steps
          c.loop-count.invariant.same.pass.2 c.loop-count.invariant.least c.take_piece.ensures.steps_least;
      most = most-further rules' old.pass.root mid.pass.root old.pass.seen mid.pass.seen new.pass.seen c.args.steps.now c.loop-count.steps c.take_piece.new.steps
          c.loop-count.invariant.same.pass.2 c.loop-count.invariant.most c.in-Ok-take_piece.ensures.steps_most;
      faults = c.in-Ok-read.ensures.unharmed ∙ c.loop-count.invariant.faults;
      files = c.in-Ok-read.ensures.files ∙ c.loop-count.invariant.files;
      picks = c.in-Ok-read.ensures.picks ∙ c.loop-count.invariant.picks;
      made = c.in-Ok-read.ensures.made ∙ c.loop-count.invariant.made;
      wire_faults = c.in-Ok-read.ensures.wire_faults ∙ c.loop-count.invariant.wire_faults;
    }

pub returns-in-Err-take_piece-clause-steps_least : goal.returns-in-Err-take_piece-clause-steps_least
returns-in-Err-take_piece-clause-steps_least g c =
    let old = c.args.builder.now in
    let mid = c.loop-count.builder in
    let new = c.take_piece.new.builder in
    least-further g.S.Machine.rules old.pass.root mid.pass.root old.pass.seen mid.pass.seen new.pass.seen c.args.steps.now c.loop-count.steps c.take_piece.new.steps
    c.loop-count.invariant.same.pass.2 c.loop-count.invariant.least c.take_piece.ensures.steps_least

pub returns-then-within-count-clause-steps_least : goal.returns-then-within-count-clause-steps_least
returns-then-within-count-clause-steps_least g c =
    let old = c.args.builder.now in
    let mid = c.loop-count.builder in
    let new = c.take_piece.new.builder in
    least-further g.S.Machine.rules old.pass.root mid.pass.root old.pass.seen mid.pass.seen new.pass.seen c.args.steps.now c.loop-count.steps c.take_piece.new.steps
    c.loop-count.invariant.same.pass.2 c.loop-count.invariant.least c.take_piece.ensures.steps_least
