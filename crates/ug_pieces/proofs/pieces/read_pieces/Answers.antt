use Rattle.std.proofs.Common.{◌≡◌, ℕ, ◌-◌, List, length, take, refl, ap, subst, ◌∙◌, arith, rules}
use Rattle.ug_edge.specs.Told.{Rose}
use Rattle.ug_pieces.specs.ReadingLaws.{taken_none, piece_within, buffer_back}
use Rattle.ug_pieces.proofs.PieceSteps.{begins, goes_on, stops_at, passes_limit, reads_all}
use Rattle.ug_pieces.proofs.pieces.read_pieces.Goals as goal

pub loop-count-init : goal.loop-count-init
loop-count-init g c = record {
  behind = begins (g.E.Source.left c.args.source.now) _ (g.met.T.Taker.takes_none c.args.taker.now c.args.context.now);
  bound = omega (arith, c.requires);
  within = omega arith;
  room = c.in-Ok.ensures.len;
  faults = refl;
  files = refl;
  picks = refl;
  made = refl;
  wire_faults = refl;
}

pub returns-in-Err-read-clause-unread : goal.returns-in-Err-read-clause-unread
returns-in-Err-read-clause-unread g c = λ e. subst (λ (n : ℕ). Rose n (g.E.Source.faults c.read.new.self)) c.loop-count.invariant.faults c.in-Err-read.ensures.failed

pub returns-then-count-eq0-clause-ok : goal.returns-then-count-eq0-clause-ok
returns-then-count-eq0-clause-ok g c =
    let none : c.in-Ok-read.count ≡ 0 = c.if-count-eq0.true in
    let room = c.loop-count.invariant.room in
    let len = c.as_mut_slice.ensures.len in
    reads_all c.args.limit c.loop-count.total (g.E.Source.left c.args.source.now) (g.E.Source.left c.loop-count.source) (g.E.Source.left c.read.new.self) _ c.loop-count.invariant.within
    (c.in-Ok-read.ensures.end none (omega (arith, room, len))) (taken_none _ _ _ _ none c.in-Ok-read.ensures.taken) c.loop-count.invariant.behind

pub returns-in-Err-take-clause-halted : goal.returns-in-Err-take-clause-halted
returns-in-Err-take-clause-halted g c =
    let piece = piece_within c.in-Ok-read.count (c.args.limit - c.loop-count.total) c.read.new.buf c.split_at.result.0.now (c.split_at.ensures.front ∙ ap (λ (bs : List ℕ). take c.min-within.result bs) (c.as_slice.ensures.value ∙ buffer_back _ _ _ (search rules)) ∙ ap (λ (k : ℕ). take k c.read.new.buf) c.min-within.ensures) in
    stops_at c.args.limit c.loop-count.total c.in-Ok-read.count c.read.new.buf c.split_at.result.0.now (g.E.Source.left c.args.source.now) (g.E.Source.left c.loop-count.source) (g.E.Source.left c.read.new.self)
    (g.T.Taker.has_taken c.args.taker.now c.args.context.now c.loop-count.taker c.loop-count.context)
    (λ bytes. g.T.Taker.has_stopped c.args.taker.now c.args.context.now c.take.new.self c.take.new.context bytes c.in-Err-take.stop)
    c.loop-count.invariant.within piece c.in-Ok-read.ensures.taken
    (λ front held. g.met.T.Taker.stops_later c.args.taker.now c.loop-count.taker c.take.new.self c.args.context.now c.loop-count.context c.take.new.context front c.split_at.result.0.now c.in-Err-take.stop held c.in-Err-take.ensures.stopped)
    c.loop-count.invariant.behind

pub returns-then-within-count-clause-halted : goal.returns-then-within-count-clause-halted
returns-then-within-count-clause-halted g c =
    let piece = piece_within c.in-Ok-read.count (c.args.limit - c.loop-count.total) c.read.new.buf c.split_at.result.0.now (c.split_at.ensures.front ∙ ap (λ (bs : List ℕ). take c.min-within.result bs) (c.as_slice.ensures.value ∙ buffer_back _ _ _ (search rules)) ∙ ap (λ (k : ℕ). take k c.read.new.buf) c.min-within.ensures) in
    passes_limit c.args.limit c.loop-count.total c.in-Ok-read.count c.read.new.buf c.split_at.result.0.now (g.E.Source.left c.args.source.now) (g.E.Source.left c.loop-count.source) (g.E.Source.left c.read.new.self)
    (g.T.Taker.has_taken c.args.taker.now c.args.context.now c.loop-count.taker c.loop-count.context) (g.T.Taker.has_taken c.args.taker.now c.args.context.now c.take.new.self c.take.new.context)
    c.loop-count.invariant.within (search rules) (omega (arith, c.min-within.ensures, c.if-within-count.true)) piece c.in-Ok-read.ensures.taken
    (λ front held. g.met.T.Taker.takes_more c.args.taker.now c.loop-count.taker c.take.new.self c.args.context.now c.loop-count.context c.take.new.context front c.split_at.result.0.now held c.in-Ok-take.ensures.taken)
    c.loop-count.invariant.behind

pub loop-count-preserved : goal.loop-count-preserved
loop-count-preserved g c =
    let piece = piece_within c.in-Ok-read.count (c.args.limit - c.loop-count.total) c.read.new.buf c.split_at.result.0.now (c.split_at.ensures.front ∙ ap (λ (bs : List ℕ). take c.min-within.result bs) (c.as_slice.ensures.value ∙ buffer_back _ _ _ (search rules)) ∙ ap (λ (k : ℕ). take k c.read.new.buf) c.min-within.ensures) in
    let all : c.min-within.result ≡ c.in-Ok-read.count = omega (arith, c.min-within.ensures, c.if-within-count.false) in
    let len : length c.split_at.result.0.now ≡ c.min-within.result = c.split_at.ensures.front_len in
    record {
      behind = goes_on c.args.limit c.loop-count.total c.in-Ok-read.count c.read.new.buf c.split_at.result.0.now (g.E.Source.left c.args.source.now) (g.E.Source.left c.loop-count.source) (g.E.Source.left c.read.new.self)
          (g.T.Taker.has_taken c.args.taker.now c.args.context.now c.loop-count.taker c.loop-count.context) (g.T.Taker.has_taken c.args.taker.now c.args.context.now c.take.new.self c.take.new.context)
          (search rules) (omega (arith, c.min-within.ensures, c.if-within-count.false)) piece c.in-Ok-read.ensures.taken
          (λ front held. g.met.T.Taker.takes_more c.args.taker.now c.loop-count.taker c.take.new.self c.args.context.now c.loop-count.context c.take.new.context front c.split_at.result.0.now held c.in-Ok-take.ensures.taken)
          c.loop-count.invariant.behind;
      bound = omega (arith, c.loop-count.invariant.bound, c.in-Ok-take.ensures.bound, all, len);
      within = omega (arith, c.loop-count.invariant.within, c.min-within.ensures, c.if-within-count.false);
      room = c.loop-count.invariant.room;
      faults = c.in-Ok-read.ensures.unharmed ∙ c.loop-count.invariant.faults;
      files = c.in-Ok-read.ensures.files ∙ c.loop-count.invariant.files;
      picks = c.in-Ok-read.ensures.picks ∙ c.loop-count.invariant.picks;
      made = c.in-Ok-read.ensures.made ∙ c.loop-count.invariant.made;
      wire_faults = c.in-Ok-read.ensures.wire_faults ∙ c.loop-count.invariant.wire_faults;
    }
