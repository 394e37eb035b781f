use Rattle.std.proofs.Common.{◌≡◌, ℕ, ◌+◌, ◌-◌, List, length, take, refl, sym, ap, subst, ◌∙◌, arith, rules}
use Rattle.ug_edge.specs.Told.{Rose}
use Rattle.ug_update.specs.Readers.{ReaderState}
use Rattle.ug_pieces.specs.ReadingLaws.{taken_none, piece_within, buffer_back}
use Rattle.ug_check.specs.Checks.{most_bytes, HasStopped}
use Rattle.ug_check.specs.declared.stop.Stop.{Stop}
use Rattle.ug_check.proofs.Streams.{begins, goes_on, stops_at, passes_limit, not_read, reads_all, brought_up, ends_without, reads_no, reports_no}
use Rattle.ug_check.proofs.stream.read_stream.Goals as goal

pub loop-count-init : goal.loop-count-init
loop-count-init g c = record {
  behind = begins (g.E.Source.left c.args.source.now) c.args.session _ _ _ _ c.new-checker.ensures.reader c.new-checker.ensures.table c.new-checker.ensures.messages c.new-checker.ensures.eors;
  live = ap (λ (r : ReaderState). r.stopped) c.new-checker.ensures.reader;
  size = ap (λ (r : ReaderState). r.taken + length r.left) c.new-checker.ensures.reader;
  session = ap (λ (r : ReaderState). r.session) c.new-checker.ensures.reader;
  within = omega arith;
  room = c.in-Ok.ensures.len;
  faults = refl;
  files = refl;
  picks = refl;
  made = refl;
  wire_faults = refl;
}

pub returns-in-Err-read-clause-stopped : goal.returns-in-Err-read-clause-stopped
unfolding most_bytes
returns-in-Err-read-clause-stopped g c =
    not_read c.loop-count.total (g.E.Source.left c.args.source.now) (g.E.Source.left c.loop-count.source) (g.E.Source.left c.read.new.self) c.args.session _ _ _ _ c.loop-count.invariant.within c.loop-count.invariant.session c.in-Err-read.ensures.err c.loop-count.invariant.behind

pub returns-in-Err-read-clause-unread : goal.returns-in-Err-read-clause-unread
returns-in-Err-read-clause-unread g c = λ e. subst (λ (n : ℕ). Rose n (g.E.Source.faults c.read.new.self)) c.loop-count.invariant.faults c.in-Err-read.ensures.failed

pub returns-in-Ok-finish-clause-ok : goal.returns-in-Ok-finish-clause-ok
unfolding most_bytes
returns-in-Ok-finish-clause-ok g c =
    let none : c.in-Ok-read.count ≡ 0 = c.if-count-eq0.true in
    let room = c.loop-count.invariant.room in
    let len = c.as_mut_slice.ensures.len in
    brought_up (g.E.Source.left c.args.source.now) (g.E.Source.left c.read.new.self) _ _ _ _ _ _ _ _ c.in-Ok-finish.ensures.ok
    (reads_all c.loop-count.total (g.E.Source.left c.args.source.now) (g.E.Source.left c.loop-count.source) (g.E.Source.left c.read.new.self) _ _ _ _ c.loop-count.invariant.within
    (c.in-Ok-read.ensures.end none (omega arith)) (taken_none _ _ _ _ none c.in-Ok-read.ensures.taken) c.loop-count.invariant.behind)

pub returns-in-Err-finish-clause-stopped : goal.returns-in-Err-finish-clause-stopped
returns-in-Err-finish-clause-stopped g c =
    let none : c.in-Ok-read.count ≡ 0 = c.if-count-eq0.true in
    subst (λ (s : Stop). HasStopped s c.args.session (g.E.Source.left c.args.source.now) (g.E.Source.left c.read.new.self)) (sym c.in-Err-finish.ensures.cause)
    (ends_without c.loop-count.total (g.E.Source.left c.args.source.now) (g.E.Source.left c.loop-count.source) (g.E.Source.left c.read.new.self) c.args.session _ _ _ _
    (taken_none _ _ _ _ none c.in-Ok-read.ensures.taken) c.loop-count.invariant.behind)

pub returns-in-Err-take_piece-clause-stopped : goal.returns-in-Err-take_piece-clause-stopped
unfolding most_bytes
returns-in-Err-take_piece-clause-stopped g c =
    let piece = piece_within c.in-Ok-read.count (most_bytes - c.loop-count.total) c.read.new.buf c.split_at.result.0.now (c.split_at.ensures.front ∙ ap (λ (bs : List ℕ). take c.min-within.result bs) (c.as_slice.ensures.value ∙ buffer_back _ _ _ (search rules)) ∙ ap (λ (k : ℕ). take k c.read.new.buf) c.min-within.ensures) in
    stops_at c.in-Err-take_piece.stop c.loop-count.total c.in-Ok-read.count c.read.new.buf c.split_at.result.0.now (g.E.Source.left c.args.source.now) (g.E.Source.left c.loop-count.source) (g.E.Source.left c.read.new.self) c.args.session _ _ _ _
    c.loop-count.invariant.within piece c.in-Ok-read.ensures.taken c.loop-count.invariant.session c.in-Err-take_piece.ensures.stopped c.loop-count.invariant.behind

pub returns-in-Err-take_piece-clause-unread : goal.returns-in-Err-take_piece-clause-unread
returns-in-Err-take_piece-clause-unread g c = λ e.
    absurd (reads_no c.in-Err-take_piece.stop _ _ (c.in-Err-take_piece.ensures.stopped c.loop-count.invariant.behind.stream c.loop-count.invariant.behind.settled.checked) cc)

pub returns-in-Err-take_piece-clause-no_report : goal.returns-in-Err-take_piece-clause-no_report
returns-in-Err-take_piece-clause-no_report g c = λ e.
    reports_no c.in-Err-take_piece.stop _ _ (c.in-Err-take_piece.ensures.stopped c.loop-count.invariant.behind.stream c.loop-count.invariant.behind.settled.checked) cc

pub returns-then-within-count-clause-stopped : goal.returns-then-within-count-clause-stopped
unfolding most_bytes
returns-then-within-count-clause-stopped g c =
    let piece = piece_within c.in-Ok-read.count (most_bytes - c.loop-count.total) c.read.new.buf c.split_at.result.0.now (c.split_at.ensures.front ∙ ap (λ (bs : List ℕ). take c.min-within.result bs) (c.as_slice.ensures.value ∙ buffer_back _ _ _ (search rules)) ∙ ap (λ (k : ℕ). take k c.read.new.buf) c.min-within.ensures) in
    passes_limit c.loop-count.total c.in-Ok-read.count c.read.new.buf c.split_at.result.0.now (g.E.Source.left c.args.source.now) (g.E.Source.left c.loop-count.source) (g.E.Source.left c.read.new.self) c.args.session _ _ _ _ _ _ _ _
    c.loop-count.invariant.within (search rules) (omega (arith, c.min-within.ensures, c.if-within-count.true)) piece c.in-Ok-read.ensures.taken
    (c.in-Ok-take_piece.ensures.session ∙ c.loop-count.invariant.session) c.in-Ok-take_piece.ensures.ok c.loop-count.invariant.behind

pub loop-count-preserved : goal.loop-count-preserved
unfolding most_bytes
loop-count-preserved g c =
    let piece = piece_within c.in-Ok-read.count (most_bytes - c.loop-count.total) c.read.new.buf c.split_at.result.0.now (c.split_at.ensures.front ∙ ap (λ (bs : List ℕ). take c.min-within.result bs) (c.as_slice.ensures.value ∙ buffer_back _ _ _ (search rules)) ∙ ap (λ (k : ℕ). take k c.read.new.buf) c.min-within.ensures) in
    let all : c.min-within.result ≡ c.in-Ok-read.count = omega (arith, c.min-within.ensures, c.if-within-count.false) in
    let len : length c.split_at.result.0.now ≡ c.min-within.result = c.split_at.ensures.front_len in
    record {
      behind = goes_on c.loop-count.total c.in-Ok-read.count c.read.new.buf c.split_at.result.0.now (g.E.Source.left c.args.source.now) (g.E.Source.left c.loop-count.source) (g.E.Source.left c.read.new.self) _ _ _ _ _ _ _ _
          (search rules) (omega (arith, c.min-within.ensures, c.if-within-count.false)) piece c.in-Ok-read.ensures.taken c.in-Ok-take_piece.ensures.ok c.loop-count.invariant.behind;
      live = c.in-Ok-take_piece.ensures.live;
      size = omega (arith, c.in-Ok-take_piece.ensures.size, c.loop-count.invariant.size, all, len);
      session = c.in-Ok-take_piece.ensures.session ∙ c.loop-count.invariant.session;
      within = omega (arith, c.loop-count.invariant.within, c.min-within.ensures, c.if-within-count.false);
      room = c.loop-count.invariant.room;
      faults = c.in-Ok-read.ensures.unharmed ∙ c.loop-count.invariant.faults;
      files = c.in-Ok-read.ensures.files ∙ c.loop-count.invariant.files;
      picks = c.in-Ok-read.ensures.picks ∙ c.loop-count.invariant.picks;
      made = c.in-Ok-read.ensures.made ∙ c.loop-count.invariant.made;
      wire_faults = c.in-Ok-read.ensures.wire_faults ∙ c.loop-count.invariant.wire_faults;
    }
