use Rattle.std.proofs.Common.{◌<◌, ◌∙◌, List, length, inl, inr, sym, ap, subst, arith}
use Rattle.ug_types.specs.declared.mark.Mark.{Mark}
use Rattle.ug_hearing.specs.declared.change.Change.{Change}
use Rattle.ug_hearing.specs.Courses.{passed}
use Rattle.ug_hearing.specs.Differences.{IsSame}
use Rattle.ug_hearing.specs.Marked.{IsMarkIn}
use Rattle.ug_hearing.proofs.Between.{last-mark, none-beyond, up-to-later}
use Rattle.ug_hearing.proofs.Versions.{differs-here, same-between, not-true, not-false}
use Rattle.ug_hearing.proofs.marks.differs_at_one.Goals as goal

pub returns-then-first-last-clause-differs : goal.returns-then-first-last-clause-differs
returns-then-first-last-clause-differs c = λ is.
    let low = c.requires.some in
    differs-here c.args.standings.now.rows c.args.session.now.course.changes c.args.session.now.course.from c.as_slice-syncs.result.now c.args.session.now.syncs.items c.args.from c.args.to c.args.from _ c.args.key.now
    c.as_slice-syncs.ensures.value (omega arith) low (subst (λ (ms : List Mark). c.args.from < length ms) (sym c.as_slice-syncs.ensures.value) c.requires.there) (λ same. not-true c.is_as_in.result is (c.is_as_in.ensures.1 same))

pub returns-then-first-last-clause-same : goal.returns-then-first-last-clause-same
returns-then-first-last-clause-same c = λ is.
    same-between c.args.standings.now.rows c.args.session.now.course.changes c.args.session.now.course.from c.as_slice-syncs.result.now c.args.session.now.syncs.items c.args.from c.args.to _ c.args.key.now c.args.span.first c.args.span.last
    c.as_slice-syncs.ensures.value c.requires.some (subst (λ (ms : List Mark). c.args.from < length ms) (sym c.as_slice-syncs.ensures.value) c.requires.there) c.requires.span
    (ap (λ (cs : List Change). passed c.args.span.first cs) (sym c.changes_of-changes.ensures)
    ∙ (sym c.passed-first.ensures.passed ∙ (c.if-first-last.true ∙ (c.passed-last.ensures.passed ∙ ap (λ (cs : List Change). passed c.args.span.last cs) c.changes_of-changes.ensures))))
    (c.is_as_in.ensures.0 (not-false c.is_as_in.result is))

pub returns-then-i-syncs-clause-same : goal.returns-then-i-syncs-clause-same
returns-then-i-syncs-clause-same c = λ is m mark.
    c.loop-i.invariant m
    (none-beyond c.as_slice-syncs.result.now c.args.from c.args.to c.loop-i.i m c.if-i-syncs.true (subst (λ (ms : List Mark). IsMarkIn ms c.args.from c.args.to m) (sym c.as_slice-syncs.ensures.value) mark))

pub returns-then-not-is_as_in-clause-differs : goal.returns-then-not-is_as_in-clause-differs
returns-then-not-is_as_in-clause-differs c = λ is.
    let low = c.loop-i.auto.i in
    differs-here c.args.standings.now.rows c.args.session.now.course.changes c.args.session.now.course.from c.as_slice-syncs.result.now c.args.session.now.syncs.items c.args.from c.args.to c.loop-i.i _ c.args.key.now
    c.as_slice-syncs.ensures.value low c.loop-i-test.true c.if-i-syncs.false (λ same. let e = c.is_as_in-in-loop-i.ensures.1 same in let f = c.if-not-is_as_in.true in absurd cc)

pub loop-i-preserved : goal.loop-i-preserved
loop-i-preserved c = λ m mark. elim (last-mark c.as_slice-syncs.result.now c.args.from c.loop-i.i _ m c.if-i-syncs.false mark) [
  | inl sooner ↦ c.loop-i.invariant m sooner
  | inr it ↦
      subst (λ (x : Mark). IsSame c.args.standings.now.rows c.args.session.now.course.changes c.args.session.now.course.from x.version c.args.key.now) (sym it)
      (c.is_as_in-in-loop-i.ensures.0 c.if-not-is_as_in.false)
]

pub returns-clause-same : goal.returns-clause-same
returns-clause-same c = λ is m mark.
    c.loop-i.invariant m
    (up-to-later c.as_slice-syncs.result.now c.args.from c.args.to c.loop-i.i m c.loop-i-test.false (subst (λ (ms : List Mark). IsMarkIn ms c.args.from c.args.to m) (sym c.as_slice-syncs.ensures.value) mark))
