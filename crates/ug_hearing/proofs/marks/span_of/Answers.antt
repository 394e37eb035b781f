use Rattle.std.proofs.Common.{◌≤◌, List, inl, inr, sym, subst, arith}
use Rattle.ug_types.specs.declared.mark.Mark.{Mark}
use Rattle.ug_hearing.specs.Marked.{IsMarkIn}
use Rattle.ug_hearing.proofs.Between.{last-mark, none-beyond, up-to-later}
use Rattle.ug_hearing.proofs.marks.span_of.Goals as goal

pub returns-then-i-syncs : goal.returns-then-i-syncs
returns-then-i-syncs c = λ m is.
    c.loop-i.invariant m
    (none-beyond c.as_slice-syncs.result.now c.args.from c.args.to c.loop-i.i m c.if-i-syncs.true (subst (λ (ms : List Mark). IsMarkIn ms c.args.from c.args.to m) (sym c.as_slice-syncs.ensures.value) is))

pub loop-i-preserved : goal.loop-i-preserved
loop-i-preserved c = λ m is.
    let e = c.with_version-span.ensures in
    elim (last-mark c.as_slice-syncs.result.now c.args.from c.loop-i.i _ m c.if-i-syncs.false is) [
      | inl sooner ↦ (let h = c.loop-i.invariant m sooner in let first = h.0 in let last = h.1 in let low = e.first in let high = e.last in (omega arith, omega arith))
      | inr it ↦ subst (λ (x : Mark). (c.with_version-span.result.first ≤ x.version) × (x.version ≤ c.with_version-span.result.last)) (sym it) (e.low, e.high)
    ]

pub returns : goal.returns
returns c = λ m is.
    c.loop-i.invariant m
    (up-to-later c.as_slice-syncs.result.now c.args.from c.args.to c.loop-i.i m c.loop-i-test.false (subst (λ (ms : List Mark). IsMarkIn ms c.args.from c.args.to m) (sym c.as_slice-syncs.ensures.value) is))
