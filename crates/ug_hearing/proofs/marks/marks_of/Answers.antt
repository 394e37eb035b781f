use Rattle.std.proofs.Common.{◌≡◌, ◌≢◌, ℕ, ◌≤◌, inl, inr, List, slice_get, Some, refl, sym, ◌∙◌, ap, subst, arith}
use Rattle.ug_types.specs.declared.mark.Mark.{Mark}
use Rattle.ug_hearing.specs.Marked.{IsMarkIn, AreMarksOf}
use Rattle.ug_hearing.proofs.Between.{got, last-mark, no-marks, beyond}
use Rattle.ug_hearing.proofs.marks.marks_of.Goals as goal

-- where the next mark is of other messages, or there is none
ended : (syncs all : List Mark) (from at i messages : ℕ) → at ≡ i → syncs ≡ all → from ≤ i → ((m : Mark) → IsMarkIn syncs from i m → m.handed ≡ messages) → ((m : Mark) → slice_get syncs i ≡ Some m → m.handed ≢ messages)
    → AreMarksOf all from at messages
ended syncs all from at i messages same is low of behind =
    subst (λ (ms : List Mark). AreMarksOf ms from at messages) is
    (subst (λ k. AreMarksOf syncs from k messages) (sym same) (record { low = low; of = of; behind = behind }))

same_mark : (a b : Mark) → Some a ≡ Some b → a ≡ b
same_mark a b e = cc

pub loop-i-init : goal.loop-i-init
loop-i-init c = record { at = refl; low = omega arith; of = λ m is. absurd (no-marks c.as_slice-syncs.result.now c.args.next m is) }

pub returns-then-syncs-i : goal.returns-then-syncs-i
returns-then-syncs-i c =
    let h = c.loop-i.invariant in
    ended c.as_slice-syncs.result.now c.args.session.now.syncs.items c.args.next c.loop-i.at c.loop-i.i c.args.messages h.at c.as_slice-syncs.ensures.value h.low h.of
    (λ m is same. c.if-syncs-i.true (ap (λ (x : Mark). x.handed) (same_mark _ m (sym (got c.as_slice-syncs.result.now c.loop-i.i _ c.loop-i-test.true) ∙ is)) ∙ same))

pub loop-i-preserved : goal.loop-i-preserved
loop-i-preserved c =
    let h = c.loop-i.invariant in
    let low = h.low in
    record {
      at = refl;
      low = omega arith;
      of = λ m is. elim (last-mark c.as_slice-syncs.result.now c.args.next c.loop-i.i _ m c.loop-i-test.true is) [
        | inl sooner ↦ h.of m sooner
        | inr it ↦ ap (λ (x : Mark). x.handed) it ∙ c.if-syncs-i.false
      ];
    }

pub returns : goal.returns
returns c =
    let h = c.loop-i.invariant in
    ended c.as_slice-syncs.result.now c.args.session.now.syncs.items c.args.next c.loop-i.at c.loop-i.i c.args.messages h.at c.as_slice-syncs.ensures.value h.low h.of
    (λ m is same. beyond c.as_slice-syncs.result.now c.loop-i.i m c.loop-i-test.false is)
