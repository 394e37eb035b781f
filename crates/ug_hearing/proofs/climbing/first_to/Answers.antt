use Rattle.std.proofs.Common.{◌≡◌, ◌<◌, ◌+◌, true, false, ℕ, zero, suc, inl, inr, List, [], ◌∷◌, length, slice_get, get_or, Some, refl, sym, ◌∙◌, ap, subst, arith}
use Rattle.std.proofs.lemmas.Bool.{cases_lt}
use Rattle.ug_hearing.specs.declared.change.Change.{Change}
use Rattle.ug_hearing.specs.Pasts.{value_of, value_before}
use Rattle.ug_hearing.proofs.climbing.first_to.Goals as goal

got : (changes : List Change) (i : ℕ) (d : Change) → i < length changes → slice_get changes i ≡ Some (get_or changes i d)
got [] i d less = absurd (omega arith)
got (x ∷ changes) zero d less = refl
got (x ∷ changes) (suc i) d less = got changes i d (omega arith)

never : false ≡ true → ⊥
never e = cc

before : (changes : List Change) (i : ℕ) (c : Change) → slice_get changes i ≡ Some c → value_before (i + 1) changes ≡ c.value
before changes i c is = let same : i + 1 ≡ suc i = omega arith in ap (λ k. value_before k changes) same ∙ ap value_of is

pub loop-i-init : goal.loop-i-init
loop-i-init c = λ n d low less is same. absurd (omega arith)

pub returns-then-is_same : goal.returns-then-is_same
returns-then-is_same c =
    let there = got c.args.changes.now c.loop-i.i c.index-changes-i.result c.loop-i-test.true in
    let value = sym (before c.args.changes.now c.loop-i.i (get_or c.args.changes.now c.loop-i.i c.index-changes-i.result) there) ∙ (sym c.value_at.ensures ∙ c.if-is_same.ensures.0 refl) in
    let low = c.loop-i.auto.i in (
      c.loop-i.i,
      omega arith,
      record { change = get_or c.args.changes.now c.loop-i.i c.index-changes-i.result; there = there; value = value; place = refl; next = omega arith },
      c.loop-i.invariant,
    )

pub loop-i-preserved : goal.loop-i-preserved
loop-i-preserved c = λ n d low less is same. elim (cases_lt n c.loop-i.i) [
  | inl sooner ↦ c.loop-i.invariant n d low sooner is same
  | inr now ↦
      (let at : n ≡ c.loop-i.i = omega arith in
      let there : slice_get c.args.changes.now c.loop-i.i ≡ Some d = subst (λ k. slice_get c.args.changes.now k ≡ Some d) at is in
      never (c.if-is_same.ensures.1 (c.value_at.ensures ∙ (before c.args.changes.now c.loop-i.i d there ∙ same))))
]
