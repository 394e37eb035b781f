use Rattle.std.proofs.Common.{◌≡◌, ◌<◌, inl, inr, length, sym, ap, ◌∙◌, subst, arith}
use Rattle.std.proofs.lemmas.List.{get_or_default}
use Rattle.std.proofs.lemmas.Bool.{cases_eq}
use Rattle.ug_queue.specs.Queues.{standing, passed}
use Rattle.ug_queue.specs.Lines.{places_from}
use Rattle.ug_queue.proofs.Counts.{passed_first, first_passed}
use Rattle.ug_queue.proofs.Kept.{false_true, zero_test, test_zero}
use Rattle.ug_queue.proofs.line.Line.is_first_passed.Goals as goal

pub returns-then-len-eq0 : goal.returns-then-len-eq0
returns-then-len-eq0 g c = (
  λ h. absurd (false_true h),
  λ lt. absurd (omega (arith, (first_passed (length c.args.self.now.packets) c.args.self.now.places lt).0, ap (λ v. length v.packets) c.self.view_is, c.len.ensures, c.if-len-eq0.true)),
)

pub returns : goal.returns
returns g c =
    let n = length c.self.inside.packets.items in let es = places_from c.self.inside.start c.self.inside.cursors in
    let some : 0 < n = omega (arith, c.len.ensures, c.if-len-eq0.false) in
    let long : 0 < length c.self.inside.waiting.items = elim (cases_eq (length c.self.inside.waiting.items) 0) [ inl z ↦ absurd (omega (arith, c.self.invariant.fresh z, some)) | inr nz ↦ omega (arith, nz) ] in
    let count : c.index.result.now ≡ standing es 0 = c.index.ensures ∙ get_or_default c.self.inside.waiting.items 0 c.index.result.now 0 long ∙ c.self.invariant.counted 0 in (
      λ h. subst (λ v. 0 < passed v) c.self.view_is (passed_first n es some (sym count ∙ test_zero c.index.result.now h)),
      λ lt. zero_test c.index.result.now (count ∙ (first_passed n es (subst (λ v. 0 < passed v) (sym c.self.view_is) lt)).1),
    )
