use Rattle.std.proofs.Common.{◌≡◌, ◌<◌, inl, inr, length, sym, ap, ◌∙◌, arith, length-drop}
use Rattle.std.proofs.lemmas.Bool.{cases_eq}
use Rattle.ug_queue.specs.Queues.{passed, shed}
use Rattle.ug_queue.proofs.Counts.{first_passed}
use Rattle.ug_queue.proofs.Sheds.{shed_rest, shed_same}
use Rattle.ug_queue.proofs.Kept.{false_true}
use Rattle.ug_queue.proofs.queue.shed_passed.Goals as goal

pub loop-line-smaller : goal.loop-line-smaller
loop-line-smaller g c =
    let q = c.loop-line.line in let lt = c.is_first_passed.ensures.0 c.loop-line-test.true in
    let less : length c.drop_first.new.self.packets < length q.packets =
    omega (arith, ap (λ v. length v.packets) c.drop_first.ensures, length-drop 1 q.packets, (first_passed (length q.packets) q.places lt).0) in
    less

pub loop-line-preserved : goal.loop-line-preserved
loop-line-preserved g c = ap shed c.drop_first.ensures ∙ shed_rest c.loop-line.line (c.is_first_passed.ensures.0 c.loop-line-test.true) ∙ c.loop-line.invariant

pub returns-clause-line : goal.returns-clause-line
returns-clause-line g c =
    let q = c.loop-line.line in
    let none : passed q ≡ 0 = elim (cases_eq (passed q) 0) [ inl z ↦ z | inr nz ↦ absurd (false_true (sym c.loop-line-test.false ∙ c.is_first_passed.ensures.1 (omega (arith, nz)))) ] in
    sym (shed_same q none) ∙ c.loop-line.invariant
