use Rattle.std.proofs.Common.{◌≡◌, length, refl, sym, ap, ◌∙◌, arith}
use Rattle.ug_adjout.specs.Waits.{from_place}
use Rattle.ug_adjout.proofs.Numbers.{from_first, at_end, stored_below}
use Rattle.ug_adjout.proofs.table.Table.renumber.Goals as goal

pub loop-place-init : goal.loop-place-init
loop-place-init g c =
    let all : length (from_place 0 c.args.self.now.waiting) ≡ c.waiting_len-waiting.result =
    ap length (from_first c.args.self.now.waiting) ∙ ap (λ v. length v.waiting) (sym c.self.view_is) ∙ sym c.waiting_len-waiting.ensures.len in
    record { same = refl; left = omega (arith, all); from = refl }

pub invariant_of-self : goal.invariant_of-self
invariant_of-self g c =
    let end = at_end c.waiting_len-waiting.result c.loop-place.place _ c.loop-place.invariant.left c.loop-place-test.false in
    stored_below _ _ _ _ c.self-2.invariant
    (ap (λ n. length (from_place n c.self-2.inside.queue.waiting)) (sym end.0) ∙ ap (λ v. length (from_place c.loop-place.place v.waiting)) c.self-2.view_is ∙ end.1)
