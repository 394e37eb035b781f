use Rattle.std.proofs.Common.{◌≡◌, ◌-◌, Bool, true, false, not, nat_le, sym, ap, ◌∙◌, refl, arith}
use Rattle.std.proofs.lemmas.Bool.Decides.{nat_tests}
use Rattle.ug_adjout.specs.Formatting.{fitting}
use Rattle.ug_adjout.specs.Seats.{seat_at}
use Rattle.ug_adjout.proofs.ByValue.{keys_by_value, taken}
use Rattle.ug_adjout.proofs.Handles.{keys_at, named_keys_for}
use Rattle.ug_adjout.proofs.line.Line+Handle.first_for.Goals as goal

is_same : (b : Bool) → not b ≡ false → b ≡ true
is_same true e = refl
is_same false e = absurd cc

pub loop-slot-init : goal.loop-slot-init
loop-slot-init g c =
    let between = rw c.of-start.ensures at (c.range-slot-items.ensures.between tt) in
    let at = seat_at c.args.seats.now.slots in
    rw (← c.self.view_is, c.new-keys.ensures)
    (ap (fitting g.K.Weighed.bytes c.args.room)
    (ap (keys_at at) (keys_by_value c.args.value _ _ c.self.invariant.indexed _ (c.into_iter-slot-iterator.ensures.into_iter_gives ∙ between)) ∙ sym (named_keys_for at c.args.value _)))

pub loop-slot-preserved : goal.loop-slot-preserved
loop-slot-preserved g c =
    let own = rw c.value.ensures at (sym c.ne.ensures ∙ c.if-ne.false) in
    let room : nat_le c.weight-weight.result c.loop-slot.left ≡ true = grind (arith, nat_tests) in
    taken g.K.Weighed.bytes (seat_at c.args.seats.now.slots) c.loop-slot.keys.items _ c.loop-slot.left c.args.value (c.in-Some.slot.now, c.in-Some.handle.now) c.next.new.self c.loop-slot.slot-iterator
    c.in-Some.ensures.steps (is_same _ own) c.loop-slot.invariant c.in-Some-key_at.key _ _ (sym c.in-Some-key_at.ensures)
    (ap (λ n. nat_le n c.loop-slot.left) (sym c.weight-weight.ensures) ∙ room) (ap (λ n. c.loop-slot.left - n) c.weight-weight.ensures) c.in-Ok.ensures.ok
