use Rattle.std.proofs.Common.{◌≡◌, Bool, true, false, not, map, refl, sym, ap, slice_get, ◌∙◌}
use Rattle.ug_adjout.specs.Places.{of_value}
use Rattle.ug_adjout.proofs.ByValue.{keys_by_value, own_first, other_first}
use Rattle.ug_adjout.proofs.line.Line.first_of.Goals as goal

is_same : (b : Bool) → not b ≡ false → b ≡ true
is_same true e = refl
is_same false e = absurd cc

is_other : (b : Bool) → not b ≡ true → b ≡ false
is_other true e = absurd cc
is_other false e = refl

pub returns-in_default : goal.returns-in_default
returns-in_default g c =
    let between = rw c.of-start.ensures at (c.range.ensures.between tt) in
    rw (← c.self.view_is)
    (sym (ap (λ l. slice_get (map (λ x. x.1) (of_value c.args.value l)) 0) c.in_default.ensures.steps.0) ∙ ap (λ l. slice_get l 0) (keys_by_value c.args.value _ _ c.self.invariant.indexed _ between))

pub returns-then-ne : goal.returns-then-ne
returns-then-ne g c =
    let between = rw c.of-start.ensures at (c.range.ensures.between tt) in
    let other = rw c.value.ensures at (sym c.ne.ensures ∙ c.if-ne.true) in
    rw (← c.self.view_is)
    (other_first c.args.value (c.in-Some.slot.now, c.in-Some.key.now) _ _ c.in-Some.ensures.steps (is_other _ other)
    ∙ ap (λ l. slice_get l 0) (keys_by_value c.args.value _ _ c.self.invariant.indexed _ between))

pub returns : goal.returns
returns g c =
    let between = rw c.of-start.ensures at (c.range.ensures.between tt) in
    let own = rw c.value.ensures at (sym c.ne.ensures ∙ c.if-ne.false) in
    rw (← c.self.view_is)
    (own_first c.args.value (c.in-Some.slot.now, c.in-Some.key.now) _ _ c.in-Some.ensures.steps (is_same _ own)
    ∙ ap (λ l. slice_get l 0) (keys_by_value c.args.value _ _ c.self.invariant.indexed _ between))
