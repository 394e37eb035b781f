use Rattle.std.proofs.Common.{◌∙◌, sym, ap}
use Rattle.std.specs.Prelude.{slice_get, remove}
use Rattle.ug_turnstile.proofs.Entries.{some_same}
use Rattle.ug_calls.proofs.turnstile.count_by_three.Goals as goal

pub close_all-requires-clause-passes : goal.close_all-requires-clause-passes
close_all-requires-clause-passes g c =
    let made = c.in-Ok.ensures.passes in
    let back = c.raise_by_three-first.ensures in
    let third = some_same (sym c.remove-third.ensures.value ∙ ap (λ xs. slice_get xs 2) made) in
    let two = c.remove-third.ensures.items ∙ ap (λ xs. remove xs 2) made in
    let second = some_same (sym c.remove-second.ensures.value ∙ ap (λ xs. slice_get xs 1) two) in
    let one = c.remove-second.ensures.items ∙ ap (λ xs. remove xs 1) two in
    let first = some_same (sym c.remove-first.ensures.value ∙ ap (λ xs. slice_get xs 0) one) in (
      c.raise_by_three-first.result.1.1,
      c.raise_by_three-first.result.0,
      c.raise_by_three-first.result.1.0,
      c.in_ok-passes.ensures,
      (back.third.0.0 ∙ ap (λ h. h.turnstile) third, back.third.0.1 ∙ ap (λ h. h.number) third, back.third.1),
      (back.first.0.0 ∙ ap (λ h. h.turnstile) first, back.first.0.1 ∙ ap (λ h. h.number) first, back.first.1),
      (back.second.0.0 ∙ ap (λ h. h.turnstile) second, back.second.0.1 ∙ ap (λ h. h.number) second, back.second.1),
    )
