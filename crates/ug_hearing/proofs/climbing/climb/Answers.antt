use Rattle.std.proofs.Common.{◌≡◌, true, false, option_copied, drop, refl, sym, ◌∙◌}
use Rattle.ug_hearing.specs.Pasts.{value_before}
use Rattle.ug_hearing.proofs.Searched.{searched, some-climbs, none-climbs, stays}
use Rattle.ug_hearing.proofs.climbing.climb.Goals as goal

never : false ≡ true → ⊥
never e = cc

pub returns-then-is_same-clause-climbs : goal.returns-then-is_same-clause-climbs
returns-then-is_same-clause-climbs c = λ past stands. stays past c.args.changes.now c.args.from (option_copied c.args.value) stands (sym c.value_at.ensures ∙ c.if-is_same.ensures.0 refl)

pub returns-clause-climbs : goal.returns-clause-climbs
returns-clause-climbs c = λ past stands.
    some-climbs past c.args.changes.now c.args.from (option_copied c.args.value) c.first_to.result
    (searched past c.args.changes.now (option_copied c.args.value) c.args.from.place (value_before c.args.from.next c.args.changes.now) c.args.from.next (drop c.args.from.next c.args.changes.now) c.first_to.result refl stands
    (λ same. never (c.if-is_same.ensures.1 (c.value_at.ensures ∙ same))) c.first_to.ensures)

pub returns-clause-stuck : goal.returns-clause-stuck
returns-clause-stuck c = λ past stands.
    none-climbs past c.args.changes.now c.args.from (option_copied c.args.value) c.first_to.result
    (searched past c.args.changes.now (option_copied c.args.value) c.args.from.place (value_before c.args.from.next c.args.changes.now) c.args.from.next (drop c.args.from.next c.args.changes.now) c.first_to.result refl stands
    (λ same. never (c.if-is_same.ensures.1 (c.value_at.ensures ∙ same))) c.first_to.ensures)
