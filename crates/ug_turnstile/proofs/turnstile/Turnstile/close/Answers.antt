use Rattle.std.proofs.Common.{◌≡◌, ℕ, ◌<◌, true, ap, sym, ◌∙◌, subst, refl, Some}
use mathlib.Core.Option.{some-injective}
use Rattle.ug_turnstile.specs.Passes.{Agrees, IsToldBy}
use Rattle.std.specs.Prelude.{All, Any}
use Rattle.ug_turnstile.proofs.Entries.{all_of_each, some_same, told_once}
use Rattle.ug_turnstile.proofs.Steps.{closes}
use Rattle.ug_turnstile.proofs.turnstile.Turnstile.close.Goals as goal

pub unwrap-requires : goal.unwrap-requires
unwrap-requires g c =
    let S = g.S.Logged in
    let shared = c.self.inside.table.shared in
    let passes = c.args.passes.items in
    let base = c.gather-base.result in
    let whole : (number : ℕ) → number < shared.key.count → Any (λ p. p.number ≡ number) passes = λ number lt. c.requires.whole number (subst (λ k. number < k) (ap (λ t. t.count) c.self.view_is) lt) in
    let ended = closes S.owner S.root S.entries S.spent (S.root shared.key.state.value) shared.key.count base.id base.me.0 _ _ shared.table_id passes c.close_with-closed.ensures.values.2 (ap (λ m. m.0) c.gather-base.ensures.seat.1) c.gather-base.ensures.parts whole in
    let taken = some-injective c.take-home.result (Some ended.state) (sym c.take-home.ensures.value ∙ ended.slot) in
    rw taken refl

pub returns-clause-agrees : goal.returns-clause-agrees
returns-clause-agrees g c =
    let S = g.S.Logged in
    let shared = c.self.inside.table.shared in
    let passes = c.args.passes.items in
    let base = c.gather-base.result in
    let whole : (number : ℕ) → number < shared.key.count → Any (λ p. p.number ≡ number) passes = λ number lt. c.requires.whole number (subst (λ k. number < k) (ap (λ t. t.count) c.self.view_is) lt) in
    let ended = closes S.owner S.root S.entries S.spent (S.root shared.key.state.value) shared.key.count base.id base.me.0 _ _ shared.table_id passes c.close_with-closed.ensures.values.2 (ap (λ m. m.0) c.gather-base.ensures.seat.1) c.gather-base.ensures.parts whole in
    let taken = some-injective c.take-home.result (Some ended.state) (sym c.take-home.ensures.value ∙ ended.slot) in
    let same : ended.state ≡ c.unwrap.result = some_same (sym taken ∙ c.unwrap.ensures) in
    subst (λ x. All (Agrees S.owner (S.root x) (S.entries x)) passes) same (all_of_each (Agrees S.owner (S.root ended.state) (S.entries ended.state)) passes ended.agrees)

pub returns-clause-spent : goal.returns-clause-spent
returns-clause-spent g c =
    let S = g.S.Logged in
    let shared = c.self.inside.table.shared in
    let passes = c.args.passes.items in
    let base = c.gather-base.result in
    let whole : (number : ℕ) → number < shared.key.count → Any (λ p. p.number ≡ number) passes = λ number lt. c.requires.whole number (subst (λ k. number < k) (ap (λ t. t.count) c.self.view_is) lt) in
    let ended = closes S.owner S.root S.entries S.spent (S.root shared.key.state.value) shared.key.count base.id base.me.0 _ _ shared.table_id passes c.close_with-closed.ensures.values.2 (ap (λ m. m.0) c.gather-base.ensures.seat.1) c.gather-base.ensures.parts whole in
    let taken = some-injective c.take-home.result (Some ended.state) (sym c.take-home.ensures.value ∙ ended.slot) in
    let same : ended.state ≡ c.unwrap.result = some_same (sym taken ∙ c.unwrap.ensures) in
    subst (λ x. All (λ p. p.spent ≡ true → S.spent x ≡ true) passes) same (all_of_each (λ p. p.spent ≡ true → S.spent ended.state ≡ true) passes ended.spends)

pub returns-clause-owned : goal.returns-clause-owned
returns-clause-owned g c =
    let S = g.S.Logged in
    let shared = c.self.inside.table.shared in
    let passes = c.args.passes.items in
    let base = c.gather-base.result in
    let whole : (number : ℕ) → number < shared.key.count → Any (λ p. p.number ≡ number) passes = λ number lt. c.requires.whole number (subst (λ k. number < k) (ap (λ t. t.count) c.self.view_is) lt) in
    let ended = closes S.owner S.root S.entries S.spent (S.root shared.key.state.value) shared.key.count base.id base.me.0 _ _ shared.table_id passes c.close_with-closed.ensures.values.2 (ap (λ m. m.0) c.gather-base.ensures.seat.1) c.gather-base.ensures.parts whole in
    let taken = some-injective c.take-home.result (Some ended.state) (sym c.take-home.ensures.value ∙ ended.slot) in
    let same : ended.state ≡ c.unwrap.result = some_same (sym taken ∙ c.unwrap.ensures) in
    subst (λ x. All (λ e. Any (λ p. p.number ≡ S.owner e) passes) (S.entries x)) same (all_of_each (λ e. Any (λ p. p.number ≡ S.owner e) passes) (S.entries ended.state) ended.owned)

pub returns-clause-only : goal.returns-clause-only
returns-clause-only g c other told =
    let S = g.S.Logged in
    let shared = c.self.inside.table.shared in
    let passes = c.args.passes.items in
    let base = c.gather-base.result in
    let whole : (number : ℕ) → number < shared.key.count → Any (λ p. p.number ≡ number) passes = λ number lt. c.requires.whole number (subst (λ k. number < k) (ap (λ t. t.count) c.self.view_is) lt) in
    let ended = closes S.owner S.root S.entries S.spent (S.root shared.key.state.value) shared.key.count base.id base.me.0 _ _ shared.table_id passes c.close_with-closed.ensures.values.2 (ap (λ m. m.0) c.gather-base.ensures.seat.1) c.gather-base.ensures.parts whole in
    let taken = some-injective c.take-home.result (Some ended.state) (sym c.take-home.ensures.value ∙ ended.slot) in
    let same : ended.state ≡ c.unwrap.result = some_same (sym taken ∙ c.unwrap.ensures) in
    let here : IsToldBy S.owner (S.root ended.state) (S.entries ended.state) passes =
    (all_of_each (Agrees S.owner (S.root ended.state) (S.entries ended.state)) passes ended.agrees, all_of_each (λ e. Any (λ p. p.number ≡ S.owner e) passes) (S.entries ended.state) ended.owned) in
    told_once S.owner (S.root c.unwrap.result) passes other (S.entries c.unwrap.result) told (subst (λ x. IsToldBy S.owner (S.root x) (S.entries x) passes) same here)
