use Rattle.std.proofs.Common.{◌≡◌, ℕ, Bool, false, true, [], ◌∷◌, map, ap, sym, ◌∙◌, refl, arith, List, Option, Some, None}
use Rattle.atomic_table.specs.Table.{rest}
use Rattle.ug_turnstile.specs.Rule.{view, saw}
use Rattle.ug_turnstile.specs.Inside.{in_hand}
use Rattle.ug_turnstile.proofs.Steps.{claims}
use Rattle.ug_turnstile.proofs.turnstile.Turnstile.claim.Goals as goal

pub compare_exchange-found-requires : goal.compare_exchange-found-requires
compare_exchange-found-requires g c =
    let inv = c.pass.invariant in
    let p = inv.0 in
    let idle : c.pass.inside.seat.me.0.holds ≡ false = ap (λ h. h.holds) c.pass.view_is ∙ c.requires.free in
    let me : c.pass.inside.seat.me ≡ (view false (p ∷ []), []) = inv.2 ∙ ap (λ (b : Bool). (view b (p ∷ []), in_hand b)) idle in
    let words = c.self.invariant.0 in (
      ap (λ h. h.turnstile) c.pass.view_is ∙ (c.requires.here ∙ sym (ap (λ t. t.id) c.self.view_is)),
      omega arith,
      rw (me, c.self.invariant.1, ← inv.1) (claims g.S.Logged.owner g.S.Logged.root g.S.Logged.entries g.S.Logged.spent (g.S.Logged.root c.self.inside.table.shared.key.state.value) c.self.inside.table.shared.key.count p c.pass.inside.seat.id),
    )

pub invariant_of-pass : goal.invariant_of-pass
invariant_of-pass g c = rw (c.compare_exchange-found.ensures.2.1 c.if-found-ne0.true) c.pass.invariant

pub exchange-requires : goal.exchange-requires
exchange-requires g c =
    let told = c.compare_exchange-found.ensures.2.0 c.if-found-ne0.false in (
      c.compare_exchange-found.ensures.0 ∙ (ap (λ h. h.turnstile) c.pass.view_is ∙ (c.requires.here ∙ sym (ap (λ t. t.id) c.self.view_is))),
      (Some told.0, rw told.1 refl),
    )

-- the first of what is in hand
first_hand : {S : Type 0} → List (ℕ × Option S) → Option S
first_hand [] = None
first_hand (x ∷ xs) = x.1

pub unwrap-state-requires : goal.unwrap-state-requires
unfolding first_hand
unwrap-state-requires g c =
    let told = c.compare_exchange-found.ensures.2.0 c.if-found-ne0.false in
    let e : c.exchange.result ≡ Some told.0 = sym (ap first_hand c.exchange.ensures.2) ∙ ap (λ m. first_hand m.1) told.1 in
    rw e refl

pub invariant_of-pass-2 : goal.invariant_of-pass-2
invariant_of-pass-2 g c =
    let inv = c.pass.invariant in
    let p = inv.0 in
    let told = c.compare_exchange-found.ensures.2.0 c.if-found-ne0.false in
    let me = told.1 ∙ ap (λ m. (view true (map (saw (g.S.Logged.entries told.0) (g.S.Logged.spent told.0)) m.0.parts), (0, Some told.0) ∷ [])) inv.2 in
    let after = c.exchange.ensures.3 ∙ ap (λ m. (m.0, (0, None) ∷ rest m.1)) me in
    (saw (g.S.Logged.entries told.0) (g.S.Logged.spent told.0) p, inv.1, rw after refl)
