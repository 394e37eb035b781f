use Rattle.std.proofs.Common.{◌≡◌, Bool, false, true, [], ◌∷◌, map, ap, sym, ◌∙◌, refl, arith, Some, None}
use Rattle.atomic_table.specs.Table.{rest}
use Rattle.ug_turnstile.specs.Passes.{Adds}
use Rattle.ug_turnstile.specs.Rule.{view, saw, entries_in, spent_in}
use Rattle.ug_turnstile.specs.Inside.{in_hand, root_of, seen_of, spent_of}
use Rattle.ug_turnstile.proofs.Entries.{some_same}
use Rattle.ug_turnstile.proofs.Steps.{releases}
use Rattle.ug_turnstile.proofs.turnstile.Turnstile.put_home.Goals as goal

pub store-requires : goal.store-requires
store-requires g c =
    let inv = c.pass.invariant in
    let p = inv.0 in
    let busy : c.pass.inside.seat.me.0.holds ≡ true = ap (λ h. h.holds) c.pass.view_is ∙ c.requires.holds in
    let me : c.pass.inside.seat.me ≡ (view true (p ∷ []), (0, None) ∷ []) = inv.2 ∙ ap (λ (b : Bool). (view b (p ∷ []), in_hand b)) busy in
    let after = c.exchange-emptied.ensures.3 ∙ ap (λ m. (m.0, (0, Some c.args.state) ∷ rest m.1)) me in
    let parts = ap (λ m. m.0.parts) me in
    let rooted : g.S.Logged.root c.args.state ≡ p.root = some_same (sym c.requires.root ∙ (sym (ap (λ h. h.root) c.pass.view_is) ∙ ap root_of parts)) in
    let seen : c.args.pass.now.seen ≡ p.seen = sym (ap (λ h. h.seen) c.pass.view_is) ∙ ap seen_of parts in
    let number : c.args.pass.now.number ≡ p.number = sym (ap (λ h. h.number) c.pass.view_is) ∙ sym inv.1 in
    let adds : Adds g.S.Logged.owner p.number p.seen (g.S.Logged.entries c.args.state) = rw (← seen, ← number) c.requires.adds in
    let was : c.args.pass.now.spent ≡ p.spent = sym (ap (λ h. h.spent) c.pass.view_is) ∙ ap spent_of parts in
    let words = c.self.invariant.0 in (
      c.exchange-emptied.ensures.0 ∙ (ap (λ h. h.turnstile) c.pass.view_is ∙ (c.requires.here ∙ sym (ap (λ t. t.id) c.self.view_is))),
      omega arith,
      rw (after, c.self.invariant.1) (releases g.S.Logged.owner g.S.Logged.root g.S.Logged.entries g.S.Logged.spent (g.S.Logged.root c.self.inside.table.shared.key.state.value) c.self.inside.table.shared.key.count p c.args.state c.exchange-emptied.new.seat.id rooted adds (λ is. c.requires.stays_spent (was ∙ is))),
    )

pub invariant_of-pass : goal.invariant_of-pass
invariant_of-pass g c =
    let inv = c.pass.invariant in
    let p = inv.0 in
    let busy : c.pass.inside.seat.me.0.holds ≡ true = ap (λ h. h.holds) c.pass.view_is ∙ c.requires.holds in
    let me : c.pass.inside.seat.me ≡ (view true (p ∷ []), (0, None) ∷ []) = inv.2 ∙ ap (λ (b : Bool). (view b (p ∷ []), in_hand b)) busy in
    let after = c.exchange-emptied.ensures.3 ∙ ap (λ m. (m.0, (0, Some c.args.state) ∷ rest m.1)) me in
    let home = c.store.ensures.2 ∙ ap (λ m. (view false (map (saw (entries_in g.S.Logged.owner g.S.Logged.root g.S.Logged.entries g.S.Logged.spent m.1) (spent_in g.S.Logged.owner g.S.Logged.root g.S.Logged.entries g.S.Logged.spent m.1)) m.0.parts), [])) after in
    (saw (g.S.Logged.entries c.args.state) (g.S.Logged.spent c.args.state) p, inv.1, rw home refl)
