use Rattle.std.proofs.Common.{◌≡◌, ℕ, zero, suc, ◌<◌, false, [], ◌∷◌, arith, refl, sym, subst}
use Rattle.std.specs.Prelude.{All, Any}
use Rattle.ug_turnstile.specs.Passes.{Held}
use Rattle.ug_turnstile.proofs.Entries.{all_of_each}
use Rattle.ug_calls.proofs.turnstile.close_all.Goals as goal

pub close-requires-clause-here : goal.close-requires-clause-here
close-requires-clause-here g =
    let p = g.requires.passes in
    let P = λ (h : Held ℕ ℕ). h.turnstile ≡ g.args.turnstile.id in
    subst (All P) (sym p.3) (all_of_each P (p.0 ∷ p.1 ∷ p.2 ∷ []) (p.4.0, (p.5.0, (p.6.0, tt))))

pub close-requires-clause-free : goal.close-requires-clause-free
close-requires-clause-free g =
    let p = g.requires.passes in
    let P = λ (h : Held ℕ ℕ). h.holds ≡ false in
    subst (All P) (sym p.3) (all_of_each P (p.0 ∷ p.1 ∷ p.2 ∷ []) (p.4.2, (p.5.2, (p.6.2, tt))))

each_number : (a b c : Held ℕ ℕ) → a.number ≡ 2 → b.number ≡ 0 → c.number ≡ 1 → (number : ℕ) → number < 3 → Any (λ p. p.number ≡ number) (a ∷ b ∷ c ∷ [])
each_number a b c two none one zero lt = (1, b, omega arith, refl, none)
each_number a b c two none one (suc zero) lt = (2, c, omega arith, refl, one)
each_number a b c two none one (suc (suc zero)) lt = (0, a, omega arith, refl, two)
each_number a b c two none one (suc (suc (suc n))) lt = absurd (omega arith)

pub close-requires-clause-whole : goal.close-requires-clause-whole
close-requires-clause-whole g number lt =
    let p = g.requires.passes in
    subst (Any (λ h. h.number ≡ number)) (sym p.3) (each_number p.0 p.1 p.2 p.4.1 p.5.1 p.6.1 number (subst (λ n. number < n) g.requires.count lt))
