-- The losses of all peers, and those of one.
use Rattle.std.proofs.Common.{◌≡◌, ℕ, zero, suc, ◌+◌, ◌<◌, ◌==◌, Bool, true, false, List, [], ◌∷◌, slice_get, map, refl, sym, ◌∙◌, ap, subst, arith}
use Rattle.std.specs.Prelude.{◌&&◌, ◌||◌}
use Rattle.std.specs.List.{list_any}
use Rattle.std.proofs.lemmas.Bool.Decides.{nat_tests}
use Rattle.std.proofs.lemmas.List.Folds.{list_any-append}
use Rattle.ug_report.specs.declared.endings.Loss.{Loss}
use Rattle.ug_report.specs.Report.{losses_from}
use Rattle.ug_event_loop.specs.Contents.{has_number, is_lost_of, is_lost_at}

-- the loss is that of session `n` of the peer at a place
abbrev pub is_loss : ℕ → ℕ → Loss → Bool
is_loss p n loss = (loss.peer == p) && (loss.session == n)

abbrev pub is_lost_among : List Loss → ℕ → ℕ → Bool
is_lost_among losses p n = list_any (is_loss p n) losses

is_self : (n : ℕ) → (n == n) ≡ true
is_self n = grind (arith, nat_tests)

is_other : (m n : ℕ) → m < n → (m == n) ≡ false
is_other m n less = grind (arith, nat_tests, less)

is_further : (m n : ℕ) → m < n → (n == m) ≡ false
is_further m n less = grind (arith, nat_tests, less)

abbrev of_peer : ℕ → List ℕ → List Loss
of_peer q numbers = map (λ (n : ℕ). record { peer = q; session = n }) numbers

own : (q n : ℕ) (numbers : List ℕ) → list_any (is_loss q n) (of_peer q numbers) ≡ has_number numbers n
own q n [] = refl
own q n (m ∷ numbers) =
    let here : ((q == q) && (m == n)) ≡ (m == n) = ap (λ (b : Bool). b && (m == n)) (is_self q) in
    let rest = own q n numbers in cc

foreign : (q p n : ℕ) (numbers : List ℕ) → (q == p) ≡ false → list_any (is_loss p n) (of_peer q numbers) ≡ false
foreign q p n [] other = refl
foreign q p n (m ∷ numbers) other =
    let here : ((q == p) && (m == n)) ≡ false = ap (λ (b : Bool). b && (m == n)) other in
    let rest = foreign q p n numbers other in cc

beyond : (q p n : ℕ) (lost : List (List ℕ)) → p < q → list_any (is_loss p n) (losses_from q lost) ≡ false
beyond q p n [] less = refl
beyond q p n (numbers ∷ lost) less =
    let split = list_any-append (is_loss p n) (of_peer q numbers) (losses_from (q + 1) lost) in
    let first = foreign q p n numbers (is_further p q less) in
    let rest = beyond (q + 1) p n lost (omega arith) in cc

or_false : (b : Bool) → (b || false) ≡ b
or_false true = refl
or_false false = refl

lost_from : (q p n : ℕ) (lost : List (List ℕ)) → list_any (is_loss (q + p) n) (losses_from q lost) ≡ is_lost_of (slice_get lost p) n
lost_from q p n [] = refl
lost_from q zero n (numbers ∷ lost) =
    let same : q + 0 ≡ q = omega arith in
    subst (λ k. list_any (is_loss k n) (losses_from q (numbers ∷ lost)) ≡ has_number numbers n) (sym same)
    (list_any-append (is_loss q n) (of_peer q numbers) (losses_from (q + 1) lost)
    ∙ (ap (λ (b : Bool). b || list_any (is_loss q n) (losses_from (q + 1) lost)) (own q n numbers)
    ∙ (ap (λ (b : Bool). has_number numbers n || b) (beyond (q + 1) q n lost (omega arith)) ∙ or_false (has_number numbers n))))
lost_from q (suc p) n (numbers ∷ lost) =
    let same : q + 1 + p ≡ q + suc p = omega arith in
    let less : q < q + suc p = omega arith in
    list_any-append (is_loss (q + suc p) n) (of_peer q numbers) (losses_from (q + 1) lost)
    ∙ (ap (λ (b : Bool). b || list_any (is_loss (q + suc p) n) (losses_from (q + 1) lost)) (foreign q (q + suc p) n numbers (is_other q (q + suc p) less))
    ∙ subst (λ k. list_any (is_loss k n) (losses_from (q + 1) lost) ≡ is_lost_of (slice_get lost p) n) same (lost_from (q + 1) p n lost))

-- a session is among the losses of all peers where its peer lost it
pub lost-in : (lost : List (List ℕ)) (p n : ℕ) → is_lost_among (losses_from 0 lost) p n ≡ is_lost_at lost p n
lost-in lost p n = let same : 0 + p ≡ p = omega arith in subst (λ k. is_lost_among (losses_from 0 lost) k n ≡ is_lost_at lost p n) same (lost_from 0 p n lost)
