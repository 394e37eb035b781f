-- The packets that every member has passed, and what is left when they are gone.
use Rattle.std.proofs.Common.{◌≡◌, ℕ, zero, suc, ◌+◌, ◌-◌, ◌<◌, ◌≤◌, inl, inr, Bool, cond, List, [], ◌∷◌, length, drop, slice_get, Some, None, refl, ap, ◌∙◌, arith, length-drop}
use Rattle.std.proofs.Math.Seq.{drop-drop}
use Rattle.std.specs.Prelude.{min}
use Rattle.std.specs.Map.{lookup}
use Rattle.std.specs.Ordering.{nat_cmp, match_ordering, is_eq}
use Rattle.std.specs.declared.cmp.Ordering.{Ordering}
use Rattle.std.specs.declared.cmp.Ordering.TheVariants.{Less, Equal, Greater}
use Rattle.std.specs.BTreeMap.{insert_entry}
use Rattle.std.proofs.lemmas.Bool.{cases_eq}
use Rattle.ug_queue.specs.Queues.{Queued, is_member, mapped, least_place, place_of, from_place, rest_of, passed, without_first, shed}
use Rattle.ug_queue.specs.Lines.{AreCounted}
use Rattle.ug_queue.proofs.Counts.{member_stands, first_stands, counted_inside}
use Rattle.ug_queue.proofs.Placed.{mapped_twice, mapped_same}

least_earlier : (n : ℕ) (es : List (ℕ × ℕ)) → 0 < least_place n es → least_place (n - 1) (mapped (λ p. p - 1) es) ≡ least_place n es - 1
least_earlier n [] lt = refl
least_earlier n (x ∷ es) lt = omega (arith, least_earlier n es (omega (arith, lt)), lt)

least_at_most : (n : ℕ) (es : List (ℕ × ℕ)) → least_place n es ≤ n
least_at_most n [] = omega arith
least_at_most n (x ∷ es) = omega (arith, least_at_most n es)

least_still : (n k : ℕ) (es : List (ℕ × ℕ)) → 0 < n → least_place n es ≡ 0 → least_place k es ≡ 0
least_still n k [] lt e = absurd (omega arith)
least_still n k (x ∷ es) lt e = elim (cases_eq x.1 0) [ inl z ↦ omega (arith, z) | inr nz ↦ omega (arith, least_still n k es lt (omega (arith, nz, e))) ]

-- a packet more doesn't change that some member needs the first one
pub needed_more : (n : ℕ) (w : List ℕ) (es : List (ℕ × ℕ)) → AreCounted w es → (0 < length w → length w ≡ n + 1) → 0 < length es → least_place n es ≡ 0 → least_place (n + 1) es ≡ 0
needed_more n w [] c long lt e = absurd (omega arith)
needed_more n w (x ∷ es) c long lt e =
    elim (cases_eq n 0) [
      | inl z ↦ let inside = counted_inside w x.1 (omega (arith, c x.1, first_stands x es)) in
          omega (arith, inside, long (omega (arith, inside)), z)
      | inr nz ↦ least_still n (n + 1) (x ∷ es) (omega (arith, nz)) e
    ]

least_insert_cases : (r : Ordering) (n m v : ℕ) (x : ℕ × ℕ) (es fs : List (ℕ × ℕ)) → cond (is_eq r) (Some x.1) (lookup (is_member m) es) ≡ None
    → (lookup (is_member m) es ≡ None → least_place n fs ≡ min v (least_place n es))
    → least_place n (match_ordering r ((m, v) ∷ x ∷ es) ((x.0, v) ∷ es) (x ∷ fs)) ≡ min v (min x.1 (least_place n es))
least_insert_cases Less n m v x es fs e h = refl
least_insert_cases Equal n m v x es fs e h = cc
least_insert_cases Greater n m v x es fs e h = omega (arith, h e)

least-insert : (n m v : ℕ) (es : List (ℕ × ℕ)) → lookup (is_member m) es ≡ None → least_place n (insert_entry nat_cmp es m v) ≡ min v (least_place n es)
least-insert n m v [] e = refl
least-insert n m v (x ∷ es) e = least_insert_cases (nat_cmp m x.0) n m v x es (insert_entry nat_cmp es m v) e (least-insert n m v es)

pub passed_joined : (n m : ℕ) (es : List (ℕ × ℕ)) → lookup (is_member m) es ≡ None → least_place n (insert_entry nat_cmp es m n) ≡ least_place n es
passed_joined n m es e = omega (arith, least-insert n m n es e, least_at_most n es)

moved_cases : (r : Ordering) (n m p v : ℕ) (x : ℕ × ℕ) (es fs : List (ℕ × ℕ)) → cond (is_eq r) (Some x.1) (lookup (is_member m) es) ≡ Some p → 0 < p → min x.1 (least_place n es) ≡ 0
    → (lookup (is_member m) es ≡ Some p → least_place n es ≡ 0 → least_place n fs ≡ 0) → least_place n (match_ordering r ((m, v) ∷ x ∷ es) ((x.0, v) ∷ es) (x ∷ fs)) ≡ 0
moved_cases Less n m p v x es fs at lt e h = omega (arith, e)
moved_cases Equal n m p v x es fs at lt e h = let here : x.1 ≡ p = cc in omega (arith, here, lt, e)
moved_cases Greater n m p v x es fs at lt e h = elim (cases_eq x.1 0) [ inl z ↦ omega (arith, z) | inr nz ↦ omega (arith, h at (omega (arith, nz, e))) ]

-- where a member that isn't at the front moves, who needs the first packet still does
pub needed_still : (n m p v : ℕ) (es : List (ℕ × ℕ)) → lookup (is_member m) es ≡ Some p → 0 < p → least_place n es ≡ 0 → least_place n (insert_entry nat_cmp es m v) ≡ 0
needed_still n m p v [] at lt e = absurd cc
needed_still n m p v (x ∷ es) at lt e = moved_cases (nat_cmp m x.0) n m p v x es (insert_entry nat_cmp es m v) at lt e (λ on later. needed_still n m p v es on lt later)

-- a member stands at most at the end
pub place_inside : (n : ℕ) (w : List ℕ) (es : List (ℕ × ℕ)) (t : ℕ → Bool) (p : ℕ) → AreCounted w es → (0 < length w → length w ≡ n + 1) → lookup t es ≡ Some p → (p < length w) × (p ≤ n)
place_inside n w es t p c long e =
    let inside = counted_inside w p (omega (arith, c p, member_stands t es p e)) in (inside, omega (arith, inside, long (omega (arith, inside))))

module _ {P : Type 0} where
  pub shed_rest : (q : Queued P) → 0 < passed q → shed (without_first 1 q) ≡ shed q
  shed_rest q lt =
      let d = passed q - 1 in
      let less : passed (without_first 1 q) ≡ d = ap (λ n. least_place n (mapped (λ p. p - 1) q.places)) (length-drop 1 q.packets) ∙ least_earlier (length q.packets) q.places lt in
      let whole : 1 + d ≡ passed q = omega (arith, lt) in
      let packets : drop (passed (without_first 1 q)) (drop 1 q.packets) ≡ drop (passed q) q.packets =
      ap (λ k. drop k (drop 1 q.packets)) less ∙ drop-drop d 1 q.packets ∙ ap (λ k. drop k q.packets) whole in
      let places : mapped (λ p. p - passed (without_first 1 q)) (mapped (λ p. p - 1) q.places) ≡ mapped (λ p. p - passed q) q.places =
      mapped_twice (λ p. p - 1) (λ p. p - passed (without_first 1 q)) (λ p. p - passed q) (λ p. omega (arith, less, whole)) q.places in
      λ i. record { packets = packets i; places = places i; limit = q.limit }

  pub shed_same : (q : Queued P) → passed q ≡ 0 → shed q ≡ q
  shed_same q e =
      let packets : drop (passed q) q.packets ≡ q.packets = ap (λ k. drop k q.packets) e in
      let places : mapped (λ p. p - passed q) q.places ≡ q.places = mapped_same (λ p. p - passed q) (λ p. omega (arith, e)) q.places in
      λ i. record { packets = packets i; places = places i; limit = q.limit }

  pub rest_from : (q : Queued P) (m p : ℕ) → place_of q m ≡ Some p → rest_of q m ≡ drop p q.packets
  rest_from q m p e = ap (from_place q.packets) e

  -- who has packets to take stands before the end
  pub next_before : (q : Queued P) (m p : ℕ) → place_of q m ≡ Some p → 0 < length (rest_of q m) → p < length q.packets
  next_before q m p e lt = omega (arith, lt, ap length (rest_from q m p e), length-drop p q.packets)

  pub slice_get-drop : (xs : List P) (p : ℕ) → slice_get (drop p xs) 0 ≡ slice_get xs p
  slice_get-drop [] zero = refl
  slice_get-drop [] (suc p) = refl
  slice_get-drop (x ∷ xs) zero = refl
  slice_get-drop (x ∷ xs) (suc p) = slice_get-drop xs p
