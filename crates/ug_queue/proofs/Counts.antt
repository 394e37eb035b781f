-- How many members stand at each place, after a change of one member and after the first packet is gone.
use Rattle.std.proofs.Common.{◌≡◌, ℕ, zero, suc, ◌+◌, ◌-◌, ◌<◌, ◌≤◌, ◌==◌, inl, inr, Bool, cond, List, [], ◌∷◌, ◌++◌, length, drop, set, get_or, Option, Some, None, refl, sym, ap, ◌∙◌, subst, arith, get_or-set_same, get_or-set_other}
use Rattle.std.specs.Option.{option_map, unwrap_or}
use Rattle.std.specs.List.Sorted.{IsStrictlySortedBy}
use Rattle.std.specs.Map.{lookup, remove_entry, keys_of, values_of}
use Rattle.std.specs.Ordering.{nat_cmp}
use Rattle.std.specs.BTreeMap.{insert_entry}
use Rattle.std.proofs.lemmas.Bool.Decides.{nat_tests}
use Rattle.std.proofs.lemmas.Bool.{cases_eq}
use Rattle.std.proofs.lemmas.Cmp.{nat_cmp_total}
use Rattle.std.proofs.lemmas.List.Sums.{sum_by-cons}
use Rattle.std.proofs.lemmas.Map.Entries.{sum_by-remove_entry, sum_by-insert_entry}
use Rattle.ug_queue.specs.Queues.{is_member, mapped, standing, least_place}
use Rattle.ug_queue.specs.Lines.{AreCounted}

-- 1 at the place itself
abbrev pub one : ℕ → ℕ → ℕ
one i p = cond (p == i) 1 0

one_same : (i p : ℕ) → p ≡ i → one i p ≡ 1
one_same i p e = grind (arith, nat_tests)

one_other : (i p : ℕ) → (p ≡ i → ⊥) → one i p ≡ 0
one_other i p ne = grind (arith, nat_tests)

one_at_most : (i p : ℕ) → one i p ≤ 1
one_at_most i p = elim (cases_eq p i) [ inl e ↦ omega (arith, one_same i p e) | inr ne ↦ omega (arith, one_other i p ne) ]

pub standing-cons : (e : ℕ × ℕ) (es : List (ℕ × ℕ)) (i : ℕ) → standing (e ∷ es) i ≡ one i e.1 + standing es i
standing-cons e es i = sum_by-cons (one i) e.1 (values_of es)

pub standing_at_most : (es : List (ℕ × ℕ)) (i : ℕ) → standing es i ≤ length es
standing_at_most [] i = omega arith
standing_at_most (e ∷ es) i = omega (arith, standing-cons e es i, standing_at_most es i, one_at_most i e.1)

pub standing-remove : (t : ℕ → Bool) (es : List (ℕ × ℕ)) (p i : ℕ) → lookup t es ≡ Some p → standing (remove_entry t es) i + one i p ≡ standing es i
standing-remove t es p i e =
    subst (λ (o : Option ℕ). standing (remove_entry t es) i + unwrap_or (option_map (one i) o) 0 ≡ standing es i) e (sum_by-remove_entry (one i) t es)

pub standing-insert : (es : List (ℕ × ℕ)) (m v i : ℕ) → IsStrictlySortedBy nat_cmp (keys_of es) → lookup (is_member m) es ≡ None
    → standing (insert_entry nat_cmp es m v) i ≡ standing es i + one i v
standing-insert es m v i s e =
    let sum = subst (λ (o : Option ℕ). standing (insert_entry nat_cmp es m v) i + unwrap_or (option_map (one i) o) 0 ≡ standing es i + one i v) e (sum_by-insert_entry (one i) nat_cmp_total es m v s) in
    omega (arith, sum)

pub standing-move : (es : List (ℕ × ℕ)) (m p v i : ℕ) → IsStrictlySortedBy nat_cmp (keys_of es) → lookup (is_member m) es ≡ Some p
    → standing (insert_entry nat_cmp es m v) i ≡ standing (remove_entry (is_member m) es) i + one i v
standing-move es m p v i s e =
    let sum = subst (λ (o : Option ℕ). standing (insert_entry nat_cmp es m v) i + unwrap_or (option_map (one i) o) 0 ≡ standing es i + one i v) e (sum_by-insert_entry (one i) nat_cmp_total es m v s) in
    omega (arith, sum, standing-remove (is_member m) es p i e)

pub member_stands : (t : ℕ → Bool) (es : List (ℕ × ℕ)) (p : ℕ) → lookup t es ≡ Some p → 1 ≤ standing es p
member_stands t es p e = omega (arith, standing-remove t es p p e, one_same p p refl)

pub first_stands : (e : ℕ × ℕ) (es : List (ℕ × ℕ)) → 1 ≤ standing (e ∷ es) e.1
first_stands e es = omega (arith, standing-cons e es e.1, one_same e.1 e.1 refl)

pub someone_stands : (es : List (ℕ × ℕ)) → 0 < length es → (p : ℕ) × (1 ≤ standing es p)
someone_stands [] lt = absurd (omega arith)
someone_stands (e ∷ es) lt = (e.1, first_stands e es)

-- ---- the counts

pub counted_inside : (w : List ℕ) (p : ℕ) → 1 ≤ get_or w p 0 → p < length w
counted_inside [] p le = absurd (omega arith)
counted_inside (x ∷ w) zero le = omega arith
counted_inside (x ∷ w) (suc p) le = omega (arith, counted_inside w p le)

module _ (w : List ℕ) (es fs : List (ℕ × ℕ)) (k : ℕ) (c : AreCounted w es) (lt : k < length w) where
  pub counted_lower : ((i : ℕ) → standing fs i + one i k ≡ standing es i) → AreCounted (set w k (get_or w k 0 - 1)) fs
  counted_lower h i = elim (cases_eq i k) [
    | inl e ↦ let here = ap (λ j. get_or (set w k (get_or w k 0 - 1)) j 0) e ∙ get_or-set_same w k (get_or w k 0 - 1) 0 lt in
        omega (arith, here, c k, ap (λ j. standing es j) e, h i, one_same i k (sym e))
    | inr ne ↦ let there = get_or-set_other w k i (get_or w k 0 - 1) 0 ne in omega (arith, there, c i, h i, one_other i k (λ e. ne (sym e)))
  ]

  pub counted_raise : ((i : ℕ) → standing fs i ≡ standing es i + one i k) → AreCounted (set w k (get_or w k 0 + 1)) fs
  counted_raise h i = elim (cases_eq i k) [
    | inl e ↦ let here = ap (λ j. get_or (set w k (get_or w k 0 + 1)) j 0) e ∙ get_or-set_same w k (get_or w k 0 + 1) 0 lt in
        omega (arith, here, c k, ap (λ j. standing es j) e, h i, one_same i k (sym e))
    | inr ne ↦ let there = get_or-set_other w k i (get_or w k 0 + 1) 0 ne in omega (arith, there, c i, h i, one_other i k (λ e. ne (sym e)))
  ]

pub get_or-more : (w : List ℕ) (i : ℕ) → get_or (w ++ 0 ∷ []) i 0 ≡ get_or w i 0
get_or-more [] zero = refl
get_or-more [] (suc i) = refl
get_or-more (x ∷ w) zero = refl
get_or-more (x ∷ w) (suc i) = get_or-more w i

get_or-tail : (w : List ℕ) (i : ℕ) → get_or (drop 1 w) i 0 ≡ get_or w (suc i) 0
get_or-tail [] i = refl
get_or-tail (x ∷ w) i = refl

-- ---- the first packet goes

pub passed_first : (n : ℕ) (es : List (ℕ × ℕ)) → 0 < n → standing es 0 ≡ 0 → 0 < least_place n es
passed_first n [] lt e = lt
passed_first n (x ∷ es) lt e =
    elim (cases_eq x.1 0) [
      | inl z ↦ absurd (omega (arith, standing-cons x es 0, one_same 0 x.1 z, e))
      | inr nz ↦ omega (arith, nz, passed_first n es lt (omega (arith, standing-cons x es 0, e)))
    ]

pub first_passed : (n : ℕ) (es : List (ℕ × ℕ)) → 0 < least_place n es → (0 < n) × (standing es 0 ≡ 0)
first_passed n [] lt = (lt, refl)
first_passed n (x ∷ es) lt =
    let on = first_passed n es (omega (arith, lt)) in
    (on.0, omega (arith, standing-cons x es 0, on.1, one_other 0 x.1 (λ z. omega (arith, lt, z))))

standing-earlier : (n : ℕ) (es : List (ℕ × ℕ)) (i : ℕ) → 0 < least_place n es → standing (mapped (λ p. p - 1) es) i ≡ standing es (suc i)
standing-earlier n [] i lt = refl
standing-earlier n (x ∷ es) i lt =
    let on = standing-earlier n es i (omega (arith, lt)) in let some : 0 < x.1 = omega (arith, lt) in
    let here : one i (x.1 - 1) ≡ one (suc i) x.1 = elim (cases_eq (x.1 - 1) i) [
      | inl e ↦ one_same i (x.1 - 1) e ∙ sym (one_same (suc i) x.1 (omega (arith, e, some)))
      | inr ne ↦ one_other i (x.1 - 1) ne ∙ sym (one_other (suc i) x.1 (λ e. ne (omega (arith, e))))
    ] in
    standing-cons (x.0, x.1 - 1) (mapped (λ p. p - 1) es) i ∙ (λ j. here j + on j) ∙ sym (standing-cons x es (suc i))

pub counted_drop : (w : List ℕ) (n : ℕ) (es : List (ℕ × ℕ)) → AreCounted w es → 0 < least_place n es → AreCounted (drop 1 w) (mapped (λ p. p - 1) es)
counted_drop w n es c lt i = get_or-tail w i ∙ c (suc i) ∙ sym (standing-earlier n es i lt)
