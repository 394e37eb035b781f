-- The rests of a queue's members, after a packet more, and after packets are gone.
use Rattle.std.proofs.Common.{◌≡◌, ℕ, zero, suc, ◌+◌, ◌-◌, ◌<◌, ◌≤◌, inl, inr, Bool, true, false, cond, List, [], ◌∷◌, ◌++◌, length, drop, slice_get, Option, Some, None, refl, ap, ◌∙◌, arith}
use Rattle.std.specs.Prelude.{min, IsSome, IfSome}
use Rattle.std.specs.Option.{option_map}
use Rattle.std.specs.Map.{lookup, keys_of}
use Rattle.std.specs.Cmp.{eq_by_cmp_equiv}
use Rattle.std.specs.Ordering.{nat_cmp}
use Rattle.std.specs.List.Sorted.{IsStrictlySortedBy}
use Rattle.std.proofs.Math.Seq.{drop-drop}
use Rattle.std.proofs.lemmas.Bool.{cases_eq}
use Rattle.std.proofs.lemmas.Cmp.{nat_cmp_total}
use Rattle.std.proofs.lemmas.Map.Keys.{IsDistinct-from_sorted}
use Rattle.std.proofs.lemmas.Map.Entries.{lookup_from_place}
use Rattle.ug_queue.specs.Queues.{Queued, is_member, least_place, place_of, from_place, rest_of, passed}
use Rattle.ug_queue.specs.Rests.{RestLaws}
use Rattle.ug_queue.proofs.Placed.{lookup-mapped}
use Rattle.ug_queue.proofs.Sheds.{rest_from}

least_cases : (n : ℕ) (b : Bool) (x p : ℕ) (es : List (ℕ × ℕ)) (o : Option ℕ) → IfSome o (λ q. least_place n es ≤ q) → IfSome (cond b (Some x) o) (λ q. min x (least_place n es) ≤ q)
least_cases n true x p es o h = omega arith
least_cases n false x p es None h = tt
least_cases n false x p es (Some q) h = omega (arith, h)

least_of_all : (n : ℕ) (t : ℕ → Bool) (es : List (ℕ × ℕ)) → IfSome (lookup t es) (λ q. least_place n es ≤ q)
least_of_all n t [] = tt
least_of_all n t (e ∷ es) = least_cases n (t e.0) e.1 0 es (lookup t es) (least_of_all n t es)

zero_place : (n : ℕ) (es : List (ℕ × ℕ)) → 0 < n → least_place n es ≡ 0 → (i : ℕ) × (e : ℕ × ℕ) × (slice_get es i ≡ Some e) × (e.1 ≡ 0)
zero_place n [] lt z = absurd (omega (arith, lt, z))
zero_place n (x ∷ es) lt z =
    elim (cases_eq x.1 0) [
      | inl e ↦ (0, x, refl, e)
      | inr ne ↦ let on = zero_place n es lt (omega (arith, ne, z)) in (suc on.0, on.1, on.2, on.3)
    ]

module _ {P : Type 0} where
  drop-append : (xs ys : List P) (p : ℕ) → p ≤ length xs → drop p (xs ++ ys) ≡ drop p xs ++ ys
  drop-append xs ys zero le = refl
  drop-append [] ys (suc p) le = absurd (omega arith)
  drop-append (x ∷ xs) ys (suc p) le = drop-append xs ys p (omega arith)

  appended_at : (ps : List P) (packet : P) (o : Option ℕ) → IsSome o → IfSome o (λ place. place ≤ length ps) → from_place (ps ++ packet ∷ []) o ≡ from_place ps o ++ packet ∷ []
  appended_at ps packet None h le = cc
  appended_at ps packet (Some p) h le = drop-append ps (packet ∷ []) p le

  kept_at : (ps : List P) (d : ℕ) (o : Option ℕ) → IfSome o (λ q. d ≤ q) → from_place (drop d ps) (option_map (λ p. p - d) o) ≡ from_place ps o
  kept_at ps d None le = refl
  kept_at ps d (Some p) le = let whole : d + (p - d) ≡ p = omega (arith, le) in drop-drop (p - d) d ps ∙ ap (λ k. drop k ps) whole

  -- where there are no packets nobody has any to take
  pub none_left : (q : Queued P) (m : ℕ) → length q.packets ≡ 0 → 0 ≡ length (rest_of q m)
  none_left q m none = by (place_of q m) q.packets none
    where
      by : (o : Option ℕ) (ps : List P) → length ps ≡ 0 → 0 ≡ length (from_place ps o)
      by None ps none = refl
      by (Some zero) [] none = refl
      by (Some (suc p)) [] none = refl
      by (Some p) (x ∷ ps) none = absurd (omega (arith, none))

  longest_at : (q : Queued P) → IsStrictlySortedBy nat_cmp (keys_of q.places) → passed q ≡ 0 → 0 < length q.packets → (m : ℕ) × (rest_of q m ≡ q.packets)
  longest_at q sorted none some =
      let first = zero_place (length q.packets) q.places some none in let e = first.1 in
      let here = lookup_from_place (eq_by_cmp_equiv nat_cmp_total) q.places first.0 e.0 e.1 (IsDistinct-from_sorted nat_cmp (keys_of q.places) sorted) first.2 in
      (e.0, rest_from q e.0 e.1 here ∙ ap (λ k. drop k q.packets) first.3)

  pub rests : RestLaws P
  rests = record {
    appended = λ q packet m member inside. appended_at q.packets packet (place_of q m) member inside;
    kept = λ q m. ap (from_place (drop (passed q) q.packets)) (lookup-mapped (λ p. p - passed q) (is_member m) q.places) ∙ kept_at q.packets (passed q) (place_of q m) (least_of_all (length q.packets) (is_member m) q.places);
    longest = longest_at;
  }
