-- The segments as one row: what lies at a place of it, and how a change of one segment changes it.
use Rattle.std.proofs.Common.{◌≡◌, ℕ, zero, suc, ◌+◌, ◌-◌, ◌*◌, ◌<◌, ◌/◌, ◌%◌, List, [], ◌∷◌, ◌++◌, length, take, drop, set, get_or, Option, Some, None, refl, sym, ap, ◌∙◌, arith, length-append, length-set}
use Rattle.std.proofs.lemmas.List.{get_or_append_left, get_or-append_right, set-append_left, set-append_right, append_assoc, append-nil}
use Rattle.std.proofs.Math.Nat.{div-add-mod}
use Rattle.ug_segchain.specs.Slots.{joined, AreWhole}

module _ {X : Type 0} where
  pub length-joined : (ss : List (List (Option X))) → AreWhole ss → length (joined ss) ≡ 64 * length ss
  length-joined [] w = refl
  length-joined (s ∷ ss) w = omega (arith, length-append s (joined ss), length-joined ss w.1, w.0)

  pub joined_at : (ss : List (List (Option X))) (p q r : ℕ) (d : List (Option X)) → AreWhole ss → q < length ss → r < 64 → p ≡ 64 * q + r
      → get_or (joined ss) p None ≡ get_or (get_or ss q d) r None
  joined_at [] p q r d w lt lr e = absurd (omega arith)
  joined_at (s ∷ ss) p zero r d w lt lr e =
      let same : p ≡ r = omega arith in ap (λ i. get_or (s ++ joined ss) i None) same ∙ get_or_append_left s (joined ss) None r (omega (arith, w.0))
  joined_at (s ∷ ss) p (suc q) r d w lt lr e =
      get_or-append_right s (joined ss) 64 p None w.0 (omega arith) ∙ joined_at ss (p - 64) q r d w.1 (omega arith) lr (omega arith)

  pub joined_set : (ss : List (List (Option X))) (p q r : ℕ) (d : List (Option X)) (v : Option X) → AreWhole ss → q < length ss → r < 64 → p ≡ 64 * q + r
      → joined (set ss q (set (get_or ss q d) r v)) ≡ set (joined ss) p v
  joined_set [] p q r d v w lt lr e = absurd (omega arith)
  joined_set (s ∷ ss) p zero r d v w lt lr e =
      let same : p ≡ r = omega arith in sym (ap (λ i. set (s ++ joined ss) i v) same ∙ set-append_left s (joined ss) r v (omega (arith, w.0)))
  joined_set (s ∷ ss) p (suc q) r d v w lt lr e =
      ap (λ l. s ++ l) (joined_set ss (p - 64) q r d v w.1 (omega arith) lr (omega arith)) ∙ sym (set-append_right s (joined ss) 64 p v w.0 (omega arith))

  pub AreWhole-set : (ss : List (List (Option X))) (q : ℕ) (s : List (Option X)) → AreWhole ss → length s ≡ 64 → AreWhole (set ss q s)
  AreWhole-set [] q s w e = tt
  AreWhole-set (t ∷ ss) zero s w e = (e, w.1)
  AreWhole-set (t ∷ ss) (suc q) s w e = (w.0, AreWhole-set ss q s w.1 e)

  pub AreWhole-at : (ss : List (List (Option X))) (q : ℕ) (d : List (Option X)) → AreWhole ss → q < length ss → length (get_or ss q d) ≡ 64
  AreWhole-at [] q d w lt = absurd (omega arith)
  AreWhole-at (s ∷ ss) zero d w lt = w.0
  AreWhole-at (s ∷ ss) (suc q) d w lt = AreWhole-at ss q d w.1 (omega arith)

  pub AreWhole-push : (ss : List (List (Option X))) (s : List (Option X)) → AreWhole ss → length s ≡ 64 → AreWhole (ss ++ s ∷ [])
  AreWhole-push [] s w e = (e, tt)
  AreWhole-push (t ∷ ss) s w e = (w.0, AreWhole-push ss s w.1 e)

  pub joined-push : (ss : List (List (Option X))) (s : List (Option X)) → joined (ss ++ s ∷ []) ≡ joined ss ++ s
  joined-push [] s = append-nil s
  joined-push (t ∷ ss) s = ap (λ l. t ++ l) (joined-push ss s) ∙ sym (append_assoc t (joined ss) s)

  pub filled_inside : (cs : List (Option X)) (i : ℕ) (x : X) → get_or cs i None ≡ Some x → i < length cs
  filled_inside [] i x e = cc
  filled_inside (c ∷ cs) zero x e = omega arith
  filled_inside (c ∷ cs) (suc i) x e = omega (arith, filled_inside cs i x e)

  pub cut_at : (xs ys : List (Option X)) (n : ℕ) → length xs ≡ n → (take n (xs ++ ys) ≡ xs) × (drop n (xs ++ ys) ≡ ys)
  cut_at [] ys zero e = (refl, refl)
  cut_at [] ys (suc n) e = absurd (omega arith)
  cut_at (x ∷ xs) ys zero e = absurd (omega arith)
  cut_at (x ∷ xs) ys (suc n) e = let on = cut_at xs ys n (omega arith) in (ap (λ l. x ∷ l) on.0, on.1)

  -- the place p of the row is the place p % 64 of the segment p / 64
  module _ (ss : List (List (Option X))) (p : ℕ) (s : List (Option X)) (w : AreWhole ss) (lt : p < length (joined ss)) where
    pub segment_inside : p / 64 < length ss
    segment_inside = omega (arith, length-joined ss w, div-add-mod p 64)

    pub joined_seen : s ≡ get_or ss (p / 64) s → get_or (joined ss) p None ≡ get_or s (p % 64) None
    joined_seen e = joined_at ss p (p / 64) (p % 64) s w segment_inside (omega arith) (sym (div-add-mod p 64)) ∙ ap (λ l. get_or l (p % 64) None) (sym e)

    pub segment_long : s ≡ get_or ss (p / 64) s → length s ≡ 64
    segment_long e = ap length e ∙ AreWhole-at ss (p / 64) s w segment_inside

    pub joined_changed : s ≡ get_or ss (p / 64) s → (v : Option X) → joined (set ss (p / 64) (set s (p % 64) v)) ≡ set (joined ss) p v
    joined_changed e v = ap (λ l. joined (set ss (p / 64) (set l (p % 64) v))) e ∙ joined_set ss p (p / 64) (p % 64) s v w segment_inside (omega arith) (sym (div-add-mod p 64))

    pub AreWhole-changed : s ≡ get_or ss (p / 64) s → (v : Option X) → AreWhole (set ss (p / 64) (set s (p % 64) v))
    AreWhole-changed e v = AreWhole-set ss (p / 64) (set s (p % 64) v) w (length-set s (p % 64) v ∙ segment_long e)
