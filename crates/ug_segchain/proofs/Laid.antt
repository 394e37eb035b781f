-- How the items of a chain lie in its row of places, and how they lie after each change.
use Rattle.std.proofs.Common.{◌≡◌, ℕ, zero, suc, ◌+◌, ◌-◌, ◌*◌, ◌^◌, ◌<◌, ◌≤◌, List, [], ◌∷◌, ◌++◌, length, take, drop, set, get_or, slice_get, Option, Some, None, refl, sym, ap, ◌∙◌, arith, length-append}
use Rattle.std.proofs.Math.ListN.{replicate}
use Rattle.std.proofs.lemmas.List.{length-replicate, replicate-append-replicate}
use Rattle.ug_segchain.specs.Slots.{values, joined, laid, AreWhole, AreEmpty, IsChain}
use Rattle.ug_segchain.proofs.Segments.{length-joined, cut_at}

module _ (X : Type 0) where
  abbrev gap : Option X
  gap = None

  values_none : (k : ℕ) → values (replicate k gap) ≡ []
  values_none zero = refl
  values_none (suc k) = values_none k

  none_at : (k i : ℕ) → get_or (replicate k gap) i None ≡ None
  none_at zero i = refl
  none_at (suc k) zero = refl
  none_at (suc k) (suc i) = none_at k i

  cut_none : (m n r : ℕ) → n ≡ m + r → (take m (replicate n gap) ≡ replicate m gap) × (drop m (replicate n gap) ≡ replicate r gap)
  cut_none zero n r e = let same : n ≡ r = omega arith in (refl, ap (λ k. replicate k gap) same)
  cut_none (suc m) zero r e = absurd (omega arith)
  cut_none (suc m) (suc n) r e = let on = cut_none m n r (omega arith) in (ap (λ l. gap ∷ l) on.0, on.1)

module _ {X : Type 0} where
  values-laid : (h : ℕ) (xs : List X) (k : ℕ) → values (laid h xs k) ≡ xs
  unfolding laid
  values-laid zero [] k = values_none X k
  values-laid zero (x ∷ xs) k = ap (λ l. x ∷ l) (values-laid zero xs k)
  values-laid (suc h) xs k = values-laid h xs k

  length-laid : (h : ℕ) (xs : List X) (k : ℕ) → length (laid h xs k) ≡ h + length xs + k
  unfolding laid
  length-laid zero [] k = omega (arith, length-replicate {A = Option X} k None)
  length-laid zero (x ∷ xs) k = omega (arith, length-laid zero xs k)
  length-laid (suc h) xs k = omega (arith, length-laid h xs k)

  laid_at : (h : ℕ) (xs : List X) (k i j : ℕ) → i < length xs → j ≡ h + i → get_or (laid h xs k) j None ≡ slice_get xs i
  unfolding laid
  laid_at zero [] k i j lt e = absurd (omega arith)
  laid_at zero (x ∷ xs) k zero zero lt e = refl
  laid_at zero (x ∷ xs) k zero (suc j) lt e = absurd (omega arith)
  laid_at zero (x ∷ xs) k (suc i) zero lt e = absurd (omega arith)
  laid_at zero (x ∷ xs) k (suc i) (suc j) lt e = laid_at zero xs k i j (omega arith) (omega arith)
  laid_at (suc h) xs k i zero lt e = absurd (omega arith)
  laid_at (suc h) xs k i (suc j) lt e = laid_at h xs k i j lt (omega arith)

  laid_past : (h : ℕ) (xs : List X) (k j : ℕ) → h + length xs ≤ j → get_or (laid h xs k) j None ≡ None
  unfolding laid
  laid_past zero [] k j le = none_at X k j
  laid_past zero (x ∷ xs) k zero le = absurd (omega arith)
  laid_past zero (x ∷ xs) k (suc j) le = laid_past zero xs k j (omega arith)
  laid_past (suc h) xs k zero le = absurd (omega arith)
  laid_past (suc h) xs k (suc j) le = laid_past h xs k j (omega arith)

  laid_push : (h : ℕ) (xs : List X) (k i : ℕ) (v : X) → i ≡ h + length xs → set (laid h xs (suc k)) i (Some v) ≡ laid h (xs ++ v ∷ []) k
  unfolding laid
  laid_push zero [] k zero v e = refl
  laid_push zero [] k (suc i) v e = absurd (omega arith)
  laid_push zero (x ∷ xs) k zero v e = absurd (omega arith)
  laid_push zero (x ∷ xs) k (suc i) v e = ap (λ l. Some x ∷ l) (laid_push zero xs k i v (omega arith))
  laid_push (suc h) xs k zero v e = absurd (omega arith)
  laid_push (suc h) xs k (suc i) v e = ap (λ l. None ∷ l) (laid_push h xs k i v (omega arith))

  laid_pop : (h : ℕ) (x : X) (xs : List X) (k : ℕ) → set (laid h (x ∷ xs) k) h None ≡ laid (suc h) xs k
  unfolding laid
  laid_pop zero x xs k = refl
  laid_pop (suc h) x xs k = ap (λ l. None ∷ l) (laid_pop h x xs k)

  laid_more : (h : ℕ) (xs : List X) (k n : ℕ) → laid h xs k ++ replicate n None ≡ laid h xs (k + n)
  unfolding laid
  laid_more zero [] k n = replicate-append-replicate k n None
  laid_more zero (x ∷ xs) k n = ap (λ l. Some x ∷ l) (laid_more zero xs k n)
  laid_more (suc h) xs k n = ap (λ l. None ∷ l) (laid_more h xs k n)

  laid_cut : (h : ℕ) (xs : List X) (k : ℕ) → (take h (laid h xs k) ≡ replicate h None) × (drop h (laid h xs k) ≡ laid 0 xs k)
  unfolding laid
  laid_cut zero xs k = (refl, refl)
  laid_cut (suc h) xs k = let on = laid_cut h xs k in (ap (λ l. None ∷ l) on.0, on.1)

  laid_none : (h k : ℕ) → laid {X = X} h [] k ≡ replicate (h + k) None
  unfolding laid
  laid_none h k = replicate-append-replicate h k None

  emptied : (ss : List (List (Option X))) (n : ℕ) → AreWhole ss → joined ss ≡ replicate n None → AreEmpty ss
  emptied [] n w e = tt
  emptied (s ∷ ss) n w e =
      let long = ap length e in let split = cut_at s (joined ss) 64 w.0 in
      let none = cut_none X 64 n (n - 64) (omega (arith, w.0, long, length-append s (joined ss), length-replicate {A = Option X} n None)) in
      (sym split.0 ∙ ap (take 64) e ∙ none.0, emptied ss (n - 64) w.1 (sym split.1 ∙ ap (drop 64) e ∙ none.1))

  some_at : (xs : List X) (i : ℕ) → i < length xs → (x : X) × (slice_get xs i ≡ Some x)
  some_at [] i lt = absurd (omega arith)
  some_at (x ∷ xs) zero lt = (x, refl)
  some_at (x ∷ xs) (suc i) lt = some_at xs i (omega arith)

  cut_front : (xs : List X) → 0 < length xs → (x : X) × (ys : List X) × (xs ≡ x ∷ ys)
  cut_front [] lt = absurd (omega arith)
  cut_front (x ∷ xs) lt = (x, xs, refl)

  same_some : (x y : X) → Some x ≡ Some y → x ≡ y
  same_some x y e = cc

  relaid : (row : List (Option X)) (h : ℕ) (xs : List X) (k : ℕ) → row ≡ laid h xs k → (values row ≡ xs) × (row ≡ laid h (values row) k)
  relaid row h xs k e = let same = ap values e ∙ values-laid h xs k in (same, e ∙ sym (ap (λ l. laid h l k) same))

  -- ---- the chain

  pub no_segments : IsChain {X = X} [] 0 0 0
  unfolding laid
  no_segments = record { whole = tt; laid_out = refl; counted = refl; starts = omega arith; few = omega arith }

  pub chain_total : (ss : List (List (Option X))) (h n k : ℕ) → IsChain ss h n k → length (joined ss) ≡ h + n + k
  chain_total ss h n k ch = omega (arith, ap length ch.laid_out, length-laid h (values (joined ss)) k, ch.counted)

  pub chain_small : (ss : List (List (Option X))) (h n k : ℕ) → IsChain ss h n k → h + n + k ≡ 64 * length ss
  chain_small ss h n k ch = omega (arith, chain_total ss h n k ch, length-joined ss ch.whole)

  pub chain_at : (ss : List (List (Option X))) (h n k i : ℕ) → IsChain ss h n k → i < length (values (joined ss)) → get_or (joined ss) (h + i) None ≡ slice_get (values (joined ss)) i
  chain_at ss h n k i ch lt = ap (λ l. get_or l (h + i) None) ch.laid_out ∙ laid_at h (values (joined ss)) k i (h + i) lt refl

  pub chain_filled : (ss : List (List (Option X))) (h n k i : ℕ) → IsChain ss h n k → i < length (values (joined ss)) → (x : X) × (get_or (joined ss) (h + i) None ≡ Some x)
  chain_filled ss h n k i ch lt = let there = some_at (values (joined ss)) i lt in (there.0, chain_at ss h n k i ch lt ∙ there.1)

  pub chain_first : (ss : List (List (Option X))) (h n k : ℕ) → IsChain ss h n k → 0 < n → (x : X) × (get_or (joined ss) h None ≡ Some x)
  chain_first ss h n k ch lt =
      let here : h + 0 ≡ h = omega arith in let there = chain_filled ss h n k 0 ch (omega (arith, ch.counted)) in
      (there.0, sym (ap (λ j. get_or (joined ss) j None) here) ∙ there.1)

  pub chain_end : (ss : List (List (Option X))) (h n k : ℕ) → IsChain ss h n k → get_or (joined ss) (h + n) None ≡ None
  chain_end ss h n k ch = ap (λ l. get_or l (h + n) None) ch.laid_out ∙ laid_past h (values (joined ss)) k (h + n) (omega (arith, ch.counted))

  pub record Becomes (ss : List (List (Option X))) (h n k : ℕ) (xs : List X) : Type 0 where
    pub chain : IsChain ss h n k
    pub items : values (joined ss) ≡ xs

  becomes : (ss : List (List (Option X))) (h n k : ℕ) (xs : List X) → joined ss ≡ laid h xs k → AreWhole ss → n ≡ length xs → h < 64 → length ss ≤ 2 ^ 57 → Becomes ss h n k xs
  becomes ss h n k xs e w c lt few =
      let re = relaid (joined ss) h xs k e in
      record { chain = record { whole = w; laid_out = re.1; counted = c ∙ sym (ap length re.0); starts = lt; few = few }; items = re.0 }

  pub chain_pushed : (ss ts : List (List (Option X))) (h n k : ℕ) (v : X) → IsChain ss h n k → 1 ≤ k → AreWhole ts → joined ts ≡ set (joined ss) (h + n) (Some v) → length ts ≡ length ss
      → Becomes ts h (n + 1) (k - 1) (values (joined ss) ++ v ∷ [])
  chain_pushed ss ts h n k v ch le w e long =
      let room : k ≡ suc (k - 1) = omega arith in let xs = values (joined ss) in
      becomes ts h (n + 1) (k - 1) (xs ++ v ∷ []) (e ∙ ap (λ l. set l (h + n) (Some v)) (ch.laid_out ∙ ap (laid h xs) room) ∙ laid_push h xs (k - 1) (h + n) v (omega (arith, ch.counted)))
      w (omega (arith, ch.counted, length-append xs (v ∷ []))) ch.starts (omega (arith, ch.few))

  pub chain_grown : (ss ts : List (List (Option X))) (h n k : ℕ) → IsChain ss h n k → length ss < 2 ^ 57 → AreWhole ts → joined ts ≡ joined ss ++ replicate 64 None → length ts ≡ length ss + 1
      → Becomes ts h n (k + 64) (values (joined ss))
  chain_grown ss ts h n k ch lt w e long =
      becomes ts h n (k + 64) (values (joined ss)) (e ∙ ap (λ l. l ++ replicate 64 None) ch.laid_out ∙ laid_more h (values (joined ss)) k 64) w ch.counted ch.starts (omega (arith, long))

  pub chain_taken : (ss ts : List (List (Option X))) (h n k : ℕ) (v : X) → IsChain ss h n k → 0 < n → get_or (joined ss) h None ≡ Some v → joined ts ≡ set (joined ss) h None
      → (xs : List X) × (values (joined ss) ≡ v ∷ xs) × (joined ts ≡ laid (h + 1) xs k)
  chain_taken ss ts h n k v ch lt at e =
      let front = cut_front (values (joined ss)) (omega (arith, ch.counted)) in let ys = front.1 in
      let here : h + 0 ≡ h = omega arith in let next : suc h ≡ h + 1 = omega arith in
      let first = sym (ap (λ j. get_or (joined ss) j None) here) ∙ chain_at ss h n k 0 ch (omega (arith, ch.counted)) ∙ ap (λ l. slice_get l 0) front.2 in
      let same = same_some front.0 v (sym first ∙ at) in
      (ys, front.2 ∙ ap (λ x. x ∷ ys) same, e ∙ ap (λ l. set l h None) (ch.laid_out ∙ ap (λ l. laid h l k) front.2) ∙ laid_pop h front.0 ys k ∙ ap (λ j. laid j ys k) next)

  pub chain_popped : (ss ts : List (List (Option X))) (h n k : ℕ) (xs : List X) (v : X) → IsChain ss h n k → values (joined ss) ≡ v ∷ xs → joined ts ≡ laid (h + 1) xs k → AreWhole ts → length ts ≡ length ss → h + 1 < 64
      → Becomes ts (h + 1) (n - 1) k xs
  chain_popped ss ts h n k xs v ch front e w long lt = becomes ts (h + 1) (n - 1) k xs e w (omega (arith, ch.counted, ap length front)) lt (omega (arith, ch.few, long))

  pub chain_freed : (ss ts us : List (List (Option X))) (h n k : ℕ) (xs : List X) (v : X) → IsChain ss h n k → values (joined ss) ≡ v ∷ xs → joined ts ≡ laid (h + 1) xs k → length ts ≡ length ss → h + 1 ≡ 64
      → AreWhole us → joined us ≡ drop 64 (joined ts) → length us + 1 ≡ length ts → Becomes us 0 (n - 1) k xs
  chain_freed ss ts us h n k xs v ch front e long end w f fewer =
      becomes us 0 (n - 1) k xs (f ∙ ap (drop 64) (e ∙ ap (λ j. laid j xs k) end) ∙ (laid_cut 64 xs k).1) w (omega (arith, ch.counted, ap length front)) (omega arith) (omega (arith, ch.few, long, fewer))

  pub chain_passed : (ts : List (List (Option X))) (h k : ℕ) (xs : List X) → joined ts ≡ laid (h + 1) xs k → h + 1 ≡ 64 → take 64 (joined ts) ≡ replicate 64 None
  chain_passed ts h k xs e end = ap (take 64) (e ∙ ap (λ j. laid j xs k) end) ∙ (laid_cut 64 xs k).0

  pub chain_emptied : (ss : List (List (Option X))) (h n k : ℕ) → IsChain ss h n k → values (joined ss) ≡ [] → AreEmpty ss
  chain_emptied ss h n k ch none = emptied ss (h + k) ch.whole (ch.laid_out ∙ ap (λ l. laid h l k) none ∙ laid_none h k)
