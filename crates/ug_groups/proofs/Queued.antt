-- Who stands in a queue, and with what rest, after steps of the queue.
use Rattle.std.proofs.Common.{◌≡◌, ℕ, ◌+◌, ◌-◌, ◌<◌, inl, inr, Bool, true, false, List, [], ◌∷◌, length, drop, Option, Some, None, is_some, refl, sym, ap, subst, ◌∙◌, arith, nat_eq}
use Rattle.std.specs.Prelude.{◌==◌}
use Rattle.std.specs.Prelude.{cond}
use Rattle.std.specs.Map.{lookup, keys_of}
use Rattle.std.specs.List.Sorted.{IsStrictlySortedBy}
use Rattle.std.specs.Ordering.{nat_cmp}
use Rattle.std.proofs.lemmas.Bool.{cases_eq}
use Rattle.std.proofs.lemmas.Bool.Decides.{nat_tests}
use Rattle.ug_queue.specs.Queues.{Queued, is_member, place_of, from_place, rest_of, passed, shed, with_member, without_member, one_on, past_next}
use Rattle.ug_queue.proofs.Rests.{rests}
use Rattle.ug_queue.proofs.MemberRests.{members}
use Rattle.ug_queue.proofs.Placed.{is_some-mapped}
use Rattle.ug_queue.proofs.Members.{itself}

-- numbers that differ
pub apart-test : (a b : ℕ) → (a ≡ b → ⊥) → (a == b) ≡ false
apart-test a b apart = by (a == b) refl
  where
    by : (t : Bool) → (a == b) ≡ t → (a == b) ≡ false
    by true e = absurd (apart (same a b e))
      where
        same : (a b : ℕ) → nat_eq a b ≡ true → a ≡ b
        same a b e = grind (arith, nat_tests)
    by false e = e

module _ {P : Type 0} where
  pub shed-some : (q : Queued P) (m : ℕ) → is_some (place_of (shed q) m) ≡ is_some (place_of q m)
  shed-some q m = is_some-mapped (is_member m) (λ p. p - passed q) q.places

  pub shed-rest : (q : Queued P) (m : ℕ) → rest_of (shed q) m ≡ rest_of q m
  shed-rest q m = rests.kept q m

  -- one takes its next packet
  next-place : (q : Queued P) (m : ℕ) → is_some (place_of (past_next q m) m) ≡ is_some (place_of q m)
  next-place q m = by (place_of q m) refl
    where
      by : (o : Option ℕ) → place_of q m ≡ o → is_some (place_of (one_on q m o) m) ≡ is_some (place_of q m)
      by None e = refl
      by (Some place) e = ap is_some (members.joined q m (place + 1)) ∙ sym (ap is_some e)

  pub next-some : (q : Queued P) (m n : ℕ) → is_some (place_of (past_next q m) n) ≡ is_some (place_of q n)
  next-some q m n =
      elim (cases_eq n m) [
        | inl same ↦ subst (λ (k : ℕ). is_some (place_of (past_next q m) k) ≡ is_some (place_of q k)) (sym same) (next-place q m)
        | inr apart ↦ ap is_some (members.beside_advanced q m n (apart-test n m apart))
      ]

  next-packets : (q : Queued P) (m : ℕ) → (past_next q m).packets ≡ q.packets
  next-packets q m = by (place_of q m)
    where
      by : (o : Option ℕ) → (one_on q m o).packets ≡ q.packets
      by None = refl
      by (Some place) = refl

  pub next-limit : (q : Queued P) (m : ℕ) → (past_next q m).limit ≡ q.limit
  next-limit q m = by (place_of q m)
    where
      by : (o : Option ℕ) → (one_on q m o).limit ≡ q.limit
      by None = refl
      by (Some place) = refl

  pub next-others : (q : Queued P) (m n : ℕ) → (n ≡ m → ⊥) → rest_of (past_next q m) n ≡ rest_of q n
  next-others q m n apart =
      ap (λ (l : List P). from_place l (place_of (past_next q m) n)) (next-packets q m)
      ∙ ap (from_place q.packets) (members.beside_advanced q m n (apart-test n m apart))

  pub next-rest : (q : Queued P) (m : ℕ) → rest_of (past_next q m) m ≡ drop 1 (rest_of q m)
  next-rest q m = members.advanced_rest q m

-- a queue with a member has places
pub some-places : (m : ℕ) (es : List (ℕ × ℕ)) → is_some (lookup (is_member m) es) ≡ true → 0 < length es
some-places m [] e = absurd cc
some-places m (x ∷ es) e = omega arith

-- ---- one goes

module _ {P : Type 0} where
  pub left-some : (q : Queued P) (m n : ℕ) → (n ≡ m → ⊥) → is_some (place_of (shed (without_member q m)) n) ≡ is_some (place_of q n)
  left-some q m n apart = shed-some (without_member q m) n ∙ ap is_some (members.beside_left q m n (apart-test n m apart))

  pub left-none : (q : Queued P) (m : ℕ) → IsStrictlySortedBy nat_cmp (keys_of q.places) → is_some (place_of (shed (without_member q m)) m) ≡ false
  left-none q m sorted = shed-some (without_member q m) m ∙ ap is_some (members.left q m sorted)

  pub left-rest : (q : Queued P) (m n : ℕ) → (n ≡ m → ⊥) → rest_of (shed (without_member q m)) n ≡ rest_of q n
  left-rest q m n apart = shed-rest (without_member q m) n ∙ ap (from_place q.packets) (members.beside_left q m n (apart-test n m apart))

  -- ---- one comes, at the end
  pub joined-here : (q : Queued P) (m : ℕ) → is_some (place_of (with_member q m (length q.packets)) m) ≡ true
  joined-here q m = ap is_some (members.joined q m (length q.packets))

  pub joined-some : (q : Queued P) (m n : ℕ) → (n ≡ m → ⊥) → is_some (place_of (with_member q m (length q.packets)) n) ≡ is_some (place_of q n)
  joined-some q m n apart = ap is_some (members.beside_joined q m (length q.packets) n (apart-test n m apart))

  pub joined-first : (q : Queued P) (m : ℕ) → rest_of (with_member q m (length q.packets)) m ≡ []
  joined-first q m = members.joined_rest q m

  pub joined-rest : (q : Queued P) (m n : ℕ) → (n ≡ m → ⊥) → rest_of (with_member q m (length q.packets)) n ≡ rest_of q n
  joined-rest q m n apart = ap (from_place q.packets) (members.beside_joined q m (length q.packets) n (apart-test n m apart))

-- the first of the places is a member's
pub first-queued : (x : ℕ × ℕ) (es : List (ℕ × ℕ)) → is_some (lookup (is_member x.0) (x ∷ es)) ≡ true
first-queued x es = ap (λ (b : Bool). is_some (cond b (Some x.1) (lookup (is_member x.0) es))) (itself x.0)
