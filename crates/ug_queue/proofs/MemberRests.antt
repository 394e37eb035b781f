-- What members have still to take, after one of them came, took a packet, or went.
use Rattle.std.proofs.Common.{◌≡◌, ℕ, ◌+◌, false, cond, List, [], ◌∷◌, length, drop, Option, Some, None, refl, sym, ap, ◌∙◌, nat_eq}
use Rattle.std.specs.Map.{lookup, keys_of}
use Rattle.std.specs.Cmp.{eq_by_cmp_equiv}
use Rattle.std.specs.List.Sorted.{IsStrictlySortedBy}
use Rattle.std.specs.Ordering.{nat_cmp}
use Rattle.std.proofs.Math.Seq.{drop-drop}
use Rattle.std.proofs.lemmas.Cmp.{nat_cmp_total}
use Rattle.std.proofs.lemmas.Map.{lookup-remove_entry}
use Rattle.std.proofs.lemmas.Map.Keys.{IsDistinct-from_sorted}
use Rattle.ug_queue.specs.Queues.{Queued, is_member, place_of, from_place, rest_of, with_member, without_member, one_on, past_next}
use Rattle.ug_queue.specs.Rests.{MemberLaws}
use Rattle.ug_queue.proofs.Members.{is_same, itself, is_one, come_here, come_other, gone_other}

module _ {P : Type 0} where
  drop_all : (xs : List P) → drop (length xs) xs ≡ []
  drop_all [] = refl
  drop_all (x ∷ xs) = drop_all xs

  nothing_left : (q : Queued P) (m : ℕ) → rest_of (with_member q m (length q.packets)) m ≡ []
  nothing_left q m = ap (from_place q.packets) (come_here m (length q.packets) q.places) ∙ drop_all q.packets

  one_less : (q : Queued P) (m : ℕ) → rest_of (past_next q m) m ≡ drop 1 (rest_of q m)
  one_less q m = by (place_of q m) refl
    where
      by : (o : Option ℕ) → place_of q m ≡ o → rest_of (one_on q m o) m ≡ drop 1 (from_place q.packets o)
      by None e = ap (from_place q.packets) e
      by (Some place) e = ap (from_place q.packets) (come_here m (place + 1) q.places) ∙ sym (drop-drop 1 place q.packets)

  beside_next : (q : Queued P) (m n : ℕ) → nat_eq n m ≡ false → place_of (past_next q m) n ≡ place_of q n
  beside_next q m n apart = by (place_of q m)
    where
      by : (o : Option ℕ) → place_of (one_on q m o) n ≡ place_of q n
      by None = refl
      by (Some place) = come_other n m (place + 1) q.places (is_same n m ∙ apart)

  gone : (q : Queued P) (m : ℕ) → IsStrictlySortedBy nat_cmp (keys_of q.places) → place_of (without_member q m) m ≡ None
  gone q m sorted =
      lookup-remove_entry (eq_by_cmp_equiv nat_cmp_total) (is_member m) (λ x y e. ap (λ k. is_member k y) (is_one m x e)) m q.places (IsDistinct-from_sorted nat_cmp (keys_of q.places) sorted)
      ∙ ap (λ b. cond b None (lookup (is_member m) q.places)) (itself m)

  pub members : MemberLaws P
  members = record {
    joined = λ q m place. come_here m place q.places;
    joined_rest = nothing_left;
    advanced_rest = one_less;
    left = gone;
    beside_joined = λ q m place n apart. come_other n m place q.places (is_same n m ∙ apart);
    beside_advanced = beside_next;
    beside_left = λ q m n apart. gone_other n m q.places (is_same n m ∙ apart);
  }
