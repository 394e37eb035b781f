-- A list walked by places.
use Rattle.std.proofs.Common.{◌≡◌, ℕ, zero, suc, ◌+◌, ◌≤◌, List, [], ◌∷◌, ◌++◌, length, take, drop, slice_get, Some, sym, ◌∙◌, ap, arith}
use Rattle.std.proofs.lemmas.List.{take_more, drop_more, append-nil, take-append-drop}
use Rattle.std.proofs.lemmas.Option.{slice_get_within, get_or_from_slice_get}
use Rattle.std.specs.Map.{keys_of}
use Rattle.ug_types.specs.declared.key.Key.{Key}
use Rattle.ug_hearing.specs.Keyed.{IsPlaceOf}
use Rattle.ug_hearing.proofs.Between.{take-past}

module _ {X : Type 0} (all : List X) (i : ℕ) where
  -- what is left begins with what stands at the place
  pub left-at : (e : X) → slice_get all i ≡ Some e → drop i all ≡ e ∷ drop (i + 1) all
  left-at e is = drop_more all i e (slice_get_within all i e is) ∙ ap (λ (x : X). x ∷ drop (i + 1) all) (get_or_from_slice_get all i e e is)

  -- one more was seen
  pub seen-at : (e : X) → slice_get all i ≡ Some e → take (i + 1) all ≡ take i all ++ e ∷ []
  seen-at e is = take_more all i e (slice_get_within all i e is) ∙ ap (λ (x : X). take i all ++ x ∷ []) (get_or_from_slice_get all i e e is)

  -- what was seen, what stands at the place, and what is left
  pub parted-at : (e : X) → slice_get all i ≡ Some e → take i all ++ e ∷ drop (i + 1) all ≡ all
  parted-at e is = ap (λ (xs : List X). take i all ++ xs) (sym (left-at e is)) ∙ take-append-drop i all

  -- all was seen
  pub seen-all : length all ≤ i → take i all ++ [] ≡ all
  seen-all far = append-nil (take i all) ∙ take-past all i far

-- a key stands only where there is an entry, and it is that entry's
pub none-beyond : {X : Type 0} (all : List (Key × X)) (i : ℕ) (q : Key) → length all ≤ i → IsPlaceOf q (keys_of all) i → ⊥
none-beyond [] i q far there = absurd cc
none-beyond (e ∷ all) zero q far there = omega (arith, far)
none-beyond (e ∷ all) (suc i) q far there = none-beyond all i q (omega (arith, far)) there

pub key-at : {X : Type 0} (all : List (Key × X)) (i : ℕ) (e : Key × X) (q : Key) → slice_get all i ≡ Some e → IsPlaceOf q (keys_of all) i → e.0 ≡ q
key-at [] i e q is there = absurd cc
key-at (x ∷ all) zero e q is there = cc
key-at (x ∷ all) (suc i) e q is there = key-at all i e q is there
