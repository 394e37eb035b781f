-- A climb goes on by one value more, or is stuck there.
use Rattle.std.proofs.Common.{◌≡◌, ◌≢◌, ℕ, suc, ◌+◌, ◌<◌, ◌≤◌, ◌==◌, List, [], ◌∷◌, ◌++◌, ◌⊎◌, inl, inr, length, slice_get, Some, refl, sym, ◌∙◌, ap, subst, arith, append_assoc}
use Rattle.std.proofs.lemmas.Bool.{cases_order}
use Rattle.ug_message.specs.Climbing.{IsLeastPlace, ClimbsFrom, ClimbsTo}
use Rattle.ug_hearing.specs.Shifts.{Shift, shift_where, shifts_from, last_place}

pub further : {V : Type 0} (past : List V) (from : ℕ) (places : List ℕ) (vs : List V) (v : V) (place : ℕ) → ClimbsTo past from places vs → IsLeastPlace past (last_place from places) v place
    → ClimbsTo past from (places ++ place ∷ []) (vs ++ v ∷ [])
further past from [] [] v place h least = (least, tt)
further past from [] (w ∷ vs) v place h least = absurd h
further past from (q ∷ places) [] v place h least = absurd h
further past from (q ∷ places) (w ∷ vs) v place h least = (h.0, further past q places vs v place h.1 least)

one_place : {V : Type 0} (past : List V) (from : ℕ) (v : V) (p q : ℕ) → IsLeastPlace past from v p → IsLeastPlace past from v q → p ≡ q
one_place past from v p q h k = by (cases_order p q)
  where
    by : (p ≡ q) ⊎ ((p < q) ⊎ (q < p)) → p ≡ q
    by (inl same) = same
    by (inr (inl less)) = absurd (k.least p h.not_before less h.stands)
    by (inr (inr more)) = absurd (h.least q k.not_before more k.stands)

pub stuck : {V : Type 0} (past : List V) (from : ℕ) (places : List ℕ) (vs : List V) (v : V) → ClimbsTo past from places vs → ((n : ℕ) → last_place from places ≤ n → slice_get past n ≢ Some v)
    → ClimbsFrom past from (vs ++ v ∷ []) → ⊥
stuck past from [] [] v h never climb = never climb.0 climb.1.not_before climb.1.stands
stuck past from [] (w ∷ vs) v h never climb = absurd h
stuck past from (q ∷ places) [] v h never climb = absurd h
stuck {V} past from (q ∷ places) (w ∷ vs) v h never climb =
    stuck past q places vs v h.1 never (subst (λ p. ClimbsFrom past p (vs ++ v ∷ [])) (one_place past from w climb.0 q climb.1 h.0) climb.2)

pub shifts-further : (before message : ℕ) (places : List ℕ) (place : ℕ) → shifts_from before message (places ++ place ∷ [])
    ≡ shifts_from before message places ++ shift_where (place == last_place before places) (message + length places) place
shifts-further before message [] place =
    let none : message ≡ message + 0 = omega arith in
    append_nil (shift_where (place == before) message place) ∙ ap (λ m. shift_where (place == before) m place) none
  where
    append_nil : (xs : List Shift) → xs ++ [] ≡ xs
    append_nil [] = refl
    append_nil (x ∷ xs) = ap (λ (ys : List Shift). x ∷ ys) (append_nil xs)
shifts-further before message (q ∷ places) place =
    let one : message + 1 + length places ≡ message + suc (length places) = omega arith in
    ap (λ (xs : List Shift). shift_where (q == before) message q ++ xs) (shifts-further q (message + 1) places place)
    ∙ (sym (append_assoc (shift_where (q == before) message q) (shifts_from q (message + 1) places) (shift_where (place == last_place q places) (message + 1 + length places) place))
    ∙ ap (λ m. (shift_where (q == before) message q ++ shifts_from q (message + 1) places) ++ shift_where (place == last_place q places) m place) one)
