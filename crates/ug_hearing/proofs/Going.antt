-- A row goes on by one value more.
use Rattle.std.proofs.Common.{◌≡◌, ◌≢◌, ℕ, zero, suc, ◌+◌, ◌-◌, ◌<◌, ◌≤◌, ◌==◌, inl, inr, Bool, true, false, List, [], ◌∷◌, ◌++◌, length, take, drop, reverse, slice_get, Some, None, refl, sym, ◌∙◌, ap, subst, arith, length-append}
use Rattle.std.proofs.lemmas.Bool.Decides.{nat_tests}
use Rattle.std.proofs.lemmas.List.{append-nil, reverse-append}
use Rattle.std.proofs.lemmas.Bool.{cases_eq}
use Rattle.ug_message.specs.Climbing.{IsLeastPlace, ClimbsFrom}
use Rattle.ug_hearing.specs.declared.change.Change.{Change}
use Rattle.ug_hearing.specs.declared.change.Standing.{Standing}
use Rattle.ug_hearing.specs.Pasts.{Value, value_before, Climbs}
use Rattle.ug_hearing.specs.Shifts.{Shift, shift_where, shifts_from, last_place}
use Rattle.ug_hearing.proofs.GoingOn.{further, stuck, shifts-further}
use Rattle.ug_hearing.proofs.Searched.{stays}
use Rattle.ug_hearing.specs.declared.row.Row.{Row}
use Rattle.ug_hearing.specs.declared.row.Moved.{Moved}
use Rattle.ug_hearing.specs.Rows.{IsChain, last_value, IsRow, IsNoted}
use Rattle.ug_hearing.proofs.Parts.{part-least, part-never}

last-pushed : (before : ℕ) (places : List ℕ) (place : ℕ) → last_place before (places ++ place ∷ []) ≡ place
last-pushed before [] place = refl
last-pushed before (q ∷ places) place = last-pushed q places place

pub last-value : (before : Value) (values : List Value) (v : Value) → last_value before (values ++ v ∷ []) ≡ v
last-value before [] v = refl
last-value before (w ∷ values) v = last-value w values v

get-more : {V : Type 0} (xs more : List V) (i : ℕ) (v : V) → slice_get xs i ≡ Some v → slice_get (xs ++ more) i ≡ Some v
get-more [] more i v is = absurd cc
get-more (x ∷ xs) more zero v is = is
get-more (x ∷ xs) more (suc i) v is = get-more xs more i v is

get-last : {V : Type 0} (xs : List V) (v : V) → slice_get (xs ++ v ∷ []) (length xs) ≡ Some v
get-last [] v = refl
get-last (x ∷ xs) v = get-last xs v

there-less : {V : Type 0} (xs : List V) (i : ℕ) (v : V) → slice_get xs i ≡ Some v → i < length xs
there-less [] i v is = absurd cc
there-less (x ∷ xs) zero v is = omega arith
there-less (x ∷ xs) (suc i) v is = let rest = there-less xs i v is in omega arith

chain-more : (moves more : List Moved) (n : ℕ) (shifts : List Shift) → IsChain moves n shifts → IsChain (moves ++ more) n shifts
chain-more moves more n [] h = h
chain-more moves more n (s ∷ older) h = (h.0, h.1, h.2, get-more moves more h.0 h.1 h.3, h.4, h.5, h.6, chain-more moves more h.1.before older h.7)

chain-few : (moves : List Moved) (n : ℕ) (shifts : List Shift) → IsChain moves n shifts → n ≤ length moves
chain-few moves n [] h = omega (arith, h)
chain-few moves n (s ∷ older) h = let less = there-less moves h.0 h.1 h.3 in let is = h.2 in omega arith

reverse-last : (xs : List Shift) (s : Shift) → reverse (xs ++ s ∷ []) ≡ s ∷ reverse xs
reverse-last xs s = reverse-append xs (s ∷ [])

is_same : (a b : ℕ) → a ≡ b → (a == b) ≡ true
is_same a b same = grind (arith, nat_tests, same)

is_other : (a b : ℕ) → a ≢ b → (a == b) ≡ false
is_other a b differs = grind (arith, nat_tests, differs)

still_as : (from l r t : ℕ) → from + l ≡ r → r ≤ t → (t - from == l) ≡ (r == t)
still_as from l r t at low =
    elim (cases_eq r t) [
      | inl same ↦ is_same (t - from) l (omega arith) ∙ sym (is_same r t same)
      | inr other ↦ is_other (t - from) l (λ e. other (omega arith)) ∙ sym (is_other r t other)
    ]

module _ (past tables : List Value) (changes : List Change) (from to : ℕ) (part : past ≡ take (to - from) (drop from tables)) (moves : List Moved) (values : List Value) (row : Row) (is : IsRow past tables changes from to moves values row) (v : Value) where
  least_there : (t : Standing) → Climbs tables changes row.standing v t → t.place < to → IsLeastPlace past (last_place 0 is.places) v (t.place - from)
  least_there t h within =
      let low = h.least.not_before in
      let at = is.at in
      let place : from + (t.place - from) ≡ t.place = omega arith in
      subst (λ (xs : List Value). IsLeastPlace xs (last_place 0 is.places) v (t.place - from)) (sym part)
      (part-least tables from to (last_place 0 is.places) (t.place - from) v
      (subst (λ p. IsLeastPlace tables (from + last_place 0 is.places) v p) (sym place) (subst (λ q. IsLeastPlace tables q v t.place) (sym at) h.least)) (omega arith))

  noted_by : (b : Bool) (t : Row) (new : List Moved) → (row.standing.place == t.standing.place) ≡ b → from ≤ t.standing.place → IsNoted b moves new (suc (length values)) from row t
      → IsChain new t.moved (reverse (shifts_from 0 1 is.places ++ shift_where b (1 + length is.places) (t.standing.place - from)))
  noted_by true t new same low h =
      subst (λ (ms : List Moved). IsChain ms t.moved (reverse (shifts_from 0 1 is.places ++ []))) (sym h.0)
      (subst (λ n. IsChain moves n (reverse (shifts_from 0 1 is.places ++ []))) (sym h.1) (subst (λ (ss : List Shift). IsChain moves row.moved (reverse ss)) (sym (append-nil (shifts_from 0 1 is.places))) is.moved))
  noted_by false t new differs low h =
      let s : Shift = record { message = 1 + length is.places; place = t.standing.place - from } in
      let m : Moved = record { message = suc (length values); place = t.standing.place - from; before = row.moved } in
      let count = is.count in
      let few = chain-few moves row.moved (reverse (shifts_from 0 1 is.places)) is.moved in
      let size : length (moves ++ m ∷ []) ≡ suc (length moves) = length-append moves (m ∷ []) ∙ omega arith in
      let message : suc (length values) ≡ 1 + length is.places = omega arith in
      subst (λ (ss : List Shift). IsChain new t.moved ss) (sym (reverse-last (shifts_from 0 1 is.places) s))
      (subst (λ (ms : List Moved). IsChain ms t.moved (s ∷ reverse (shifts_from 0 1 is.places))) (sym h.0)
      (length moves, m, h.1 ∙ (ap (λ (ms : List Moved). length ms) h.0 ∙ size), get-last moves m, message, refl, few, chain-more moves (m ∷ []) row.moved (reverse (shifts_from 0 1 is.places)) is.moved))

  -- to the least place of the value
  pub goes : (t : Row) (new : List Moved) → Climbs tables changes row.standing v t.standing → t.standing.place < to
      → IsNoted (row.standing.place == t.standing.place) moves new (suc (length values)) from row t → IsRow past tables changes from to new (values ++ v ∷ []) t
  goes t new h within noted =
      let low = h.least.not_before in
      let at = is.at in
      let place = t.standing.place - from in
      let still : (place == last_place 0 is.places) ≡ (row.standing.place == t.standing.place) = still_as from (last_place 0 is.places) row.standing.place t.standing.place at low in
      record {
        places = is.places ++ place ∷ [];
        climb = further past 0 is.places values v place is.climb (least_there t.standing h within);
        count = length-append is.places (place ∷ []) ∙ (ap (λ n. n + 1) is.count ∙ sym (length-append values (v ∷ [])));
        at = ap (λ p. from + p) (last-pushed 0 is.places place) ∙ omega arith;
        stands = h.stands;
        within = within;
        moved =
            subst (λ (ss : List Shift). IsChain new t.moved (reverse ss))
            (sym (shifts-further 0 1 is.places place ∙ ap (λ (b : Bool). shifts_from 0 1 is.places ++ shift_where b (1 + length is.places) place) still))
            (noted_by (row.standing.place == t.standing.place) t new refl (omega arith) noted);
        now = h.value ∙ sym (last-value None values v);
      }

  -- there is none
  pub stops : ((n : ℕ) → row.standing.place ≤ n → n < to → slice_get tables n ≢ Some v) → ClimbsFrom past 0 (values ++ v ∷ []) → ⊥
  stops never climb =
      let at = is.at in
      stuck past 0 is.places values v is.climb
      (subst (λ (xs : List Value). (n : ℕ) → last_place 0 is.places ≤ n → slice_get xs n ≢ Some v) (sym part)
      (part-never tables from to (last_place 0 is.places) v (λ n low less. never n (omega arith) less))) climb

  -- it stays where it has the value already
  pub keeps : value_before row.standing.next changes ≡ v → IsRow past tables changes from to moves (values ++ v ∷ []) row
  keeps same =
      goes row moves (stays tables changes row.standing v is.stands same) is.within
      (subst (λ (b : Bool). IsNoted b moves moves (suc (length values)) from row row) (sym (is_same row.standing.place row.standing.place refl)) (refl, refl))

-- further moves of other keys change nothing
pub row-more : (past tables : List Value) (changes : List Change) (from to : ℕ) (moves more : List Moved) (values : List Value) (row : Row) → IsRow past tables changes from to moves values row
    → IsRow past tables changes from to (moves ++ more) values row
row-more past tables changes from to moves more values row h = record {
  places = h.places;
  climb = h.climb;
  count = h.count;
  at = h.at;
  stands = h.stands;
  within = h.within;
  moved = chain-more moves more row.moved (reverse (shifts_from 0 1 h.places)) h.moved;
  now = h.now;
}
