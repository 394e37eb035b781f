-- A session before its first message.
use Rattle.std.proofs.Common.{◌≡◌, ℕ, zero, suc, ◌<◌, ◌≤◌, Bool, true, false, List, [], ◌∷◌, length, slice_get, drop, Some, None, refl, sym, ◌∙◌, ap, subst, arith}
use Rattle.std.specs.Prelude.{nat_lt, is_some, if◌then◌else◌}
use Rattle.std.proofs.lemmas.Bool.Decides.{nat_tests}
use Rattle.std.proofs.lemmas.List.{length-map}
use Rattle.ug_types.specs.declared.key.Key.{Key}
use Rattle.ug_message.specs.Tables.{Table}
use Rattle.ug_message.specs.Climbing.{values_at}
use Rattle.ug_hearing.specs.declared.change.Change.{Change}
use Rattle.ug_hearing.specs.Pasts.{Value, value_of, value_before, IsToldBy, StandsIn}
use Rattle.ug_hearing.proofs.Searched.{told-here}
use Rattle.ug_hearing.specs.declared.row.Row.{Row}
use Rattle.ug_hearing.specs.declared.standings.Standings.{Standings}
use Rattle.ug_hearing.specs.Courses.{changes_of, passed, start_of, IsCourse}
use Rattle.ug_hearing.specs.Rows.{IsRow, first_row, row_for}
use Rattle.ug_hearing.specs.Heard.{IsSeenBy, IsHeard}
use Rattle.ug_hearing.specs.Keyed.{value_for}

abbrev pub after : Value → ℕ → List Change → Value
after v zero cs = v
after v (suc k) cs = value_of (slice_get cs k)

after_next : (v : Value) (c : Change) (cs : List Change) (k : ℕ) → after c.value k cs ≡ after v (suc k) (c ∷ cs)
after_next v c cs zero = refl
after_next v c cs (suc k) = refl

before_is : (n : ℕ) (cs : List Change) → after None n cs ≡ value_before n cs
before_is zero cs = refl
before_is (suc n) cs = refl

-- from a later place on the past is told by the changes behind it
pub told-from : (xs : List Value) (from : ℕ) (v : Value) (cs : List Change) (n : ℕ) → IsToldBy xs from v cs → from ≤ n → n < length xs → IsToldBy xs n (after v (passed n cs) cs) (drop (passed n cs) cs)
unfolding passed
told-from xs from v [] n h low less = (less, λ k at under. h.1 k (omega arith) under)
told-from xs from v (c ∷ cs) n h low less = by (nat_lt n c.place) refl (λ far. told-from xs c.place c.value cs n h.2 far less)
  where
    by : (b : Bool) → nat_lt n c.place ≡ b → (c.place ≤ n → IsToldBy xs n (after c.value (passed n cs) cs) (drop (passed n cs) cs))
        → IsToldBy xs n (after v (if b then 0 else suc (passed n cs)) (c ∷ cs)) (drop (if b then 0 else suc (passed n cs)) (c ∷ cs))
    by true is rest = (grind (arith, nat_tests, is), (λ k at under. h.1 k (omega arith) under), h.2)
    by false is rest = subst (λ (w : Value). IsToldBy xs n w (drop (passed n cs) cs)) (after_next v c cs (passed n cs)) (rest (grind (arith, nat_tests, is)))

pub stands-from : (xs : List Value) (cs : List Change) (n : ℕ) → IsToldBy xs 0 None cs → n < length xs → StandsIn xs cs (start_of n cs)
stands-from xs cs n h less = subst (λ (v : Value). IsToldBy xs n v (drop (passed n cs) cs)) (before_is (passed n cs) cs) (told-from xs 0 None cs n h (omega arith) less)

some_same : (a b : Value) → Some a ≡ Some b → a ≡ b
some_same a b e = cc

pub begun : (entries : List (Key × List Change)) (from to : ℕ) (past tables : List Table) (st : Standings) → IsCourse entries from to past tables → st.rows ≡ [] → IsHeard entries from to past tables st false []
begun entries from to past tables st course none =
    let starts : (key : Key) → IsRow (values_at key past) (values_at key tables) (changes_of entries key) from to st.moves.items [] (first_row entries from key) = λ key.
    let size = length-map tables (λ (t : Table). t key) in
    let begins = course.begins in
    let ends = course.ends in
    let stands = stands-from (values_at key tables) (changes_of entries key) from (course.told key) (omega arith) in
    record {
      places = [];
      climb = tt;
      count = refl;
      at = omega arith;
      stands = stands;
      within = course.begins;
      moved = refl;
      now =
          some_same (value_before (passed from (changes_of entries key)) (changes_of entries key)) None
          (sym (told-here (values_at key tables) from (value_before (passed from (changes_of entries key)) (changes_of entries key)) (drop (passed from (changes_of entries key)) (changes_of entries key)) stands) ∙ course.empty key);
    }
    in
    record {
      rows = λ key. subst (λ (rs : List (Key × Row)). IsRow (values_at key past) (values_at key tables) (changes_of entries key) from to st.moves.items [] (row_for rs entries from key)) (sym none) (starts key);
      named = λ key. ap (λ (rs : List (Key × Row)). is_some (value_for rs key)) none;
      seen = λ key. subst (λ (rs : List (Key × Row)). IsSeenBy st.refreshes (value_for rs key)) (sym none) tt;
      stale = λ key. refl;
    }
