-- A key that was visited, and the others.
use Rattle.std.proofs.Common.{◌≡◌, ℕ, suc, ◌<◌, ◌==◌, inl, inr, Bool, true, false, List, [], ◌∷◌, ◌++◌, length, drop, reverse, slice_get, Option, Some, None, sym, ◌∙◌, ap, subst, arith}
use Rattle.std.specs.Prelude.{unwrap_or}
use Rattle.std.proofs.lemmas.Bool.{cases_lt}
use Rattle.std.proofs.lemmas.Bool.Decides.{nat_tests}
use Rattle.std.proofs.lemmas.List.{append-nil}
use Rattle.ug_types.specs.declared.key.Key.{Key}
use Rattle.ug_types.specs.Keys.{same_key}
use Rattle.ug_message.specs.Tables.{Table}
use Rattle.ug_message.specs.Climbing.{values_at}
use Rattle.ug_hearing.specs.declared.change.Change.{Change}
use Rattle.ug_hearing.specs.declared.change.Standing.{Standing}
use Rattle.ug_hearing.specs.Pasts.{Value, value_before, StandsIn, Climbs}
use Rattle.ug_hearing.specs.Shifts.{shifts_from}
use Rattle.ug_hearing.proofs.Searched.{told-here}
use Rattle.ug_hearing.specs.declared.row.Row.{Row}
use Rattle.ug_hearing.specs.declared.row.Moved.{Moved}
use Rattle.ug_hearing.specs.declared.standings.Standings.{Standings}
use Rattle.ug_hearing.specs.Courses.{changes_of, IsCourse}
use Rattle.ug_hearing.specs.Rows.{IsChain, IsRow, row_for, first_row, IsNoted}
use Rattle.ug_hearing.specs.Visits.{IsVisit}
use Rattle.ug_hearing.specs.Passes.{HasRow, CantClimb}
use Rattle.ug_hearing.proofs.Going.{last-value, goes, stops, row-more}

-- moves only grow
record Grew (old new : List Moved) : Type 0 where
  more : List Moved
  is : new ≡ old ++ more

grew_noted : (b : Bool) (old new : List Moved) (message from : ℕ) (row to : Row) → IsNoted b old new message from row to → Grew old new
grew_noted true old new message from row to h = record { more = []; is = h.0 ∙ sym (append-nil old) }
grew_noted false old new message from row to h = record { more = _; is = h.0 }

-- a row that stands as another, with the same moves
as_row : (past tables : List Value) (changes : List Change) (from to : ℕ) (moves now : List Moved) (values : List Value) (row t : Row) → now ≡ moves → t.standing ≡ row.standing → t.moved ≡ row.moved
    → IsRow past tables changes from to moves values row → IsRow past tables changes from to now values t
as_row past tables changes from to moves now values row t same standing moved h = record {
  places = h.places;
  climb = h.climb;
  count = h.count;
  at = h.at ∙ sym (ap (λ (s : Standing). s.place) standing);
  stands = subst (λ (s : Standing). StandsIn tables changes s) (sym standing) h.stands;
  within = subst (λ (s : Standing). s.place < to) (sym standing) h.within;
  moved = subst (λ (ms : List Moved). IsChain ms t.moved (reverse (shifts_from 0 1 h.places))) (sym same) (subst (λ n. IsChain moves n (reverse (shifts_from 0 1 h.places))) (sym moved) h.moved);
  now = ap (λ (s : Standing). value_before s.next changes) standing ∙ h.now;
}

is_same : (a b : ℕ) → a ≡ b → (a == b) ≡ true
is_same a b same = grind (arith, nat_tests, same)

-- the value that a row has, where it stands
here_now : (past tables : List Value) (changes : List Change) (from to : ℕ) (moves : List Moved) (values : List Value) (v : Value) (row : Row) → IsRow past tables changes from to moves (values ++ v ∷ []) row
    → slice_get tables row.standing.place ≡ Some v
here_now past tables changes from to moves values v row h =
    told-here tables row.standing.place (value_before row.standing.next changes) (drop row.standing.next changes) h.stands ∙ ap Some (h.now ∙ last-value None values v)

-- a climb to the value that is there stays
still_there : (tables : List Value) (changes : List Change) (s t : Standing) (v : Value) → slice_get tables s.place ≡ Some v → Climbs tables changes s v t → s.place ≡ t.place
still_there tables changes s t v is h =
    let low = h.least.not_before in
    elim (cases_lt s.place t.place) [ inl less ↦ absurd (h.least.least s.place (omega arith) less is) | inr far ↦ omega arith ]

module _ (entries : List (Key × List Change)) (from to message : ℕ) (key : Key) (v : Value) (old new : Standings) where
  grew : (could : Bool) → IsVisit entries from to message key v old new could → Grew old.moves.items new.moves.items
  grew true h = grew_noted (_ == _) old.moves.items new.moves.items message from (row_for old.rows entries from key) h.row h.went.2
  grew false h = record { more = []; is = h.went.1 ∙ sym (append-nil old.moves.items) }

  pub row_is : (could : Bool) (h : IsVisit entries from to message key v old new could) → row_for new.rows entries from key ≡ h.row
  row_is could h = ap (λ (o : Option Row). unwrap_or o (first_row entries from key)) h.there

  module _ (past tables : List Table) (course : IsCourse entries from to past tables) (values : List Value) (number : message ≡ suc (length values)) where
    pub reached : (h : IsVisit entries from to message key v old new true) → HasRow entries from to past tables old key values → HasRow entries from to past tables new key (values ++ v ∷ [])
    reached h is =
        subst (λ (r : Row). IsRow (values_at key past) (values_at key tables) (changes_of entries key) from to new.moves.items (values ++ v ∷ []) r) (sym (row_is true h))
        (goes (values_at key past) (values_at key tables) (changes_of entries key) from to (course.part key) old.moves.items values (row_for old.rows entries from key) is v h.row new.moves.items
        (h.went.0 (values_at key tables) is.stands) h.went.1
        (subst (λ k. IsNoted ((row_for old.rows entries from key).standing.place == h.row.standing.place) old.moves.items new.moves.items k from (row_for old.rows entries from key) h.row) number h.went.2))

    pub cant : (h : IsVisit entries from to message key v old new false) → HasRow entries from to past tables old key values → CantClimb entries from to past tables key (values ++ v ∷ [])
    cant h is =
        stops (values_at key past) (values_at key tables) (changes_of entries key) from to (course.part key) old.moves.items values (row_for old.rows entries from key) is v
        (h.went.0 (values_at key tables) is.stands)

    pub stands_still : (h : IsVisit entries from to message key v old new false) → HasRow entries from to past tables old key values → HasRow entries from to past tables new key values
    stands_still h is =
        subst (λ (r : Row). IsRow (values_at key past) (values_at key tables) (changes_of entries key) from to new.moves.items values r) (sym (row_is false h))
        (as_row (values_at key past) (values_at key tables) (changes_of entries key) from to old.moves.items new.moves.items values (row_for old.rows entries from key) h.row h.went.1 h.went.2 h.went.3 is)

    pub again : (h : IsVisit entries from to message key v old new true) → HasRow entries from to past tables old key (values ++ v ∷ []) → HasRow entries from to past tables new key (values ++ v ∷ [])
    again h is =
        let row = row_for old.rows entries from key in
        let climbs = h.went.0 (values_at key tables) is.stands in
        let there = here_now (values_at key past) (values_at key tables) (changes_of entries key) from to old.moves.items values v row is in
        let same = still_there (values_at key tables) (changes_of entries key) row.standing h.row.standing v there climbs in
        let noted = subst (λ (b : Bool). IsNoted b old.moves.items new.moves.items message from row h.row) (is_same row.standing.place h.row.standing.place same) h.went.2 in
        subst (λ (r : Row). IsRow (values_at key past) (values_at key tables) (changes_of entries key) from to new.moves.items (values ++ v ∷ []) r) (sym (row_is true h))
        (record {
          places = is.places;
          climb = is.climb;
          count = is.count;
          at = is.at ∙ same;
          stands = climbs.stands;
          within = h.went.1;
          moved =
              subst (λ (ms : List Moved). IsChain ms h.row.moved (reverse (shifts_from 0 1 is.places))) (sym noted.0)
              (subst (λ n. IsChain old.moves.items n (reverse (shifts_from 0 1 is.places))) (sym noted.1) is.moved);
          now = climbs.value ∙ sym (last-value None values v);
        })

    pub never_again : (h : IsVisit entries from to message key v old new false) → HasRow entries from to past tables old key (values ++ v ∷ []) → ⊥
    never_again h is =
        let row = row_for old.rows entries from key in
        h.went.0 (values_at key tables) is.stands row.standing.place (omega arith) is.within (here_now (values_at key past) (values_at key tables) (changes_of entries key) from to old.moves.items values v row is)

  pub other : (could : Bool) (h : IsVisit entries from to message key v old new could) (past tables : List Table) (q : Key) (ws : List Value) → same_key key q ≡ false
      → HasRow entries from to past tables old q ws → HasRow entries from to past tables new q ws
  other could h past tables q ws differs is =
      let more = grew could h in
      let same : row_for old.rows entries from q ≡ row_for new.rows entries from q = sym (ap (λ (o : Option Row). unwrap_or o (first_row entries from q)) (h.others q differs)) in
      subst (λ (ms : List Moved). IsRow (values_at q past) (values_at q tables) (changes_of entries q) from to ms ws (row_for new.rows entries from q)) (sym more.is)
      (subst (λ (r : Row). IsRow (values_at q past) (values_at q tables) (changes_of entries q) from to (old.moves.items ++ more.more) ws r) same
      (row-more (values_at q past) (values_at q tables) (changes_of entries q) from to old.moves.items more.more ws (row_for old.rows entries from q) is))
