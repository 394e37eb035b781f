-- What a message does to all rows.
use Rattle.std.proofs.Common.{◌≡◌, ℕ, suc, ◌+◌, ◌≤◌, ◌⊎◌, inl, inr, Bool, true, false, List, [], ◌∷◌, ◌++◌, length, slice_get, Option, Some, None, refl, sym, ◌∙◌, ap, subst, arith}
use Rattle.std.specs.Prelude.{◌||◌, ◌&&◌, not, nat_lt, is_some, unwrap_or, if◌then◌else◌}
use Rattle.std.specs.List.{list_any}
use Rattle.std.proofs.lemmas.Bool.Decides.{nat_tests}
use Rattle.std.proofs.lemmas.List.Folds.{list_any-append}
use Rattle.ug_types.specs.declared.key.Key.{Key}
use Rattle.ug_types.specs.Messages.{Changes, Message, Updates, Begins, Ends, Ignored}
use Rattle.ug_message.specs.Tables.{Table, Reading, among, applied, tables_after}
use Rattle.ug_message.specs.Climbing.{values_at}
use Rattle.ug_hearing.specs.declared.change.Change.{Change}
use Rattle.ug_hearing.specs.Pasts.{Value, value_before}
use Rattle.ug_hearing.proofs.Searched.{told-here}
use Rattle.ug_message.specs.ClimbingLaws.{ClimbsFrom-places}
use Rattle.ug_hearing.specs.Certificates.{names}
use Rattle.ug_hearing.specs.declared.row.Row.{Row}
use Rattle.ug_hearing.specs.declared.row.Moved.{Moved}
use Rattle.ug_hearing.specs.declared.standings.Standings.{Standings}
use Rattle.ug_hearing.specs.Keyed.{value_for}
use Rattle.ug_hearing.specs.Courses.{changes_of, IsCourse}
use Rattle.ug_hearing.specs.Rows.{IsRow, row_for, first_row}
use Rattle.ug_hearing.specs.Passes.{HasRow, CantClimb, Passes, ArePassed}
use Rattle.ug_hearing.specs.Heard.{is_stale_row, is_stale_in, IsSeenBy, IsHeard, IsTaken}
use Rattle.ug_hearing.proofs.Among.{or-second}
use Rattle.ug_hearing.proofs.Going.{keeps}
use Rattle.ug_hearing.proofs.Tables.{reading, reading-last, values-last, last-is, values-count}

module _ (entries : List (Key × List Change)) (from to : ℕ) (past tables : List Table) (course : IsCourse entries from to past tables) where
  abbrev Row-of : Standings → Key → List Value → Type 0
  Row-of st key values = HasRow entries from to past tables st key values

  abbrev vs : Key → List Message → List Value
  vs key ms = values_at key (tables_after ms)

  -- a row that stands for its values shows that they climb
  pub climbs : (st : Standings) (key : Key) (values : List Value) → Row-of st key values → CantClimb entries from to past tables key values → ⊥
  climbs st key values h cant = cant (ClimbsFrom-places values (values_at key past) 0 h.places h.climb)

  -- a row stays where its value does
  stays : (st : Standings) (key : Key) (ms : List Message) (v : Value) → (reading ms).table key ≡ v → Row-of st key (vs key ms) → Row-of st key (vs key ms ++ v ∷ [])
  stays st key ms v same h =
      keeps (values_at key past) (values_at key tables) (changes_of entries key) from to (course.part key) st.moves.items (vs key ms) (row_for st.rows entries from key) h v
      (h.now ∙ (last-is key ms ∙ same))

  -- the value that a row has
  pub shown : (st : Standings) (key : Key) (ms : List Message) → Row-of st key (vs key ms) → value_before (row_for st.rows entries from key).standing.next (changes_of entries key) ≡ (reading ms).table key
  shown st key ms h = h.now ∙ last-is key ms

  -- where no message named the key there is no route
  unnamed : (st : Standings) (key : Key) (ms : List Message) → Row-of st key (vs key ms) → value_for st.rows key ≡ None → (reading ms).table key ≡ None
  unnamed st key ms h none =
      let first : row_for st.rows entries from key ≡ first_row entries from key = ap (λ (o : Option Row). unwrap_or o (first_row entries from key)) none in
      let there = told-here (values_at key tables) (row_for st.rows entries from key).standing.place (value_before (row_for st.rows entries from key).standing.next (changes_of entries key)) _ h.stands in
      let place : (row_for st.rows entries from key).standing.place ≡ from = ap (λ (r : Row). r.standing.place) first in
      let empty : slice_get (values_at key tables) (row_for st.rows entries from key).standing.place ≡ Some None = ap (λ k. slice_get (values_at key tables) k) place ∙ course.empty key in
      sym (shown st key ms h) ∙ some_none (sym there ∙ empty)
    where
      some_none : {v : Value} → Some v ≡ Some None → v ≡ None
      some_none e = cc

  and_false : (b : Bool) → (b && false) ≡ false
  and_false true = refl
  and_false false = refl

  and_true : (b : Bool) → (b && true) ≡ b
  and_true true = refl
  and_true false = refl

  or_none : (b : Bool) → (b || false) ≡ b
  or_none true = refl
  or_none false = refl

  -- ---- rows that were visited, and rows that weren't

  module _ {message : ℕ} (keys : List Key) (v : Value) (before failed : List Key) (old new : Standings) (h : ArePassed entries from to message keys v before failed old new) where
    seen_now : (o : Option Row) (first : Row) (n : ℕ) → (unwrap_or o first).seen ≡ n → IsSeenBy n o
    seen_now None first n is = tt
    seen_now (Some row) first n is = omega (arith, is)

    pass_seen : (q : Key) → IsSeenBy old.refreshes (value_for old.rows q) → IsSeenBy new.refreshes (value_for new.rows q)
    pass_seen q is = by (among keys q) refl
      where
        by : (b : Bool) → among keys q ≡ b → IsSeenBy new.refreshes (value_for new.rows q)
        by true e = seen_now (value_for new.rows q) (first_row entries from q) new.refreshes (h.seen q e)
        by false e = subst (λ (o : Option Row). IsSeenBy new.refreshes o) (sym (h.unseen q e)) (subst (λ n. IsSeenBy n (value_for old.rows q)) (sym h.refreshes) is)

    fresh_now : (changes : List Change) (o : Option Row) (first : Row) (n : ℕ) → (unwrap_or o first).seen ≡ n → is_stale_row n changes o ≡ false
    fresh_now changes None first n is = refl
    fresh_now changes (Some row) first n is = let none : nat_lt row.seen n ≡ false = grind (arith, nat_tests, is) in ap (λ (b : Bool). b && is_some (value_before row.standing.next changes)) none

    pass_fresh : (q : Key) → among keys q ≡ true → is_stale_in new.refreshes entries new.rows q ≡ false
    pass_fresh q is = fresh_now (changes_of entries q) (value_for new.rows q) (first_row entries from q) new.refreshes (h.seen q is)

    pass_same : (q : Key) → among keys q ≡ false → is_stale_in new.refreshes entries new.rows q ≡ is_stale_in old.refreshes entries old.rows q
    pass_same q isnt = ap (λ (o : Option Row). is_stale_row new.refreshes (changes_of entries q) o) (h.unseen q isnt) ∙ ap (λ n. is_stale_row n (changes_of entries q) (value_for old.rows q)) h.refreshes

  -- ---- an UPDATE

  module _ (u : Changes) (ms : List Message) (gone : List Key) (old st new : Standings) (failed failed' : List Key)
      (is_gone : (q : Key) → among gone q ≡ (among u.withdrawn q && not (among u.announced q)))
      (one : ArePassed entries from to (suc (length ms)) u.announced u.attrs [] failed old st) (two : ArePassed entries from to (suc (length ms)) gone None failed failed' st new)
      (refreshing : Bool) (heard : IsHeard entries from to past tables old refreshing ms) where
    abbrev m : Message
    m = Updates u

    abbrev after : Reading
    after = applied (reading ms) m

    numbers : (q : Key) → suc (length ms) ≡ suc (length (vs q ms))
    numbers q = ap suc (sym (values-count q ms))

    -- how the key stands in the end
    abbrev Ends-so : Key → Value → Type 0
    Ends-so q v = Row-of new q (vs q ms ++ v ∷ []) ⊎ ((among failed' q ≡ true) × CantClimb entries from to past tables q (vs q ms ++ v ∷ []))

    first_pass : (q : Key) → Passes entries from to past tables (among u.announced q) failed u.attrs old st q (vs q ms)
    first_pass q = (one.passes past tables course (λ k. vs k ms) numbers q).0

    second_pass : (q : Key) → Passes entries from to past tables (among gone q) failed' None st new q (vs q ms)
    second_pass q = (two.passes past tables course (λ k. vs k ms) numbers q).0

    ends_by : (q : Key) (a w : Bool) → among u.announced q ≡ a → among u.withdrawn q ≡ w → Ends-so q (if a then u.attrs else (if w then None else (reading ms).table q))
    ends_by q true w ea ew =
        let pass = subst (λ (b : Bool). Passes entries from to past tables b failed u.attrs old st q (vs q ms)) ea (first_pass q) in
        let isnt : among gone q ≡ false = is_gone q ∙ (ap (λ (b : Bool). among u.withdrawn q && not b) ea ∙ and_false (among u.withdrawn q)) in
        let next = subst (λ (b : Bool). Passes entries from to past tables b failed' None st new q (vs q ms)) isnt (second_pass q) in
        elim (pass (inl (heard.rows q))) [
          | inl has ↦ inl (next (vs q ms ++ u.attrs ∷ []) has)
          | inr fails ↦ inr (two.kept q fails.0, fails.1)
        ]
      where
        and_false : (b : Bool) → (b && false) ≡ false
        and_false true = refl
        and_false false = refl
    ends_by q false true ea ew =
        let pass = subst (λ (b : Bool). Passes entries from to past tables b failed u.attrs old st q (vs q ms)) ea (first_pass q) in
        let is : among gone q ≡ true = is_gone q ∙ (ap (λ (b : Bool). among u.withdrawn q && not b) ea ∙ ap (λ (b : Bool). b && true) ew) in
        let next = subst (λ (b : Bool). Passes entries from to past tables b failed' None st new q (vs q ms)) is (second_pass q) in
        elim (next (inl (pass (vs q ms) (heard.rows q)))) [
          | inl has ↦ inl has
          | inr fails ↦ inr (fails.0, fails.1)
        ]
    ends_by q false false ea ew =
        let pass = subst (λ (b : Bool). Passes entries from to past tables b failed u.attrs old st q (vs q ms)) ea (first_pass q) in
        let isnt : among gone q ≡ false = is_gone q ∙ ap (λ (b : Bool). b && not (among u.announced q)) ew in
        let next = subst (λ (b : Bool). Passes entries from to past tables b failed' None st new q (vs q ms)) isnt (second_pass q) in
        inl (next (vs q ms ++ (reading ms).table q ∷ []) (pass (vs q ms ++ (reading ms).table q ∷ []) (stays old q ms ((reading ms).table q) refl (heard.rows q))))

    ends-so : (q : Key) → Ends-so q (after.table q)
    ends-so q = ends_by q (among u.announced q) (among u.withdrawn q) refl refl

    fails_by : (q : Key) (a w : Bool) → among u.announced q ≡ a → among u.withdrawn q ≡ w → among failed' q ≡ true → CantClimb entries from to past tables q (vs q ms ++ (if a then u.attrs else (if w then None else (reading ms).table q)) ∷ [])
    fails_by q a w ea ew is =
        elim ((two.passes past tables course (λ k. vs k ms) numbers q).1 is) [
          | inl sooner ↦ elim ((one.passes past tables course (λ k. vs k ms) numbers q).1 sooner) [
            | inl never ↦ absurd (let e : false ≡ true = never in cc)
            | inr first ↦ at_first a w (sym ea ∙ first.0) (first.1 (inl (heard.rows q)))
          ]
          | inr later ↦ at_last a w ea ew later.0 later.1
        ]
      where
        at_first : (a w : Bool) → a ≡ true → CantClimb entries from to past tables q (vs q ms ++ u.attrs ∷ []) → CantClimb entries from to past tables q (vs q ms ++ (if a then u.attrs else (if w then None else (reading ms).table q)) ∷ [])
        at_first true w e cant = cant
        at_first false w e cant = absurd cc

        gone_by : (a w : Bool) → (w && not a) ≡ true → (a ≡ false) × (w ≡ true)
        gone_by true true e = absurd cc
        gone_by true false e = absurd cc
        gone_by false true e = (refl, refl)
        gone_by false false e = absurd cc

        at_last : (a w : Bool) → among u.announced q ≡ a → among u.withdrawn q ≡ w → among gone q ≡ true
            → ((Row-of st q (vs q ms) ⊎ Row-of st q (vs q ms ++ None ∷ [])) → CantClimb entries from to past tables q (vs q ms ++ None ∷ []))
            → CantClimb entries from to past tables q (vs q ms ++ (if a then u.attrs else (if w then None else (reading ms).table q)) ∷ [])
        at_last true w ea ew g cant = absurd (let e = gone_by (among u.announced q) (among u.withdrawn q) (sym (is_gone q) ∙ g) in let f = e.0 in cc)
        at_last false false ea ew g cant = absurd (let e = gone_by (among u.announced q) (among u.withdrawn q) (sym (is_gone q) ∙ g) in let f = e.1 in cc)
        at_last false true ea ew g cant =
            let pass = subst (λ (b : Bool). Passes entries from to past tables b failed u.attrs old st q (vs q ms)) ea (first_pass q) in
            cant (inl (pass (vs q ms) (heard.rows q)))

    named_by : (n a w : Bool) → ((n || a) || (w && not a)) ≡ (n || ((w || a) || false))
    named_by true a w = refl
    named_by false true true = refl
    named_by false true false = refl
    named_by false false true = refl
    named_by false false false = refl

    named-more : (q : Key) → is_some (value_for new.rows q) ≡ list_any (names q) (ms ++ m ∷ [])
    named-more q =
        two.named q
        ∙ (ap (λ (b : Bool). b || among gone q) (one.named q ∙ ap (λ (b : Bool). b || among u.announced q) (heard.named q))
        ∙ (ap (λ (b : Bool). (list_any (names q) ms || among u.announced q) || b) (is_gone q)
        ∙ (named_by (list_any (names q) ms) (among u.announced q) (among u.withdrawn q) ∙ sym (list_any-append (names q) ms (m ∷ [])))))

    stale_by : (q : Key) (a w : Bool) → among u.announced q ≡ a → among u.withdrawn q ≡ w → ((reading ms).stale q && not (a || w)) ≡ (refreshing && is_stale_in new.refreshes entries new.rows q)
    stale_by q true w ea ew =
        let isnt : among gone q ≡ false = is_gone q ∙ (ap (λ (b : Bool). among u.withdrawn q && not b) ea ∙ and_false (among u.withdrawn q)) in
        let fresh : is_stale_in new.refreshes entries new.rows q ≡ false = pass_same gone None failed failed' st new two q isnt ∙ pass_fresh u.announced u.attrs [] failed old st one q ea in
        and_false ((reading ms).stale q) ∙ sym (ap (λ (b : Bool). refreshing && b) fresh ∙ and_false refreshing)
    stale_by q false true ea ew =
        let is : among gone q ≡ true = is_gone q ∙ (ap (λ (b : Bool). among u.withdrawn q && not b) ea ∙ ap (λ (b : Bool). b && true) ew) in
        let fresh : is_stale_in new.refreshes entries new.rows q ≡ false = pass_fresh gone None failed failed' st new two q is in
        and_false ((reading ms).stale q) ∙ sym (ap (λ (b : Bool). refreshing && b) fresh ∙ and_false refreshing)
    stale_by q false false ea ew =
        let isnt : among gone q ≡ false = is_gone q ∙ ap (λ (b : Bool). b && not (among u.announced q)) ew in
        let same : is_stale_in new.refreshes entries new.rows q ≡ is_stale_in old.refreshes entries old.rows q = pass_same gone None failed failed' st new two q isnt ∙ pass_same u.announced u.attrs [] failed old st one q ea in
        and_true ((reading ms).stale q) ∙ (heard.stale q ∙ ap (λ (b : Bool). refreshing && b) (sym same))

    row-more : (q : Key) → among failed' q ≡ false → Row-of new q (vs q (ms ++ m ∷ []))
    row-more q isnt = subst (λ (xs : List Value). Row-of new q xs) (sym (values-last q ms m)) (elim (ends-so q) [ inl has ↦ has | inr fails ↦ absurd (let e = sym fails.0 ∙ isnt in cc) ])

    pub taken : IsTaken entries from to past tables failed' new refreshing (ms ++ m ∷ [])
    taken = record {
      heard = λ none. record {
        rows = λ q. row-more q (ap (λ (ks : List Key). among ks q) none);
        named = named-more;
        seen = λ q. pass_seen gone None failed failed' st new two q (pass_seen u.announced u.attrs [] failed old st one q (heard.seen q));
        stale = λ q. ap (λ (r : Reading). r.stale q) (reading-last _ ms m) ∙ stale_by q (among u.announced q) (among u.withdrawn q) refl refl;
      };
      fails = λ q is. subst (λ (xs : List Value). CantClimb entries from to past tables q xs) (sym (values-last q ms m)) (fails_by q (among u.announced q) (among u.withdrawn q) refl refl is);
      others = row-more;
    }

  -- ---- marks of a refresh

  module _ (ms : List Message) (old : Standings) (refreshing : Bool) (heard : IsHeard entries from to past tables old refreshing ms) where
    same_row : (st : Standings) (m : Message) → st.rows ≡ old.rows → st.moves.items ≡ old.moves.items → ((q : Key) → (applied (reading ms) m).table q ≡ (reading ms).table q) → (q : Key) → Row-of st q (vs q (ms ++ m ∷ []))
    same_row st m rows moves same q =
        subst (λ (xs : List Value). Row-of st q xs) (sym (values-last q ms m))
        (subst (λ (rs : List (Key × Row)). IsRow (values_at q past) (values_at q tables) (changes_of entries q) from to st.moves.items (vs q ms ++ (applied (reading ms) m).table q ∷ []) (row_for rs entries from q)) (sym rows)
        (subst (λ (xs : List Moved). IsRow (values_at q past) (values_at q tables) (changes_of entries q) from to xs (vs q ms ++ (applied (reading ms) m).table q ∷ []) (row_for old.rows entries from q)) (sym moves)
        (stays old q ms ((applied (reading ms) m).table q) (sym (same q)) (heard.rows q))))

    still_named : (m : Message) → ((q : Key) → names q m ≡ false) → (q : Key) → is_some (value_for old.rows q) ≡ list_any (names q) (ms ++ m ∷ [])
    still_named m none q = heard.named q ∙ sym (list_any-append (names q) ms (m ∷ []) ∙ (ap (λ (b : Bool). list_any (names q) ms || (b || false)) (none q) ∙ or_none (list_any (names q) ms)))

    -- nothing to heed
    pub ignored : IsTaken entries from to past tables [] old refreshing (ms ++ Ignored ∷ [])
    ignored = record {
      heard = λ none. record {
        rows = same_row old Ignored refl refl (λ q. refl);
        named = still_named Ignored (λ q. refl);
        seen = heard.seen;
        stale = λ q. ap (λ (r : Reading). r.stale q) (reading-last _ ms Ignored) ∙ heard.stale q;
      };
      fails = λ q is. absurd (let e : false ≡ true = is in cc);
      others = λ q isnt. same_row old Ignored refl refl (λ q. refl) q;
    }

    begun : (q : Key) (o : Option Row) → value_for old.rows q ≡ o → is_some ((reading ms).table q) ≡ (true && is_stale_row (old.refreshes + 1) (changes_of entries q) o)
    begun q None is = ap is_some (unnamed old q ms (heard.rows q) is)
    begun q (Some row) is =
        let seen : row.seen ≤ old.refreshes = subst (λ (o : Option Row). IsSeenBy old.refreshes o) is (heard.seen q) in
        let less : nat_lt row.seen (old.refreshes + 1) ≡ true = grind (arith, nat_tests, seen) in
        let the_row : row_for old.rows entries from q ≡ row = ap (λ (o : Option Row). unwrap_or o (first_row entries from q)) is in
        let value : value_before row.standing.next (changes_of entries q) ≡ (reading ms).table q = sym (ap (λ (r : Row). value_before r.standing.next (changes_of entries q)) the_row) ∙ shown old q ms (heard.rows q) in
        ap is_some (sym value) ∙ sym (ap (λ (b : Bool). b && is_some (value_before row.standing.next (changes_of entries q))) less)

    still_seen : (o : Option Row) → IsSeenBy old.refreshes o → IsSeenBy (old.refreshes + 1) o
    still_seen None h = tt
    still_seen (Some row) h = omega (arith, h)

    -- a refresh begins
    pub begins : (new : Standings) → new.rows ≡ old.rows → new.moves.items ≡ old.moves.items → new.refreshes ≡ old.refreshes + 1 → IsTaken entries from to past tables [] new true (ms ++ Begins ∷ [])
    begins new rows moves more =
        record {
          heard = λ none. record {
            rows = same_row new Begins rows moves (λ q. refl);
            named = λ q. ap (λ (rs : List (Key × Row)). is_some (value_for rs q)) rows ∙ still_named Begins (λ q. refl) q;
            seen = λ q.
                subst (λ (rs : List (Key × Row)). IsSeenBy new.refreshes (value_for rs q)) (sym rows)
                (subst (λ n. IsSeenBy n (value_for old.rows q)) (sym more) (still_seen (value_for old.rows q) (heard.seen q)));
            stale = λ q.
                ap (λ (r : Reading). r.stale q) (reading-last _ ms Begins)
                ∙ (begun q (value_for old.rows q) refl
                ∙ sym (ap (λ n. true && is_stale_in n entries new.rows q) more ∙ ap (λ (rs : List (Key × Row)). true && is_stale_in (old.refreshes + 1) entries rs q) rows));
          };
          fails = λ q is. absurd (let e : false ≡ true = is in cc);
          others = λ q isnt. same_row new Begins rows moves (λ q. refl) q;
        }

    none_stale : (q : Key) → refreshing ≡ false → (reading ms).stale q ≡ false
    none_stale q is = heard.stale q ∙ ap (λ (b : Bool). b && is_stale_in old.refreshes entries old.rows q) is

    not_stale : (b : Bool) (v : Value) → b ≡ false → (if b then None else v) ≡ v
    not_stale true v e = absurd cc
    not_stale false v e = refl

    -- a refresh ends that hasn't begun
    pub ends-none : refreshing ≡ false → IsTaken entries from to past tables [] old false (ms ++ Ends ∷ [])
    ends-none is =
        let same : (q : Key) → (applied (reading ms) Ends).table q ≡ (reading ms).table q = λ q. not_stale ((reading ms).stale q) ((reading ms).table q) (none_stale q is) in
        record {
          heard = λ none. record {
            rows = same_row old Ends refl refl same;
            named = still_named Ends (λ q. refl);
            seen = heard.seen;
            stale = λ q. ap (λ (r : Reading). r.stale q) (reading-last _ ms Ends);
          };
          fails = λ q is. absurd (let e : false ≡ true = is in cc);
          others = λ q isnt. same_row old Ends refl refl same q;
        }

    -- a refresh ends, and what is stale goes
    module _ (new : Standings) (gone failed : List Key) (is : refreshing ≡ true) (is_gone : (q : Key) → among gone q ≡ is_stale_in old.refreshes entries old.rows q)
        (pass : ArePassed entries from to (suc (length ms)) gone None [] failed old new) where
      stale_as : (q : Key) → among gone q ≡ (reading ms).stale q
      stale_as q = is_gone q ∙ sym (heard.stale q ∙ ap (λ (b : Bool). b && is_stale_in old.refreshes entries old.rows q) is)

      numbers' : (q : Key) → suc (length ms) ≡ suc (length (vs q ms))
      numbers' q = ap suc (sym (values-count q ms))

      ended : (q : Key) (b : Bool) → among gone q ≡ b → Row-of new q (vs q ms ++ (if b then None else (reading ms).table q) ∷ []) ⊎ ((among failed q ≡ true) × CantClimb entries from to past tables q (vs q ms ++ (if b then None else (reading ms).table q) ∷ []))
      ended q true e =
          let go = subst (λ (b : Bool). Passes entries from to past tables b failed None old new q (vs q ms)) e (pass.passes past tables course (λ k. vs k ms) numbers' q).0 in
          elim (go (inl (heard.rows q))) [ inl has ↦ inl has | inr fails ↦ inr (fails.0, fails.1) ]
      ended q false e =
          let go = subst (λ (b : Bool). Passes entries from to past tables b failed None old new q (vs q ms)) e (pass.passes past tables course (λ k. vs k ms) numbers' q).0 in
          inl (go (vs q ms ++ (reading ms).table q ∷ []) (stays old q ms ((reading ms).table q) refl (heard.rows q)))

      ended-so : (q : Key) → Row-of new q (vs q (ms ++ Ends ∷ [])) ⊎ ((among failed q ≡ true) × CantClimb entries from to past tables q (vs q (ms ++ Ends ∷ [])))
      ended-so q =
          let same : (if among gone q then None else (reading ms).table q) ≡ (applied (reading ms) Ends).table q = ap (λ (b : Bool). if b then None else (reading ms).table q) (stale_as q) in
          let all : vs q ms ++ (if among gone q then None else (reading ms).table q) ∷ [] ≡ vs q (ms ++ Ends ∷ []) = ap (λ (v : Value). vs q ms ++ v ∷ []) same ∙ sym (values-last q ms Ends) in
          subst (λ (xs : List Value). Row-of new q xs ⊎ ((among failed q ≡ true) × CantClimb entries from to past tables q xs)) all (ended q (among gone q) refl)

      fails' : (q : Key) → among failed q ≡ true → CantClimb entries from to past tables q (vs q (ms ++ Ends ∷ []))
      fails' q fail =
          elim ((pass.passes past tables course (λ k. vs k ms) numbers' q).1 fail) [
            | inl never ↦ absurd (let e : false ≡ true = never in cc)
            | inr it ↦
                (let same : None ≡ (applied (reading ms) Ends).table q = sym (ap (λ (b : Bool). if b then None else (reading ms).table q) (sym (stale_as q) ∙ it.0)) in
                let all : vs q ms ++ None ∷ [] ≡ vs q (ms ++ Ends ∷ []) = ap (λ (v : Value). vs q ms ++ v ∷ []) same ∙ sym (values-last q ms Ends) in
                subst (λ (xs : List Value). CantClimb entries from to past tables q xs) all (it.1 (inl (heard.rows q))))
          ]

      has_row : (q : Key) (o : Option Row) → is_stale_row old.refreshes (changes_of entries q) o ≡ true → is_some o ≡ true
      has_row q None e = absurd cc
      has_row q (Some row) e = refl

      named' : (q : Key) → is_some (value_for new.rows q) ≡ list_any (names q) (ms ++ Ends ∷ [])
      named' q = pass.named q ∙ (by (among gone q) refl ∙ still_named Ends (λ q. refl) q)
        where
          by : (b : Bool) → among gone q ≡ b → (is_some (value_for old.rows q) || among gone q) ≡ is_some (value_for old.rows q)
          by true e = or-second (is_some (value_for old.rows q)) (among gone q) e ∙ sym (has_row q (value_for old.rows q) (sym (is_gone q) ∙ e))
          by false e = ap (λ (b : Bool). is_some (value_for old.rows q) || b) e ∙ or_none (is_some (value_for old.rows q))

      pub ends-all : IsTaken entries from to past tables failed new false (ms ++ Ends ∷ [])
      ends-all = record {
        heard = λ none. record {
          rows = λ q. elim (ended-so q) [ inl has ↦ has | inr fail ↦ absurd (let e = sym fail.0 ∙ ap (λ (ks : List Key). among ks q) none in cc) ];
          named = named';
          seen = λ q. pass_seen gone None [] failed old new pass q (heard.seen q);
          stale = λ q. ap (λ (r : Reading). r.stale q) (reading-last _ ms Ends);
        };
        fails = fails';
        others = λ q isnt. elim (ended-so q) [ inl has ↦ has | inr fail ↦ absurd (let e = sym fail.0 ∙ isnt in cc) ];
      }
