-- How the rows lie where one key's row changes.
use Rattle.std.proofs.Common.{◌≡◌, ◌≢◌, ℕ, ◌+◌, Bool, true, false, List, [], ◌∷◌, length, Option, Some, None, suc, refl, sym, ap, subst, ◌∙◌}
use Rattle.std.specs.Prelude.{is_some, IsSome}
use Rattle.std.specs.List.{AllByRecursion}
use Rattle.std.specs.List.Sorted.{IsStrictlySortedBy}
use Rattle.std.specs.Ordering.{nat_cmp}
use Rattle.std.specs.Map.{keys_of}
use Rattle.std.specs.BTreeMap.{is_at}
use Rattle.std.specs.Cmp.{IsTotalOrder, nat_cmp_total}
use Rattle.std.specs.FinMap.{IsAntisymmetric, nat_cmp-IsAntisymmetric}
use Rattle.std.specs.declared.cmp.Ordering.{Ordering}
use Rattle.std.proofs.lemmas.Map.Keys.{sorted_tail}
use Rattle.ug_adjout.specs.Tables.{value_at, with_value, IsTable}
use Rattle.ug_adjout.specs.TableLaws.{value_at-here, value_at-other, with_value-sorted, with_value-same, one_key, at_itself}
use Rattle.ug_adjout.proofs.SameTables.{same_table, found_behind, found_first}
use Rattle.ug_adjout.specs.declared.row.Row.{Row}
use Rattle.ug_adjout.specs.declared.row.Change.{Change}
use Rattle.ug_adjout.specs.declared.seat.Seat.{Seat}
use Rattle.ug_adjout.specs.declared.step.Step.{Step}
use Rattle.ug_adjout.specs.declared.step.Step.TheVariants.{Want, Format}
use Rattle.ug_adjout.specs.declared.waiting.Waiting.{Waiting}
use Rattle.ug_adjout.specs.Counted.{IsCounted}
use Rattle.ug_adjout.specs.Seats.{seat_at, key_of, row_of, seat_with, handle_with, rows_by, named, IsSeated, IsRows, IsLined, HaveRows, IsReseated, IsChanged}
use Rattle.ug_adjout.specs.Stepped.{known, stepped, lined, IsReadyBy}
use Rattle.ug_adjout.specs.Stored.{projected, projected_with, of_row, formatted_of, mark_of}
use Rattle.ug_adjout.proofs.Lists.{value_at-projected, sorted_projected}
use Rattle.ug_adjout.proofs.Counts.{one, step_counted}
use Rattle.ug_adjout.proofs.Handles.{all_from, who_waits, nobody_waits, names_kept, still_named, lined_by_key, lined_still, key_some, waits_by_key, some_at}

same_handle : (a b : ℕ) → Some a ≡ Some b → a ≡ b
same_handle a b e = cc

here_or_not : (P : ℕ → Type 0) (handle other : ℕ) → P handle → (other ≢ handle → P other) → P other
here_or_not P handle other own apart = by (is_at (nat_cmp other) handle) refl
  where
    by : (b : Bool) → is_at (nat_cmp other) handle ≡ b → P other
    by true e = subst P (sym (one_key nat_cmp_total nat_cmp-IsAntisymmetric other handle e)) own
    by false e = apart (λ same. let z = sym e ∙ ap (λ n. is_at (nat_cmp other) n) (sym same) ∙ at_itself nat_cmp_total nat_cmp-IsAntisymmetric other in cc)

module _ {K V W : Type 0} (f : V → Option W) where
  all_keys : (es : List (K × V)) → AllByRecursion (λ e. IsSome (f e.1)) es → keys_of (projected f es) ≡ keys_of es
  all_keys [] h = refl
  all_keys (e ∷ es) h = by (f e.1) h.0 (all_keys es h.1)
    where
      by : (o : Option W) → IsSome o → keys_of (projected f es) ≡ keys_of es → keys_of (projected_with f e.0 o (projected f es)) ≡ e.0 ∷ keys_of es
      by None s more = absurd cc
      by (Some w) s more = ap (λ l. e.0 ∷ l) more

  all_counted : (es : List (K × V)) → AllByRecursion (λ e. IsSome (f e.1)) es → length (projected f es) ≡ length es
  all_counted [] h = refl
  all_counted (e ∷ es) h = by (f e.1) h.0 (all_counted es h.1)
    where
      by : (o : Option W) → IsSome o → length (projected f es) ≡ length es → length (projected_with f e.0 o (projected f es)) ≡ length (e ∷ es)
      by None s more = absurd cc
      by (Some w) s more = ap suc more

module _ {K : Type 0} where
  seat_key : (key : K) (was : Option Row) (seat : Seat K) → seat_with key was ≡ Some seat → seat.key ≡ key
  seat_key key None seat e = absurd cc
  seat_key key (Some row) seat e = same_key _ seat e
    where
      same_key : (a b : Seat K) → Some a ≡ Some b → b.key ≡ a.key
      same_key a b t = cc

  some_row : (o : Option (Seat K)) (seat : Seat K) → o ≡ Some seat → IsSome (row_of o)
  some_row o seat e = ap (λ x. is_some (row_of x)) e

module _ {K : Type 0} {cmp : K → K → Ordering} (total : IsTotalOrder cmp) (exact : IsAntisymmetric cmp)
    (index : List (K × ℕ)) (at : ℕ → Option (Seat K)) (s : IsSeated cmp index at) where
  abbrev row_in : (ℕ → Option (Seat K)) → ℕ → Option Row
  row_in seats handle = row_of (seats handle)

  pub row_found : (q : K) → value_at cmp (rows_by at index) q ≡ of_row (row_in at) (value_at cmp index q)
  row_found q = value_at-projected total exact (row_in at) index q s.ordered

  all_seated : AllByRecursion (λ e. IsSome (row_in at e.1)) index
  all_seated = by index s.ordered (λ q h e. let r = s.seated q h e in some_row (at h) _ r.1)
    where
      by : (es : List (K × ℕ)) → IsTable cmp es → ((q : K) (h : ℕ) → value_at cmp es q ≡ Some h → IsSome (row_in at h)) → AllByRecursion (λ e. IsSome (row_in at e.1)) es
      by [] t h = tt
      by (e ∷ es) t h =
          (h e.0 e.1 (found_first total exact e es), by es (sorted_tail cmp e.0 (keys_of es) t) (λ q v g. h q v (found_behind total exact e es q v t g)))

  pub rows_keys : keys_of (rows_by at index) ≡ keys_of index
  rows_keys = all_keys (row_in at) index all_seated

  pub rows_length : length (rows_by at index) ≡ length index
  rows_length = all_counted (row_in at) index all_seated

  -- what lies at the key's handle
  pub seat_found : (key : K) (handle : ℕ) → value_at cmp index key ≡ Some handle → key_of (at handle) ≡ Some key
  seat_found key handle e = ap key_of (s.seated key handle e).1

  pub row_there : (key : K) (handle : ℕ) → value_at cmp index key ≡ Some handle → value_at cmp (rows_by at index) key ≡ row_of (at handle)
  row_there key handle e = row_found key ∙ ap (of_row (row_in at)) e

  pub row_missing : (key : K) → value_at cmp index key ≡ None → value_at cmp (rows_by at index) key ≡ None
  row_missing key e = row_found key ∙ ap (of_row (row_in at)) e

  -- no other handle has the key
  pub only_handle : (key : K) (other : ℕ) → key_of (at other) ≡ Some key → value_at cmp index key ≡ Some other
  only_handle key other e = by (at other) refl e
    where
      same_key : (a b : K) → Some a ≡ Some b → a ≡ b
      same_key a b t = cc

      by : (o : Option (Seat K)) → at other ≡ o → key_of o ≡ Some key → value_at cmp index key ≡ Some other
      by None t k = absurd cc
      by (Some seat) t k = ap (value_at cmp index) (sym (same_key seat.key key k)) ∙ s.indexed other seat t

  -- a row that is put where one was
  pub put_changed : (now : ℕ → Option (Seat K)) (handle : ℕ) (key : K) (row : Row) → value_at cmp index key ≡ Some handle → IsReseated at now handle key (Some row)
      → IsChanged cmp index index at now handle key (row_of (at handle)) (Some row)
  put_changed now handle key row e r =
      let there = s.seated key handle e in
      let was : row_of (at handle) ≡ Some there.0 = ap row_of there.1 in
      record {
        lay = there.1 ∙ ap (seat_with key) (sym was);
        found = e ∙ ap (handle_with handle) (sym was);
        reseated = r;
        reindexed = sym (with_value-same total exact index key (Some handle) s.ordered e);
      }

  -- and no handle has another key then
  pub put_keys : (now : ℕ → Option (Seat K)) (handle : ℕ) (key : K) (row : Row) → value_at cmp index key ≡ Some handle → IsReseated at now handle key (Some row) → (other : ℕ) → key_of (now other) ≡ key_of (at other)
  put_keys now handle key row e r other =
      here_or_not (λ n. key_of (now n) ≡ key_of (at n)) handle other (ap key_of r.here ∙ sym (seat_found key handle e)) (λ ne. ap key_of (r.others other ne))

  module _ (new_index : List (K × ℕ)) (now : ℕ → Option (Seat K)) (handle : ℕ) (key : K) (was row : Option Row) (c : IsChanged cmp index new_index at now handle key was row) where
    in_order : IsTable cmp new_index
    in_order = subst (IsTable cmp) (sym c.reindexed) (with_value-sorted total exact index key (handle_with handle row) s.ordered)

    here : value_at cmp new_index key ≡ handle_with handle row
    here = ap (λ l. value_at cmp l key) c.reindexed ∙ value_at-here total exact index key (handle_with handle row) s.ordered

    elsewhere : (q : K) → is_at (cmp q) key ≡ false → value_at cmp new_index q ≡ value_at cmp index q
    elsewhere q apart = ap (λ l. value_at cmp l q) c.reindexed ∙ value_at-other total exact index key q (handle_with handle row) apart

    -- another key has another handle
    other_handle : (q : K) (h : ℕ) → is_at (cmp q) key ≡ false → value_at cmp index q ≡ Some h → h ≢ handle
    other_handle q h apart e same =
        let there = s.seated q h e in
        let own : q ≡ key = seat_key key was _ (sym c.lay ∙ ap at (sym same) ∙ there.1) in
        let z = sym apart ∙ ap (λ k. is_at (cmp q) k) (sym own) ∙ at_itself total exact q in cc

    pub was_there : value_at cmp (rows_by at index) key ≡ was
    was_there = row_found key ∙ ap (of_row (row_in at)) c.found ∙ by was c.lay
      where
        by : (o : Option Row) → at handle ≡ seat_with key o → of_row (row_in at) (handle_with handle o) ≡ o
        by None e = refl
        by (Some r) e = ap row_of e

    row_here : (o : Option Row) → now handle ≡ seat_with key o → of_row (row_in now) (handle_with handle o) ≡ o
    row_here None e = refl
    row_here (Some r) e = ap row_of e

    row_elsewhere : (q : K) (o : Option ℕ) → is_at (cmp q) key ≡ false → value_at cmp index q ≡ o → of_row (row_in now) o ≡ of_row (row_in at) o
    row_elsewhere q None apart e = refl
    row_elsewhere q (Some h) apart e = ap row_of (c.reseated.others h (other_handle q h apart e))

    row_now : (q : K) → value_at cmp (rows_by now new_index) q ≡ value_at cmp (with_value cmp (rows_by at index) key row) q
    row_now q = value_at-projected total exact (row_in now) new_index q in_order ∙ by (is_at (cmp q) key) refl
      where
        sorted : IsTable cmp (rows_by at index)
        sorted = sorted_projected total exact (row_in at) index s.ordered

        by : (b : Bool) → is_at (cmp q) key ≡ b → of_row (row_in now) (value_at cmp new_index q) ≡ value_at cmp (with_value cmp (rows_by at index) key row) q
        by true e =
            let same = one_key total exact q key e in
            ap (λ k. of_row (row_in now) (value_at cmp new_index k)) same ∙ ap (of_row (row_in now)) here ∙ row_here row c.reseated.here
            ∙ sym (ap (value_at cmp (with_value cmp (rows_by at index) key row)) same ∙ value_at-here total exact (rows_by at index) key row sorted)
        by false e =
            ap (of_row (row_in now)) (elsewhere q e) ∙ row_elsewhere q (value_at cmp index q) e refl
            ∙ sym (value_at-other total exact (rows_by at index) key q row e ∙ row_found q)

    pub rows_changed : rows_by now new_index ≡ with_value cmp (rows_by at index) key row
    rows_changed =
        same_table total exact (rows_by now new_index) (with_value cmp (rows_by at index) key row) (sorted_projected total exact (row_in now) new_index in_order)
        (with_value-sorted total exact (rows_by at index) key row (sorted_projected total exact (row_in at) index s.ordered)) row_now

    pub seats_changed : IsSeated cmp new_index now
    seats_changed = record {
      ordered = in_order;
      seated = λ q h e. seated_case (is_at (cmp q) key) q h refl e;
      indexed = λ h seat e. here_or_not (λ n. now n ≡ Some seat → value_at cmp new_index seat.key ≡ Some n) handle h (indexed_here row seat c.reseated.here here) (indexed_other h seat) e;
    }
      where
        seated_here : (o : Option Row) (q : K) (h : ℕ) → now handle ≡ seat_with key o → q ≡ key → handle_with handle o ≡ Some h → (r : Row) × (now h ≡ Some (record { key = q; row = r }))
        seated_here None q h at_handle same e = absurd cc
        seated_here (Some r) q h at_handle same e =
            (r, ap now (sym (same_handle handle h e)) ∙ at_handle ∙ ap (λ k. Some (record { key = k; row = r })) (sym same))

        seated_case : (b : Bool) (q : K) (h : ℕ) → is_at (cmp q) key ≡ b → value_at cmp new_index q ≡ Some h → (r : Row) × (now h ≡ Some (record { key = q; row = r }))
        seated_case true q h at_key e =
            let same = one_key total exact q key at_key in seated_here row q h c.reseated.here same (sym here ∙ ap (value_at cmp new_index) (sym same) ∙ e)
        seated_case false q h at_key e =
            let old = sym (elsewhere q at_key) ∙ e in let there = s.seated q h old in (there.0, c.reseated.others h (other_handle q h at_key old) ∙ there.1)

        indexed_here : (o : Option Row) (seat : Seat K) → now handle ≡ seat_with key o → value_at cmp new_index key ≡ handle_with handle o → now handle ≡ Some seat → value_at cmp new_index seat.key ≡ Some handle
        indexed_here None seat at_handle found e = absurd (let z = sym at_handle ∙ e in cc)
        indexed_here (Some r) seat at_handle found e = ap (value_at cmp new_index) (seat_key key (Some r) seat (sym at_handle ∙ e)) ∙ found

        indexed_other : (h : ℕ) (seat : Seat K) → h ≢ handle → now h ≡ Some seat → value_at cmp new_index seat.key ≡ Some h
        indexed_other h seat ne e = by (is_at (cmp seat.key) key) refl
          where
            old : value_at cmp index seat.key ≡ Some h
            old = s.indexed h seat (sym (c.reseated.others h ne) ∙ e)

            own : (o : Option Row) → value_at cmp index key ≡ handle_with handle o → value_at cmp index key ≡ Some h → ⊥
            own None f g = let z = sym f ∙ g in cc
            own (Some r) f g = ne (same_handle h handle (sym g ∙ f))

            by : (b : Bool) → is_at (cmp seat.key) key ≡ b → value_at cmp new_index seat.key ≡ Some h
            by true at_key = absurd (own was c.found (ap (value_at cmp index) (sym (one_key total exact seat.key key at_key)) ∙ old))
            by false at_key = elsewhere seat.key at_key ∙ old

    pub rows_kept : (formatted forced : ℕ) → IsCounted cmp (rows_by at index) formatted forced
        → (old new : Bool) (count : ℕ) → old ≡ is_some (of_row formatted_of was) → new ≡ is_some (of_row formatted_of row) → count + one old ≡ formatted + one new
        → (marked marks : Bool) (left : ℕ) → marked ≡ is_some (of_row mark_of was) → marks ≡ is_some (of_row mark_of row) → left + one marked ≡ forced + one marks
        → IsRows cmp new_index now count left
    rows_kept formatted forced n old new count o w e marked marks left m v f = record {
      seats = seats_changed;
      counts = subst (λ rows. IsCounted cmp rows count left) (sym rows_changed) (record {
        ordered = with_value-sorted total exact (rows_by at index) key row n.ordered;
        formatted_len = step_counted formatted_of cmp (rows_by at index) key formatted n.formatted_len old (o ∙ ap (λ r. is_some (of_row formatted_of r)) (sym was_there)) total n.ordered row new count w e;
        forced_len = step_counted mark_of cmp (rows_by at index) key forced n.forced_len marked (m ∙ ap (λ r. is_some (of_row mark_of r)) (sym was_there)) total n.ordered row marks left v f;
      });
    }

    -- ---- the list, where the step is done with the row

    module _ (line : List (ℕ × Waiting ℕ)) (l : IsLined at line) (step : Step) (is : row ≡ stepped step (known was)) where
      abbrev line_now : List (ℕ × Waiting ℕ)
      line_now = lined step handle (known was) line

      abbrev Follows : Type 0
      Follows = (named now line_now ≡ lined step key (known was) (named at line)) × IsLined now line_now

      -- the key has a row
      pub line_put : (r : Row) → row ≡ Some r → Follows
      line_put r some = (
        lined_by_key now step handle key (known was) line l.in_line there ∙ ap (lined step key (known was)) (names_kept at now same line l.are_named),
        lined_still now step handle (known was) line (record { in_line = l.in_line; are_named = still_named at now same line l.are_named }) (key_some (now handle) key there),
      )
        where
          there : key_of (now handle) ≡ Some key
          there = ap key_of (c.reseated.here ∙ ap (seat_with key) some)

          own_key : (o : Option Row) (k : K) → key_of (seat_with key o) ≡ Some k → Some key ≡ Some k
          own_key None k e = absurd cc
          own_key (Some x) k e = e

          same : (h : ℕ) (k : K) → key_of (at h) ≡ Some k → key_of (now h) ≡ Some k
          same h k = here_or_not (λ n. key_of (at n) ≡ Some k → key_of (now n) ≡ Some k) handle h (λ e. there ∙ own_key was k (ap key_of (sym c.lay) ∙ e)) (λ ne e. ap key_of (c.reseated.others h ne) ∙ e)

      -- the key's row goes
      pub line_gone : (r : Row) → was ≡ Some r → row ≡ None → HaveRows cmp (with_value cmp (rows_by at index) key row) (lined step key (known was) (named at line)) → Follows
      line_gone r some none have = (sym (names_kept now at back line_now still) ∙ by_key, record { in_line = before.in_line; are_named = still })
        where
          lay : key_of (at handle) ≡ Some key
          lay = ap key_of (c.lay ∙ ap (seat_with key) some)

          by_key : named at line_now ≡ lined step key (known was) (named at line)
          by_key = lined_by_key at step handle key (known was) line l.in_line lay

          before : IsLined at line_now
          before = lined_still at step handle (known was) line l (key_some (at handle) key lay)

          gone : now handle ≡ None
          gone = c.reseated.here ∙ ap (seat_with key) none

          back : (h : ℕ) (k : K) → key_of (now h) ≡ Some k → key_of (at h) ≡ Some k
          back h k = here_or_not (λ n. key_of (now n) ≡ Some k → key_of (at n) ≡ Some k) handle h (λ e. absurd (let z = sym (ap key_of gone) ∙ e in cc)) (λ ne e. ap key_of (sym (c.reseated.others h ne)) ∙ e)

          still : AllByRecursion (λ e. IsSome (now e.1.key)) line_now
          still =
              all_from (λ w. IsSome (now w.key)) line_now before.in_line
              (λ p w e. here_or_not (λ n. value_at nat_cmp line_now p ≡ Some (record { key = n; value = w.value }) → IsSome (now n)) handle w.key (own p w.value) (λ ne. other p w.value w.key ne) e)
            where
              own : (p : ℕ) (value : Option ℕ) → value_at nat_cmp line_now p ≡ Some (record { key = handle; value = value }) → IsSome (now handle)
              own p value e =
                  let waits = ap (λ es. value_at nat_cmp es p) (sym by_key) ∙ waits_by_key at line_now p handle value key before.in_line e lay in
                  let some = have p _ waits in
                  let z = sym (ap is_some (value_at-here total exact (rows_by at index) key row (sorted_projected total exact (row_in at) index s.ordered) ∙ none)) ∙ some in absurd cc

              other : (p : ℕ) (value : Option ℕ) (n : ℕ) → n ≢ handle → value_at nat_cmp line_now p ≡ Some (record { key = n; value = value }) → IsSome (now n)
              other p value n ne e = ap is_some (c.reseated.others n ne) ∙ some_at at line_now p _ before.are_named e

      -- whatever becomes of a row that there was
      pub line_changed : (r : Row) → was ≡ Some r → HaveRows cmp (with_value cmp (rows_by at index) key row) (lined step key (known was) (named at line)) → Follows
      line_changed r some have = by row refl
        where
          by : (o : Option Row) → row ≡ o → Follows
          by None e = line_gone r some e have
          by (Some x) e = line_put x e

  -- ---- what the step needs of the list

  module _ (line : List (ℕ × Waiting ℕ)) (l : IsLined at line) (key : K) where
    waits_there : (handle p : ℕ) (value : Option ℕ) → value_at cmp index key ≡ Some handle → value_at nat_cmp (named at line) p ≡ Some (record { key = key; value = value })
        → value_at nat_cmp line p ≡ Some (record { key = handle; value = value })
    waits_there handle p value found e =
        let w = who_waits at line p (record { key = key; value = value }) l.in_line e in
        let own : w.0 ≡ handle = same_handle w.0 handle (sym (s.indexed w.0 w.1 w.3) ∙ ap (value_at cmp index) w.4 ∙ found) in
        w.2 ∙ ap (λ n. Some (record { key = n; value = value })) own

    pub ready_there : (step : Step) (handle : ℕ) (c : Option Change) → value_at cmp index key ≡ Some handle → IsReadyBy step key c (named at line) → IsReadyBy step handle c line
    ready_there (Want want) handle None found r = nobody_waits at line want.place l r
    ready_there (Want want) handle (Some change) found r = waits_there handle change.place change.desired found r
    ready_there Format handle None found r = tt
    ready_there Format handle (Some change) found r = waits_there handle change.place change.desired found r

    pub ready_new : (step : Step) (handle : ℕ) → IsReadyBy step key None (named at line) → IsReadyBy step handle None line
    ready_new (Want want) handle r = nobody_waits at line want.place l r
    ready_new Format handle r = tt

-- ---- where nothing lies

module _ {K : Type 0} {cmp : K → K → Ordering} where
  nothing_seated : IsSeated cmp [] (seat_at [])
  unfolding IsStrictlySortedBy
  nothing_seated = record { ordered = tt; seated = λ key handle e. absurd cc; indexed = λ handle seat e. absurd cc }

  nothing_counted : IsCounted {K = K} cmp [] 0 0
  unfolding IsStrictlySortedBy
  nothing_counted = record { ordered = tt; formatted_len = refl; forced_len = refl }

  pub nothing_lies : (index : List (K × ℕ)) (slots : List (Option (Seat K))) → index ≡ [] → slots ≡ [] → IsRows cmp index (seat_at slots) 0 0
  nothing_lies index slots i l = subst (λ es. IsRows cmp es (seat_at slots) 0 0) (sym i) (subst (λ es. IsRows cmp [] (seat_at es) 0 0) (sym l) (record { seats = nothing_seated; counts = nothing_counted }))
