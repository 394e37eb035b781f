-- Keys that are forced, one after the other.
use Rattle.std.proofs.Common.{◌≡◌, ℕ, Bool, true, false, cond, not, ◌&&◌, ◌||◌, List, [], ◌∷◌, ◌++◌, Option, Some, None, refl, sym, ap, subst, ◌∙◌}
use Rattle.std.specs.Prelude.{is_some, nat_eq, if◌then◌else◌}
use Rattle.std.specs.Option.{option_eq}
use Rattle.std.specs.List.{filter, AllByRecursion, IsDistinct}
use Rattle.std.specs.List.Sorted.{IsStrictlySortedBy}
use Rattle.std.specs.Ordering.{nat_cmp, match_ordering, eq_by_cmp}
use Rattle.std.specs.Map.{keys_of}
use Rattle.std.specs.BTreeMap.{insert_entry}
use Rattle.std.specs.BTreeSet.{insert_key}
use Rattle.std.specs.Cmp.{IsTotalOrder}
use Rattle.std.specs.FinMap.{IsAntisymmetric}
use Rattle.std.specs.declared.cmp.Ordering.{Ordering}
use Rattle.std.specs.declared.cmp.Ordering.TheVariants.{Less, Equal, Greater}
use Rattle.std.proofs.lemmas.List.{append_assoc, append-nil}
use Rattle.std.proofs.lemmas.Bool.{cond-true, or_right}
use Rattle.std.proofs.lemmas.Map.Keys.{IsDistinct-from_sorted}
use Rattle.ug_adjout.specs.Tables.{has, joined, value_at, with_value}
use Rattle.ug_adjout.specs.TableLaws.{with_value-same, has-append, has-keys_of, has-joined, sorted-joined, filter_agreeing, all_from_has, at_turned}
use Rattle.ug_adjout.proofs.SameTables.{same_list}
use Rattle.ug_adjout.specs.Pending.{AdjRibOut, waits, with_all_forced}
use Rattle.ug_adjout.specs.declared.row.Row.{Row}
use Rattle.ug_adjout.specs.declared.row.Change.{Change}
use Rattle.ug_adjout.specs.declared.waiting.Waiting.{Waiting}
use Rattle.ug_adjout.specs.Waits.{waiting_keys}
use Rattle.ug_adjout.specs.Stored.{IsStored, IsShown, adj_of, projected, of_row, formatted_of, desired_of, mark_of, is_forced, pends, with_change, with_one_forced, with_each_forced}
use Rattle.ug_adjout.proofs.Lists.{sorted_projected, projected-with_value}
use Rattle.ug_adjout.proofs.Views.{formatted_at, desired_at, forced_at, pending_at, exact_at, shown_row, idle_desired, waiting_desired, keys_begin, keys_change}

keys_step : {K : Type 0} (r : Ordering) (k : K) (v : ℕ) (e : K × ℕ) (es rest : List (K × ℕ)) (more : List K) → keys_of rest ≡ more
    → keys_of (match_ordering r ((k, v) ∷ e ∷ es) ((e.0, v) ∷ es) (e ∷ rest)) ≡ match_ordering r (k ∷ e.0 ∷ keys_of es) (e.0 ∷ keys_of es) (e.0 ∷ more)
keys_step Less k v e es rest more h = refl
keys_step Equal k v e es rest more h = refl
keys_step Greater k v e es rest more h = ap (λ l. e.0 ∷ l) h

keys_inserted : {K : Type 0} (cmp : K → K → Ordering) (k : K) (v : ℕ) (es : List (K × ℕ)) → keys_of (insert_entry cmp es k v) ≡ insert_key cmp (keys_of es) k
keys_inserted cmp k v [] = refl
keys_inserted cmp k v (e ∷ es) = keys_step (cmp k e.0) k v e es (insert_entry cmp es k v) (insert_key cmp (keys_of es) k) (keys_inserted cmp k v es)

module _ {K : Type 0} {cmp : K → K → Ordering} (total : IsTotalOrder cmp) (exact : IsAntisymmetric cmp)
    (rows : List (K × Row)) (waiting : List (ℕ × Waiting K)) (next : ℕ) (s : IsStored cmp rows waiting next) (key : K) where
  abbrev now : AdjRibOut K ℕ
  now = adj_of rows waiting

  -- ---- one key

  pub one_forced : (row forced : Row) (later : List (ℕ × Waiting K)) → value_at cmp rows key ≡ Some row → formatted_of forced ≡ formatted_of row → desired_of forced ≡ desired_of row → mark_of forced ≡ Some 0
      → waiting_keys later ≡ (if has cmp now.pending key then now.pending else now.pending ++ key ∷ [])
      → adj_of (with_value cmp rows key (Some forced)) later ≡ with_one_forced cmp now key
  one_forced row forced later is fe de me pe =
      let fs = projected-with_value total exact formatted_of rows key (Some forced) s.ordered
      ∙ with_value-same total exact _ key _ (sorted_projected total exact formatted_of rows s.ordered) (formatted_at total exact rows waiting next s key ∙ ap (of_row formatted_of) is ∙ sym fe) in
      let ds = projected-with_value total exact desired_of rows key (Some forced) s.ordered
      ∙ with_value-same total exact _ key _ (sorted_projected total exact desired_of rows s.ordered) (desired_at total exact rows waiting next s key ∙ ap (of_row desired_of) is ∙ sym de) in
      let ms = ap keys_of (projected-with_value total exact mark_of rows key (Some forced) s.ordered ∙ ap (with_value cmp (projected mark_of rows) key) me) ∙ keys_inserted cmp key 0 (projected mark_of rows) in
      λ i. record { formatted = fs i; desired = ds i; forced = ms i; pending = pe i }

  pub kept_or_last : (b : Bool) → pends (value_at cmp rows key) ≡ b → (if has cmp now.pending key then now.pending else now.pending ++ key ∷ []) ≡ (if b then now.pending else now.pending ++ key ∷ [])
  kept_or_last b e = ap (λ z. if z then now.pending else now.pending ++ key ∷ []) (pending_at total exact rows waiting next s key ∙ e)

  pub force_idle : (row : Row) → value_at cmp rows key ≡ Some row → row.change ≡ None
      → adj_of (insert_entry cmp rows key (with_change (record { formatted = row.formatted; forced = true; change = row.change }) next row.formatted)) (insert_entry nat_cmp waiting next (record { key = key; value = row.formatted }))
      ≡ with_one_forced cmp now key
  force_idle row is idle =
      one_forced row _ _ is refl (sym (idle_desired row idle)) refl
      (keys_begin total exact rows waiting next s key (record { key = key; value = row.formatted }) refl ∙ sym (kept_or_last false (ap pends is ∙ ap is_some idle)))

  pub force_waiting : (row : Row) (change : Change) → value_at cmp rows key ≡ Some row → row.change ≡ Some change
      → adj_of (insert_entry cmp rows key (with_change (record { formatted = row.formatted; forced = true; change = row.change }) change.place change.desired)) (insert_entry nat_cmp waiting change.place (record { key = key; value = change.desired }))
      ≡ with_one_forced cmp now key
  force_waiting row change is at =
      one_forced row _ _ is refl (sym (waiting_desired row change at)) refl
      (keys_change total exact rows waiting next s key row change (record { key = key; value = change.desired }) is at refl ∙ sym (kept_or_last true (ap pends is ∙ ap is_some at)))

  -- a key that is shown has a row
  pub no_row : IsShown cmp now key → value_at cmp rows key ≡ None → ⊥
  no_row shown none =
      let z = sym shown ∙ ap (λ o. is_some o || is_some (value_at cmp now.desired key)) (formatted_at total exact rows waiting next s key ∙ ap (of_row formatted_of) none)
      ∙ ap is_some (desired_at total exact rows waiting next s key ∙ ap (of_row desired_of) none) in cc

module _ {K : Type 0} {cmp : K → K → Ordering} (total : IsTotalOrder cmp) (exact : IsAntisymmetric cmp) where
  -- ---- all keys of a list

  each_formatted : (keys : List K) (a : AdjRibOut K ℕ) → (with_each_forced cmp a keys).formatted ≡ a.formatted
  each_formatted [] a = refl
  each_formatted (k ∷ keys) a = each_formatted keys (with_one_forced cmp a k)

  each_desired : (keys : List K) (a : AdjRibOut K ℕ) → (with_each_forced cmp a keys).desired ≡ a.desired
  each_desired [] a = refl
  each_desired (k ∷ keys) a = each_desired keys (with_one_forced cmp a k)

  each_forced : (keys : List K) (a : AdjRibOut K ℕ) → (with_each_forced cmp a keys).forced ≡ joined cmp a.forced keys
  each_forced [] a = refl
  each_forced (k ∷ keys) a = each_forced keys (with_one_forced cmp a k)

  -- the keys that are new to the list, in order
  apart_all : (k : K) (p : List K) (keys : List K) → AllByRecursion (λ y. eq_by_cmp cmp k y ≡ false) keys → AllByRecursion (λ q. not (has cmp (p ++ k ∷ []) q) ≡ not (has cmp p q)) keys
  apart_all k p [] h = tt
  apart_all k p (q ∷ keys) h =
      (ap not (has-append total exact p (k ∷ []) q ∙ ap (λ b. has cmp p q || (b || false)) (at_turned total exact q k ∙ h.0) ∙ right_false (has cmp p q)), apart_all k p keys h.1)
    where
      right_false : (b : Bool) → (b || (false || false)) ≡ b
      right_false true = refl
      right_false false = refl

  each_pending : (keys : List K) (a : AdjRibOut K ℕ) → IsDistinct (eq_by_cmp cmp) keys → (with_each_forced cmp a keys).pending ≡ a.pending ++ filter (λ q. not (has cmp a.pending q)) keys
  unfolding IsDistinct
  each_pending [] a d = sym (append-nil a.pending)
  each_pending (k ∷ keys) a d = each_pending keys (with_one_forced cmp a k) d.1 ∙ by (has cmp a.pending k) refl
    where
      rest : List K → List K
      rest p = p ++ filter (λ q. not (has cmp p q)) keys

      by : (b : Bool) → has cmp a.pending k ≡ b
          → (if has cmp a.pending k then a.pending else a.pending ++ k ∷ []) ++ filter (λ q. not (has cmp (if has cmp a.pending k then a.pending else a.pending ++ k ∷ []) q)) keys
          ≡ a.pending ++ cond (not (has cmp a.pending k)) (k ∷ filter (λ q. not (has cmp a.pending q)) keys) (filter (λ q. not (has cmp a.pending q)) keys)
      by true e = ap (λ b. (if b then a.pending else a.pending ++ k ∷ []) ++ filter (λ q. not (has cmp (if b then a.pending else a.pending ++ k ∷ []) q)) keys) e
          ∙ sym (ap (λ b. a.pending ++ cond (not b) (k ∷ filter (λ q. not (has cmp a.pending q)) keys) (filter (λ q. not (has cmp a.pending q)) keys)) e)
      by false e = ap (λ b. (if b then a.pending else a.pending ++ k ∷ []) ++ filter (λ q. not (has cmp (if b then a.pending else a.pending ++ k ∷ []) q)) keys) e
          ∙ ap (λ l. (a.pending ++ k ∷ []) ++ l) (filter_agreeing total exact (λ q. not (has cmp (a.pending ++ k ∷ []) q)) (λ q. not (has cmp a.pending q)) keys (apart_all k a.pending keys d.0))
          ∙ append_assoc a.pending (k ∷ []) (filter (λ q. not (has cmp a.pending q)) keys)
          ∙ sym (ap (λ b. a.pending ++ cond (not b) (k ∷ filter (λ q. not (has cmp a.pending q)) keys) (filter (λ q. not (has cmp a.pending q)) keys)) e)

  filter_id : (test : K → Bool) (xs : List K) → AllByRecursion (λ x. test x ≡ true) xs → filter test xs ≡ xs
  filter_id test [] h = refl
  filter_id test (x ∷ xs) h = cond-true _ (x ∷ filter test xs) _ h.0 ∙ ap (λ l. x ∷ l) (filter_id test xs h.1)

  owed_shown : (f d : Option ℕ) (h : Bool) → h ≡ true → (is_some f || is_some d) ≡ true → (not (option_eq nat_eq f d) || (h && is_some d)) ≡ true
  owed_shown None None h e t = absurd cc
  owed_shown None (Some d) h e t = refl
  owed_shown (Some f) None h e t = refl
  owed_shown (Some f) (Some d) h e t = or_right _ _ (ap (λ b. b && true) e)

  shown_owed : (f d : Option ℕ) (h : Bool) → (not (option_eq nat_eq f d) || (h && is_some d)) ≡ true → (is_some f || is_some d) ≡ true
  shown_owed None None true e = absurd cc
  shown_owed None None false e = absurd cc
  shown_owed None (Some d) h e = refl
  shown_owed (Some f) d h e = refl

  module _ (rows : List (K × Row)) (waiting : List (ℕ × Waiting K)) (next : ℕ) (s : IsStored cmp rows waiting next) where
    abbrev a : AdjRibOut K ℕ
    a = adj_of rows waiting

    abbrev keys : List K
    keys = joined cmp (keys_of a.formatted) (keys_of a.desired)

    sorted_keys : IsStrictlySortedBy cmp keys
    sorted_keys = sorted-joined total exact (keys_of a.formatted) (keys_of a.desired) (sorted_projected total exact formatted_of rows s.ordered)

    has_keys : (q : K) → has cmp keys q ≡ (is_some (value_at cmp a.formatted q) || is_some (value_at cmp a.desired q))
    has_keys q =
        has-joined total exact (keys_of a.formatted) (keys_of a.desired) q
        ∙ ap (λ b. b || has cmp (keys_of a.desired) q) (has-keys_of total exact a.formatted q) ∙ ap (λ b. is_some (value_at cmp a.formatted q) || b) (has-keys_of total exact a.desired q)

    row_shown : (q : K) (o : Option Row) → value_at cmp rows q ≡ o → (is_some (of_row formatted_of o) || is_some (of_row desired_of o)) ≡ is_some o
    row_shown q None e = refl
    row_shown q (Some row) e = shown_row row row.change refl (s.sound q row e)

    -- the keys that have a row
    pub row_keys : keys_of rows ≡ keys
    row_keys = same_list total exact (keys_of rows) keys s.ordered sorted_keys (λ q. has-keys_of total exact rows q
        ∙ sym (row_shown q (value_at cmp rows q) refl)
        ∙ sym (ap (λ o. is_some o || is_some (of_row desired_of (value_at cmp rows q))) (formatted_at total exact rows waiting next s q))
        ∙ sym (ap (λ o. is_some (value_at cmp a.formatted q) || is_some o) (desired_at total exact rows waiting next s q))
        ∙ sym (has_keys q))

    pub all_shown_keys : AllByRecursion (λ k. IsShown cmp a k) (keys_of rows)
    all_shown_keys = subst (AllByRecursion (λ k. IsShown cmp a k)) (sym row_keys) (all_from_has total exact _ keys (λ q h. sym (has_keys q) ∙ h))

    waits_all : (q : K) → has cmp keys q ≡ true → waits cmp nat_eq a.formatted a.desired keys q ≡ true
    waits_all q h = owed_shown (value_at cmp a.formatted q) (value_at cmp a.desired q) (has cmp keys q) h (sym (has_keys q) ∙ h)

    pending_keys : (q : K) → has cmp a.pending q ≡ true → has cmp keys q ≡ true
    pending_keys q h = has_keys q ∙ shown_owed _ _ (has cmp a.forced q) (sym (exact_at total exact rows waiting next s q) ∙ h)

    forced_keys : (q : K) → has cmp a.forced q ≡ true → has cmp keys q ≡ true
    forced_keys q h = has_keys q ∙ ap (λ o. is_some o || is_some (value_at cmp a.desired q)) (formatted_at total exact rows waiting next s q)
        ∙ ap (λ o. is_some (of_row formatted_of (value_at cmp rows q)) || is_some o) (desired_at total exact rows waiting next s q)
        ∙ row_shown q (value_at cmp rows q) refl ∙ by (value_at cmp rows q) (sym (forced_at total exact rows waiting next s q) ∙ h)
      where
        by : (o : Option Row) → is_forced o ≡ true → is_some o ≡ true
        by None e = absurd cc
        by (Some row) e = refl

    or_same : (x y : Bool) → (x ≡ true → y ≡ true) → (x || y) ≡ y
    or_same true y h = sym (h refl)
    or_same false y h = refl

    and_true : (t h : Bool) → t ≡ true → (t && h) ≡ h
    and_true true h e = refl
    and_true false h e = absurd cc

    pub all_forced : with_each_forced cmp a (keys_of rows) ≡ with_all_forced cmp nat_eq a
    all_forced =
        let gs = each_forced keys a
        ∙ same_list total exact (joined cmp a.forced keys) keys (sorted-joined total exact a.forced keys (sorted_projected total exact mark_of rows s.ordered)) sorted_keys
        (λ q. has-joined total exact a.forced keys q ∙ or_same (has cmp a.forced q) (has cmp keys q) (forced_keys q)) in
        let first = filter_id (waits cmp nat_eq a.formatted a.desired keys) a.pending (all_from_has total exact _ a.pending (λ q h. waits_all q (pending_keys q h))) in
        let more = filter_agreeing total exact (λ q. waits cmp nat_eq a.formatted a.desired keys q && not (has cmp a.pending q)) (λ q. not (has cmp a.pending q)) keys
        (all_from_has total exact _ keys (λ q h. and_true (waits cmp nat_eq a.formatted a.desired keys q) (not (has cmp a.pending q)) (waits_all q h))) in
        let ps = each_pending keys a (IsDistinct-from_sorted cmp keys sorted_keys)
        ∙ sym (ap (λ l. l ++ filter (λ q. waits cmp nat_eq a.formatted a.desired keys q && not (has cmp a.pending q)) keys) first ∙ ap (λ l. a.pending ++ l) more) in
        ap (with_each_forced cmp a) row_keys ∙ (λ i. record { formatted = each_formatted keys a i; desired = each_desired keys a i; forced = gs i; pending = ps i })
