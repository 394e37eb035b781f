-- Rows seen as tables, and places seen as the list of their keys.
use Rattle.std.proofs.Common.{◌≡◌, ◌⊎◌, inl, inr, ℕ, ◌<◌, Bool, true, false, cond, List, [], ◌∷◌, ◌++◌, Option, Some, None, refl, sym, ap, subst, ◌∙◌, arith}
use Rattle.std.specs.Prelude.{is_some, IsSome, nat_lt, nat_eq}
use Rattle.std.specs.Ordering.{nat_cmp, is_eq, match_ordering}
use Rattle.std.specs.Map.{remove_entry, keys_of}
use Rattle.std.specs.List.{AllByRecursion}
use Rattle.std.specs.List.Sorted.{IsStrictlySortedBy}
use Rattle.std.specs.BTreeMap.{insert_entry, is_at}
use Rattle.std.specs.Cmp.{IsTotalOrder, nat_cmp_total}
use Rattle.std.specs.FinMap.{IsAntisymmetric, nat_cmp-IsAntisymmetric}
use Rattle.std.specs.declared.cmp.Ordering.{Ordering}
use Rattle.std.specs.declared.cmp.Ordering.TheVariants.{Less, Equal, Greater}
use Rattle.std.proofs.lemmas.Bool.{cond-true, cond-false, or_left, or_right, or_cases, not_from_true, not_from_false, false_from_ne_true}
use Rattle.std.proofs.lemmas.Bool.Decides.{nat_tests}
use Rattle.std.proofs.lemmas.Map.Keys.{sorted_head, sorted_tail}
use Rattle.ug_adjout.specs.Tables.{has, without, value_at, with_value, IsTable}
use Rattle.ug_adjout.specs.TableLaws.{none_above, removed_nothing, below_all, one_key, at_itself}
use Rattle.ug_adjout.specs.PendingLaws.{without_absent}
use Rattle.ug_adjout.specs.declared.waiting.Waiting.{Waiting}
use Rattle.ug_adjout.specs.Waits.{waiting_keys}
use Rattle.ug_adjout.specs.Stored.{projected, projected_with, of_row}

module _ {K V W : Type 0} {cmp : K → K → Ordering} (total : IsTotalOrder cmp) (exact : IsAntisymmetric cmp) (f : V → Option W) where
  all_with : (P : K → Type 0) (k : K) (o : Option W) (es : List (K × W)) → P k → AllByRecursion P (keys_of es) → AllByRecursion P (keys_of (projected_with f k o es))
  all_with P k None es p h = h
  all_with P k (Some v) es p h = (p, h)

  all_projected : (P : K → Type 0) (rows : List (K × V)) → AllByRecursion P (keys_of rows) → AllByRecursion P (keys_of (projected f rows))
  all_projected P [] h = tt
  all_projected P (e ∷ rows) h = all_with P e.0 (f e.1) (projected f rows) h.0 (all_projected P rows h.1)

  sorted_with : (k : K) (o : Option W) (es : List (K × W)) → AllByRecursion (λ y. cmp k y ≡ Less) (keys_of es) → IsTable cmp es → IsTable cmp (projected_with f k o es)
  unfolding IsStrictlySortedBy
  sorted_with k None es above s = s
  sorted_with k (Some v) es above s = (above, s)

  pub sorted_projected : (rows : List (K × V)) → IsTable cmp rows → IsTable cmp (projected f rows)
  unfolding IsStrictlySortedBy
  sorted_projected [] s = tt
  sorted_projected (e ∷ rows) s = sorted_with e.0 (f e.1) (projected f rows) (all_projected (λ y. cmp e.0 y ≡ Less) rows s.0) (sorted_projected rows s.1)

  -- ---- the value at a key is what its row says

  value_with : (b : Bool) (q k : K) (row : V) (o : Option W) (es : List (K × W)) (r : Option V) → is_at (cmp q) k ≡ b → f row ≡ o → value_at cmp es q ≡ of_row f r → (b ≡ true → r ≡ None)
      → value_at cmp (projected_with f k o es) q ≡ of_row f (cond b (Some row) r)
  value_with true q k row None es r at e h none = h ∙ ap (of_row f) (none refl) ∙ sym e
  value_with true q k row (Some v) es r at e h none = cond-true _ (Some v) _ at ∙ sym e
  value_with false q k row None es r at e h none = h
  value_with false q k row (Some v) es r at e h none = cond-false _ (Some v) _ at ∙ h

  pub value_at-projected : (rows : List (K × V)) (q : K) → IsTable cmp rows → value_at cmp (projected f rows) q ≡ of_row f (value_at cmp rows q)
  value_at-projected [] q s = refl
  value_at-projected (e ∷ rows) q s =
      value_with (is_at (cmp q) e.0) q e.0 e.1 (f e.1) (projected f rows) (value_at cmp rows q) refl refl (value_at-projected rows q (sorted_tail cmp e.0 (keys_of rows) s))
      (λ at. ap (value_at cmp rows) (one_key total exact q e.0 at) ∙ none_above total exact e.0 rows (sorted_head cmp e.0 (keys_of rows) s))

  -- ---- a row that changes

  put_front : (k : K) (o : Option W) (es : List (K × W)) → AllByRecursion (λ y. cmp k y ≡ Less) (keys_of es) → projected_with f k o es ≡ with_value cmp es k o
  put_front k None es above = sym (removed_nothing total exact (is_at (cmp k)) es (none_above total exact k es above))
  put_front k (Some v) [] above = refl
  put_front k (Some v) (e ∷ es) above = sym (ap (λ r. match_ordering r ((k, v) ∷ e ∷ es) ((e.0, v) ∷ es) (e ∷ insert_entry cmp es k v)) above.0)

  put_same : (k q : K) (v o : Option W) (es : List (K × W)) → cmp k q ≡ Equal → AllByRecursion (λ y. cmp q y ≡ Less) (keys_of es) → projected_with f q o es ≡ with_value cmp (projected_with f q v es) k o
  put_same k q None o es at above =
      ap (λ z. projected_with f z o es) (sym (exact k q at)) ∙ put_front k o es (subst (λ z. AllByRecursion (λ y. cmp z y ≡ Less) (keys_of es)) (sym (exact k q at)) above)
  put_same k q (Some v) None es at above = sym (cond-true _ es ((q, v) ∷ remove_entry (is_at (cmp k)) es) (ap is_eq at))
  put_same k q (Some v) (Some w) es at above = sym (ap (λ r. match_ordering r ((k, w) ∷ (q, v) ∷ es) ((q, w) ∷ es) ((q, v) ∷ insert_entry cmp es k w)) at)

  put_past : (k q : K) (v o : Option W) (es : List (K × W)) → cmp k q ≡ Greater → projected_with f q v (with_value cmp es k o) ≡ with_value cmp (projected_with f q v es) k o
  put_past k q None o es at = refl
  put_past k q (Some v) None es at = sym (cond-false _ es ((q, v) ∷ remove_entry (is_at (cmp k)) es) (ap is_eq at))
  put_past k q (Some v) (Some w) es at = sym (ap (λ r. match_ordering r ((k, w) ∷ (q, v) ∷ es) ((q, w) ∷ es) ((q, v) ∷ insert_entry cmp es k w)) at)

  insert_step : (r : Ordering) (k : K) (row : V) (e : K × V) (rows rest : List (K × V)) → cmp k e.0 ≡ r → IsTable cmp (e ∷ rows)
      → projected f rest ≡ with_value cmp (projected f rows) k (f row)
      → projected f (match_ordering r ((k, row) ∷ e ∷ rows) ((e.0, row) ∷ rows) (e ∷ rest)) ≡ with_value cmp (projected f (e ∷ rows)) k (f row)
  insert_step Less k row e rows rest at s h =
      put_front k (f row) (projected f (e ∷ rows)) (all_projected (λ y. cmp k y ≡ Less) (e ∷ rows) (at, below_all total exact k e.0 (keys_of rows) at (sorted_head cmp e.0 (keys_of rows) s)))
  insert_step Equal k row e rows rest at s h = put_same k e.0 (f e.1) (f row) (projected f rows) at (all_projected (λ y. cmp e.0 y ≡ Less) rows (sorted_head cmp e.0 (keys_of rows) s))
  insert_step Greater k row e rows rest at s h = ap (projected_with f e.0 (f e.1)) h ∙ put_past k e.0 (f e.1) (f row) (projected f rows) at

  insert_projected : (k : K) (row : V) (rows : List (K × V)) → IsTable cmp rows → projected f (insert_entry cmp rows k row) ≡ with_value cmp (projected f rows) k (f row)
  insert_projected k row [] s = put_front k (f row) [] tt
  insert_projected k row (e ∷ rows) s = insert_step (cmp k e.0) k row e rows (insert_entry cmp rows k row) refl s (insert_projected k row rows (sorted_tail cmp e.0 (keys_of rows) s))

  remove_with : (b : Bool) (k q : K) (v : Option W) (es : List (K × W)) → is_at (cmp k) q ≡ b → AllByRecursion (λ y. cmp q y ≡ Less) (keys_of es)
      → cond b es (projected_with f q v (remove_entry (is_at (cmp k)) es)) ≡ remove_entry (is_at (cmp k)) (projected_with f q v es)
  remove_with true k q None es at above =
      sym (removed_nothing total exact (is_at (cmp k)) es (none_above total exact k es (subst (λ z. AllByRecursion (λ y. cmp z y ≡ Less) (keys_of es)) (sym (one_key total exact k q at)) above)))
  remove_with true k q (Some v) es at above = sym (cond-true _ es ((q, v) ∷ remove_entry (is_at (cmp k)) es) at)
  remove_with false k q None es at above = refl
  remove_with false k q (Some v) es at above = sym (cond-false _ es ((q, v) ∷ remove_entry (is_at (cmp k)) es) at)

  project_cond : (b : Bool) (e : K × V) (rows rest : List (K × V)) → projected f (cond b rows (e ∷ rest)) ≡ cond b (projected f rows) (projected_with f e.0 (f e.1) (projected f rest))
  project_cond true e rows rest = refl
  project_cond false e rows rest = refl

  remove_projected : (k : K) (rows : List (K × V)) → IsTable cmp rows → projected f (remove_entry (is_at (cmp k)) rows) ≡ remove_entry (is_at (cmp k)) (projected f rows)
  remove_projected k [] s = refl
  remove_projected k (e ∷ rows) s =
      project_cond (is_at (cmp k) e.0) e rows (remove_entry (is_at (cmp k)) rows)
      ∙ ap (λ l. cond (is_at (cmp k) e.0) (projected f rows) (projected_with f e.0 (f e.1) l)) (remove_projected k rows (sorted_tail cmp e.0 (keys_of rows) s))
      ∙ remove_with (is_at (cmp k) e.0) k e.0 (f e.1) (projected f rows) refl (all_projected (λ y. cmp e.0 y ≡ Less) rows (sorted_head cmp e.0 (keys_of rows) s))

  -- a table of the rows changes as the rows do
  pub projected-with_value : (rows : List (K × V)) (k : K) (row : Option V) → IsTable cmp rows → projected f (with_value cmp rows k row) ≡ with_value cmp (projected f rows) k (of_row f row)
  projected-with_value rows k None s = remove_projected k rows s
  projected-with_value rows k (Some row) s = insert_projected k row rows s

-- ---- places

above : (n p : ℕ) → p < n → nat_cmp n p ≡ Greater
above n p lt = cond-false _ Less _ (not_less n p lt) ∙ cond-false _ Equal Greater (not_same n p lt)
  where
    not_less : (n p : ℕ) → p < n → nat_lt n p ≡ false
    not_less n p lt = grind (arith, nat_tests)

    not_same : (n p : ℕ) → p < n → nat_eq n p ≡ false
    not_same n p lt = grind (arith, nat_tests)

module _ {X : Type 0} where
  -- what is found behind the first is found
  pub tail_lookup : (e : ℕ × X) (es : List (ℕ × X)) (p : ℕ) (w : X) → IsTable nat_cmp (e ∷ es) → value_at nat_cmp es p ≡ Some w → value_at nat_cmp (e ∷ es) p ≡ Some w
  tail_lookup e es p w s h = by (is_at (nat_cmp p) e.0) refl
    where
      by : (b : Bool) → is_at (nat_cmp p) e.0 ≡ b → value_at nat_cmp (e ∷ es) p ≡ Some w
      by true at =
          absurd (let z = sym h ∙ ap (value_at nat_cmp es) (one_key nat_cmp_total nat_cmp-IsAntisymmetric p e.0 at) ∙ none_above nat_cmp_total nat_cmp-IsAntisymmetric e.0 es (sorted_head nat_cmp e.0 (keys_of es) s) in cc)
      by false at = cond-false _ (Some e.1) _ at ∙ h

  pub first_lookup : (e : ℕ × X) (es : List (ℕ × X)) → value_at nat_cmp (e ∷ es) e.0 ≡ Some e.1
  first_lookup e es = cond-true _ (Some e.1) _ (at_itself nat_cmp_total nat_cmp-IsAntisymmetric e.0)

  -- a place behind all others stands last
  pub put_last : (n : ℕ) (w : X) (es : List (ℕ × X)) → IsTable nat_cmp es → ((p : ℕ) (v : X) → value_at nat_cmp es p ≡ Some v → p < n) → insert_entry nat_cmp es n w ≡ es ++ (n, w) ∷ []
  put_last n w [] s h = refl
  put_last n w (e ∷ es) s h =
      ap (λ r. match_ordering r ((n, w) ∷ e ∷ es) ((e.0, w) ∷ es) (e ∷ insert_entry nat_cmp es n w)) (above n e.0 (h e.0 e.1 (first_lookup e es)))
      ∙ ap (λ l. e ∷ l) (put_last n w es (sorted_tail nat_cmp e.0 (keys_of es) s) (λ p v at. h p v (tail_lookup e es p v s at)))

module _ {K : Type 0} {cmp : K → K → Ordering} (total : IsTotalOrder cmp) (exact : IsAntisymmetric cmp) where
  pub keys-append : (es fs : List (ℕ × Waiting K)) → waiting_keys (es ++ fs) ≡ waiting_keys es ++ waiting_keys fs
  keys-append [] fs = refl
  keys-append (e ∷ es) fs = ap (λ l. e.1.key ∷ l) (keys-append es fs)

  -- who waits somewhere is in the list, and who is in the list waits somewhere
  pub has_place : (es : List (ℕ × Waiting K)) (p : ℕ) (w : Waiting K) → value_at nat_cmp es p ≡ Some w → has cmp (waiting_keys es) w.key ≡ true
  has_place [] p w h = absurd cc
  has_place (e ∷ es) p w h = by (is_at (nat_cmp p) e.0) refl (has_place es p w)
    where
      key_of : (a b : Waiting K) → Some a ≡ Some b → a.key ≡ b.key
      key_of a b t = cc

      by : (b : Bool) → is_at (nat_cmp p) e.0 ≡ b → (value_at nat_cmp es p ≡ Some w → has cmp (waiting_keys es) w.key ≡ true) → has cmp (waiting_keys (e ∷ es)) w.key ≡ true
      by true at more = or_left _ _ (ap (is_at (cmp w.key)) (key_of e.1 w (sym (cond-true _ (Some e.1) (value_at nat_cmp es p) at) ∙ h)) ∙ at_itself total exact w.key)
      by false at more = or_right _ _ (more (sym (cond-false _ (Some e.1) (value_at nat_cmp es p) at) ∙ h))

  pub place_of : (es : List (ℕ × Waiting K)) (q : K) → IsTable nat_cmp es → has cmp (waiting_keys es) q ≡ true → (p : ℕ) × (w : Waiting K) × (value_at nat_cmp es p ≡ Some w) × (w.key ≡ q)
  place_of [] q s h = absurd cc
  place_of (e ∷ es) q s h = by (or_cases (is_at (cmp q) e.1.key) (has cmp (waiting_keys es) q) h) (place_of es q (sorted_tail nat_cmp e.0 (keys_of es) s))
    where
      by : (is_at (cmp q) e.1.key ≡ true) ⊎ (has cmp (waiting_keys es) q ≡ true) → (has cmp (waiting_keys es) q ≡ true → (p : ℕ) × (w : Waiting K) × (value_at nat_cmp es p ≡ Some w) × (w.key ≡ q))
          → (p : ℕ) × (w : Waiting K) × (value_at nat_cmp (e ∷ es) p ≡ Some w) × (w.key ≡ q)
      by (inl at) more = (e.0, e.1, first_lookup e es, sym (one_key total exact q e.1.key at))
      by (inr there) more = let m = more there in (m.0, m.1, tail_lookup e es m.0 m.1 s m.2, m.3)

  -- ---- a place whose key stays

  keep_step : (r : Ordering) (p : ℕ) (w : Waiting K) (e : ℕ × Waiting K) (es rest : List (ℕ × Waiting K)) → nat_cmp p e.0 ≡ r → IsTable nat_cmp (e ∷ es)
      → IsSome (value_at nat_cmp (e ∷ es) p) → ((v : Waiting K) → value_at nat_cmp (e ∷ es) p ≡ Some v → v.key ≡ w.key)
      → (IsSome (value_at nat_cmp es p) → ((v : Waiting K) → value_at nat_cmp es p ≡ Some v → v.key ≡ w.key) → waiting_keys rest ≡ waiting_keys es)
      → waiting_keys (match_ordering r ((p, w) ∷ e ∷ es) ((e.0, w) ∷ es) (e ∷ rest)) ≡ waiting_keys (e ∷ es)
  keep_step Less p w e es rest at s some same more =
      absurd (let none = none_above nat_cmp_total nat_cmp-IsAntisymmetric p (e ∷ es) (at, below_all nat_cmp_total nat_cmp-IsAntisymmetric p e.0 (keys_of es) at (sorted_head nat_cmp e.0 (keys_of es) s)) in
      let t = sym some ∙ ap is_some none in cc)
  keep_step Equal p w e es rest at s some same more = ap (λ k. k ∷ waiting_keys es) (sym (same e.1 (cond-true _ (Some e.1) _ (ap is_eq at))))
  keep_step Greater p w e es rest at s some same more =
      let past = cond-false _ (Some e.1) (value_at nat_cmp es p) (ap is_eq at) in
      ap (λ l. e.1.key ∷ l) (more (sym (ap is_some past) ∙ some) (λ v h. same v (past ∙ h)))

  pub keys_kept : (es : List (ℕ × Waiting K)) (p : ℕ) (w : Waiting K) → IsTable nat_cmp es → IsSome (value_at nat_cmp es p) → ((v : Waiting K) → value_at nat_cmp es p ≡ Some v → v.key ≡ w.key)
      → waiting_keys (insert_entry nat_cmp es p w) ≡ waiting_keys es
  keys_kept [] p w s some same = absurd cc
  keys_kept (e ∷ es) p w s some same =
      keep_step (nat_cmp p e.0) p w e es (insert_entry nat_cmp es p w) refl s some same (λ t u. keys_kept es p w (sorted_tail nat_cmp e.0 (keys_of es) s) t u)

  -- ---- a place that goes

  no_key : (es : List (ℕ × Waiting K)) (key : K) → IsTable nat_cmp es → ((p : ℕ) (w : Waiting K) → value_at nat_cmp es p ≡ Some w → w.key ≡ key → ⊥) → has cmp (waiting_keys es) key ≡ false
  no_key es key s none = false_from_ne_true (has cmp (waiting_keys es) key) (λ h. let p = place_of es key s h in none p.0 p.1 p.2 p.3)

  pub keys_removed : (es : List (ℕ × Waiting K)) (p : ℕ) (key : K) → IsTable nat_cmp es → ((q : ℕ) (w : Waiting K) → value_at nat_cmp es q ≡ Some w → w.key ≡ key → q ≡ p)
      → ((w : Waiting K) → value_at nat_cmp es p ≡ Some w → w.key ≡ key) → waiting_keys (remove_entry (is_at (nat_cmp p)) es) ≡ without cmp (waiting_keys es) key
  keys_removed [] p key s one own = refl
  keys_removed (e ∷ es) p key s one own =
      by (is_at (nat_cmp p) e.0) refl (keys_removed es p key (sorted_tail nat_cmp e.0 (keys_of es) s) (λ q w h k. one q w (tail_lookup e es q w s h) k) (λ w h. own w (tail_lookup e es p w s h)))
    where
      by : (b : Bool) → is_at (nat_cmp p) e.0 ≡ b → waiting_keys (remove_entry (is_at (nat_cmp p)) es) ≡ without cmp (waiting_keys es) key
          → waiting_keys (cond b es (e ∷ remove_entry (is_at (nat_cmp p)) es)) ≡ without cmp (waiting_keys (e ∷ es)) key
      by true at more =
          let here : e.1.key ≡ key = own e.1 (cond-true _ (Some e.1) _ at) in
          let gone : has cmp (waiting_keys es) key ≡ false = no_key es key (sorted_tail nat_cmp e.0 (keys_of es) s) (λ q w h k.
          let z = sym (none_above nat_cmp_total nat_cmp-IsAntisymmetric e.0 es (sorted_head nat_cmp e.0 (keys_of es) s)) ∙ ap (value_at nat_cmp es) (sym (one_key nat_cmp_total nat_cmp-IsAntisymmetric p e.0 at) ∙ sym (one q w (tail_lookup e es q w s h) k)) ∙ h in cc) in
          sym (without_absent total exact key (waiting_keys es) gone)
          ∙ sym (cond-false _ (e.1.key ∷ without cmp (waiting_keys es) key) _ (not_from_true _ (ap (is_at (cmp key)) here ∙ at_itself total exact key)))
      by false at more =
          let other : is_at (cmp key) e.1.key ≡ false = false_from_ne_true _ (λ k. let z = ap (is_at (nat_cmp p)) (one e.0 e.1 (first_lookup e es) (sym (one_key total exact key e.1.key k))) in
          let t = at_itself nat_cmp_total nat_cmp-IsAntisymmetric p in cc) in
          ap (λ l. e.1.key ∷ l) more ∙ sym (cond-true _ (e.1.key ∷ without cmp (waiting_keys es) key) _ (not_from_false _ other))
