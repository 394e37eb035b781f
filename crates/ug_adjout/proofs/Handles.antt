-- The list of waiting keys where it has handles in the place of the keys.
use Rattle.std.proofs.Common.{◌≡◌, ℕ, Bool, true, false, cond, List, [], ◌∷◌, length, slice_get, suc, Option, Some, None, refl, sym, ap, subst, ◌∙◌}
use Rattle.std.specs.Prelude.{IsSome, nat_eq, nat_le, if◌then◌else◌}
use Rattle.std.specs.Option.{option_eq}
use Rattle.std.specs.List.{filter, AllByRecursion}
use Rattle.std.specs.List.Sorted.{IsStrictlySortedBy}
use Rattle.std.specs.Ordering.{nat_cmp, match_ordering}
use Rattle.std.specs.Map.{remove_entry, keys_of}
use Rattle.std.specs.BTreeMap.{insert_entry, is_at}
use Rattle.std.specs.Cmp.{nat_cmp_total}
use Rattle.std.specs.FinMap.{nat_cmp-IsAntisymmetric}
use Rattle.std.specs.declared.cmp.Ordering.{Ordering}
use Rattle.std.specs.declared.cmp.Ordering.TheVariants.{Less, Equal, Greater}
use Rattle.std.proofs.lemmas.Map.Keys.{sorted_tail}
use Rattle.ug_adjout.specs.Tables.{value_at, with_value, IsTable}
use Rattle.ug_adjout.specs.TableLaws.{value_at-other, one_key, with_value-sorted}
use Rattle.ug_adjout.specs.declared.row.Row.{Row}
use Rattle.ug_adjout.specs.declared.row.Change.{Change}
use Rattle.ug_adjout.specs.declared.seat.Seat.{Seat}
use Rattle.ug_adjout.specs.declared.step.Step.{Step}
use Rattle.ug_adjout.specs.declared.step.Step.TheVariants.{Want, Format}
use Rattle.ug_adjout.specs.declared.waiting.Waiting.{Waiting}
use Rattle.ug_adjout.specs.Seats.{key_of, named_by, named_waiting, named, AreNamed, IsLined}
use Rattle.ug_adjout.specs.Stepped.{wanted_in, formatted_in, lined}
use Rattle.ug_adjout.specs.Stored.{projected_with, of_row, is_owed}
use Rattle.ug_adjout.specs.Waits.{waiting_keys, keys_for, first_announced, value_or, from_place}
use Rattle.ug_adjout.proofs.Lists.{value_at-projected, projected-with_value, first_lookup, tail_lookup}

-- ---- what is so of each value of a table

same_some : {X : Type 0} (a b : X) → Some a ≡ Some b → a ≡ b
same_some a b e = cc

module _ {X : Type 0} (P : X → Type 0) where
  insert_all : (r : Ordering) (p : ℕ) (w : X) (e : ℕ × X) (es rest : List (ℕ × X)) → P w → P e.1 → AllByRecursion (λ x. P x.1) es → AllByRecursion (λ x. P x.1) rest
      → AllByRecursion (λ x. P x.1) (match_ordering r ((p, w) ∷ e ∷ es) ((e.0, w) ∷ es) (e ∷ rest))
  insert_all Less p w e es rest a b h g = (a, (b, h))
  insert_all Equal p w e es rest a b h g = (a, h)
  insert_all Greater p w e es rest a b h g = (b, g)

  remove_all : (b : Bool) (e : ℕ × X) (es rest : List (ℕ × X)) → P e.1 → AllByRecursion (λ x. P x.1) es → AllByRecursion (λ x. P x.1) rest → AllByRecursion (λ x. P x.1) (cond b es (e ∷ rest))
  remove_all true e es rest a h g = h
  remove_all false e es rest a h g = (a, g)

  pub all_inserted : (es : List (ℕ × X)) (p : ℕ) (w : X) → P w → AllByRecursion (λ x. P x.1) es → AllByRecursion (λ x. P x.1) (insert_entry nat_cmp es p w)
  all_inserted [] p w a h = (a, tt)
  all_inserted (e ∷ es) p w a h = insert_all (nat_cmp p e.0) p w e es _ a h.0 h.1 (all_inserted es p w a h.1)

  pub all_removed : (es : List (ℕ × X)) (p : ℕ) → AllByRecursion (λ x. P x.1) es → AllByRecursion (λ x. P x.1) (remove_entry (is_at (nat_cmp p)) es)
  all_removed [] p h = tt
  all_removed (e ∷ es) p h = remove_all (is_at (nat_cmp p) e.0) e es _ h.0 h.1 (all_removed es p h.1)

  all_at : (es : List (ℕ × X)) (p : ℕ) (w : X) → AllByRecursion (λ x. P x.1) es → value_at nat_cmp es p ≡ Some w → P w
  all_at [] p w h e = absurd cc
  all_at (x ∷ es) p w h e = by (is_at (nat_cmp p) x.0) e (all_at es p w h.1)
    where
      by : (b : Bool) → cond b (Some x.1) (value_at nat_cmp es p) ≡ Some w → (value_at nat_cmp es p ≡ Some w → P w) → P w
      by true t more = subst P (same_some x.1 w t) h.0
      by false t more = more t

  pub all_from : (es : List (ℕ × X)) → IsTable nat_cmp es → ((p : ℕ) (w : X) → value_at nat_cmp es p ≡ Some w → P w) → AllByRecursion (λ x. P x.1) es
  all_from [] t h = tt
  all_from (e ∷ es) t h = (h e.0 e.1 (first_lookup e es), all_from es (sorted_tail nat_cmp e.0 (keys_of es) t) (λ p w g. h p w (tail_lookup e es p w t g)))

-- what waits elsewhere waits on
pub still_there : {X : Type 0} (es : List (ℕ × X)) (p place : ℕ) (w v : X) → value_at nat_cmp es p ≡ Some w → value_at nat_cmp es place ≡ None → value_at nat_cmp (insert_entry nat_cmp es place v) p ≡ Some w
still_there es p place w v there free = by (is_at (nat_cmp p) place) refl
  where
    by : (b : Bool) → is_at (nat_cmp p) place ≡ b → value_at nat_cmp (insert_entry nat_cmp es place v) p ≡ Some w
    by true e = absurd (let z = sym there ∙ ap (value_at nat_cmp es) (one_key nat_cmp_total nat_cmp-IsAntisymmetric p place e) ∙ free in cc)
    by false e = value_at-other nat_cmp_total nat_cmp-IsAntisymmetric es place p (Some v) e ∙ there

-- ---- a handle's key

module _ {K : Type 0} where
  is_named : (value : Option ℕ) (o : Option (Seat K)) (w : Waiting K) → named_by value o ≡ Some w → (seat : Seat K) × (o ≡ Some seat) × (seat.key ≡ w.key) × (value ≡ w.value)
  is_named value None w e = absurd cc
  is_named value (Some seat) w e =
      let same : record { key = seat.key; value = value } ≡ w = same_waiting _ w e in
      (seat, refl, ap (λ (x : Waiting K). x.key) same, ap (λ (x : Waiting K). x.value) same)
    where
      same_waiting : (a b : Waiting K) → Some a ≡ Some b → a ≡ b
      same_waiting a b t = cc

  not_named : (value : Option ℕ) (o : Option (Seat K)) → IsSome o → named_by value o ≡ None → ⊥
  not_named value None s e = cc
  not_named value (Some seat) s e = cc

  named_key : (value : Option ℕ) (o : Option (Seat K)) (key : K) → key_of o ≡ Some key → named_by value o ≡ Some (record { key = key; value = value })
  named_key value None key e = absurd cc
  named_key value (Some seat) key e = ap Some (λ i. record { key = same_key seat.key key e i; value = value })
    where
      same_key : (a b : K) → Some a ≡ Some b → a ≡ b
      same_key a b t = cc

  same_name : (value : Option ℕ) (a b : Option (Seat K)) → IsSome a → ((key : K) → key_of a ≡ Some key → key_of b ≡ Some key) → named_by value b ≡ named_by value a
  same_name value None b s h = absurd cc
  same_name value (Some seat) b s h = named_key value b seat.key (h seat.key refl)

  pub key_some : (o : Option (Seat K)) (key : K) → key_of o ≡ Some key → IsSome o
  key_some None key e = absurd cc
  key_some (Some seat) key e = refl

  module _ (at now : ℕ → Option (Seat K)) (same : (handle : ℕ) (key : K) → key_of (at handle) ≡ Some key → key_of (now handle) ≡ Some key) where
    -- where the handles of the list keep their keys, so does the list
    pub names_kept : (line : List (ℕ × Waiting ℕ)) → AreNamed at line → named now line ≡ named at line
    names_kept [] h = refl
    names_kept (e ∷ line) h =
        ap (λ o. projected_with (named_waiting now) e.0 o (named now line)) (same_name e.1.value (at e.1.key) (now e.1.key) h.0 (same e.1.key))
        ∙ ap (λ l. projected_with (named_waiting now) e.0 (named_waiting at e.1) l) (names_kept line h.1)

    still_some : (handle : ℕ) (o : Option (Seat K)) → at handle ≡ o → IsSome o → IsSome (now handle)
    still_some handle None e s = absurd cc
    still_some handle (Some seat) e s = key_some (now handle) seat.key (same handle seat.key (ap key_of e))

    pub still_named : (line : List (ℕ × Waiting ℕ)) → AreNamed at line → AreNamed now line
    still_named [] h = tt
    still_named (e ∷ line) h = (still_some e.1.key (at e.1.key) refl h.0, still_named line h.1)

  module _ (at : ℕ → Option (Seat K)) where
    -- ---- the list by handles and by keys

    pub named_at : (line : List (ℕ × Waiting ℕ)) (p : ℕ) → IsTable nat_cmp line → value_at nat_cmp (named at line) p ≡ of_row (named_waiting at) (value_at nat_cmp line p)
    named_at line p s = value_at-projected nat_cmp_total nat_cmp-IsAntisymmetric (named_waiting at) line p s

    -- what waits by its key waits by a handle that has this key
    pub who_waits : (line : List (ℕ × Waiting ℕ)) (p : ℕ) (w : Waiting K) → IsTable nat_cmp line → value_at nat_cmp (named at line) p ≡ Some w
        → (handle : ℕ) × (seat : Seat K) × (value_at nat_cmp line p ≡ Some (record { key = handle; value = w.value })) × (at handle ≡ Some seat) × (seat.key ≡ w.key)
    who_waits line p w s e = by (value_at nat_cmp line p) refl (sym (named_at line p s) ∙ e)
      where
        by : (o : Option (Waiting ℕ)) → value_at nat_cmp line p ≡ o → of_row (named_waiting at) o ≡ Some w
            → (handle : ℕ) × (seat : Seat K) × (value_at nat_cmp line p ≡ Some (record { key = handle; value = w.value })) × (at handle ≡ Some seat) × (seat.key ≡ w.key)
        by None t h = absurd cc
        by (Some v) t h =
            let n = is_named v.value (at v.key) w h in
            (v.key, n.0, t ∙ ap Some (λ i. record { key = v.key; value = n.3 i }), n.1, n.2)

    pub waits_by_key : (line : List (ℕ × Waiting ℕ)) (p handle : ℕ) (value : Option ℕ) (key : K) → IsTable nat_cmp line → value_at nat_cmp line p ≡ Some (record { key = handle; value = value })
        → key_of (at handle) ≡ Some key → value_at nat_cmp (named at line) p ≡ Some (record { key = key; value = value })
    waits_by_key line p handle value key s e k = named_at line p s ∙ ap (of_row (named_waiting at)) e ∙ named_key value (at handle) key k

    -- by the only one that has this key
    pub waits_by_handle : (line : List (ℕ × Waiting ℕ)) (p : ℕ) (w : Waiting K) (handle : ℕ) → IsTable nat_cmp line → ((other : ℕ) → key_of (at other) ≡ Some w.key → Some handle ≡ Some other) → value_at nat_cmp (named at line) p ≡ Some w
        → value_at nat_cmp line p ≡ Some (record { key = handle; value = w.value })
    waits_by_handle line p w handle s only e =
        let by = who_waits line p w s e in
        by.2 ∙ ap (λ n. Some (record { key = n; value = w.value })) (same_some _ _ (sym (only by.0 (ap key_of by.3 ∙ ap Some by.4))))

    pub some_at : (line : List (ℕ × Waiting ℕ)) (p : ℕ) (w : Waiting ℕ) → AreNamed at line → value_at nat_cmp line p ≡ Some w → IsSome (at w.key)
    some_at line p w h e = all_at (λ v. IsSome (at v.key)) line p w h e

    -- where nobody waits by a key, nobody waits by a handle
    pub nobody_waits : (line : List (ℕ × Waiting ℕ)) (p : ℕ) → IsLined at line → value_at nat_cmp (named at line) p ≡ None → value_at nat_cmp line p ≡ None
    nobody_waits line p l e = by (value_at nat_cmp line p) refl (sym (named_at line p l.in_line) ∙ e)
      where
        by : (o : Option (Waiting ℕ)) → value_at nat_cmp line p ≡ o → of_row (named_waiting at) o ≡ None → o ≡ None
        by None t h = refl
        by (Some v) t h = absurd (not_named v.value (at v.key) (some_at line p v l.are_named t) h)

    pub named_put : (line : List (ℕ × Waiting ℕ)) (p handle : ℕ) (value : Option ℕ) (key : K) → IsTable nat_cmp line → key_of (at handle) ≡ Some key
        → named at (insert_entry nat_cmp line p (record { key = handle; value = value })) ≡ insert_entry nat_cmp (named at line) p (record { key = key; value = value })
    named_put line p handle value key s e =
        projected-with_value nat_cmp_total nat_cmp-IsAntisymmetric (named_waiting at) line p (Some (record { key = handle; value = value })) s
        ∙ ap (with_value nat_cmp (named at line) p) (named_key value (at handle) key e)

    pub named_removed : (line : List (ℕ × Waiting ℕ)) (p : ℕ) → IsTable nat_cmp line → named at (remove_entry (is_at (nat_cmp p)) line) ≡ remove_entry (is_at (nat_cmp p)) (named at line)
    named_removed line p s = projected-with_value nat_cmp_total nat_cmp-IsAntisymmetric (named_waiting at) line p None s

    pub lined_put : (line : List (ℕ × Waiting ℕ)) (p handle : ℕ) (value : Option ℕ) → IsLined at line → IsSome (at handle) → IsLined at (insert_entry nat_cmp line p (record { key = handle; value = value }))
    lined_put line p handle value l some = record {
      in_line = with_value-sorted nat_cmp_total nat_cmp-IsAntisymmetric line p (Some (record { key = handle; value = value })) l.in_line;
      are_named = all_inserted (λ w. IsSome (at w.key)) line p (record { key = handle; value = value }) some l.are_named;
    }

    pub lined_removed : (line : List (ℕ × Waiting ℕ)) (p : ℕ) → IsLined at line → IsLined at (remove_entry (is_at (nat_cmp p)) line)
    lined_removed line p l = record {
      in_line = with_value-sorted nat_cmp_total nat_cmp-IsAntisymmetric line p None l.in_line;
      are_named = all_removed (λ w. IsSome (at w.key)) line p l.are_named;
    }

    -- ---- what is asked of the list

    pub named_length : (line : List (ℕ × Waiting ℕ)) → AreNamed at line → length (named at line) ≡ length line
    named_length [] h = refl
    named_length (e ∷ line) h = by (at e.1.key) h.0 (named_length line h.1)
      where
        by : (o : Option (Seat K)) → IsSome o → length (named at line) ≡ length line → length (projected_with (named_waiting at) e.0 (named_by e.1.value o) (named at line)) ≡ length (e ∷ line)
        by None s more = absurd cc
        by (Some seat) s more = ap suc more

    pub named_announced : (line : List (ℕ × Waiting ℕ)) → AreNamed at line → first_announced (named at line) ≡ first_announced line
    named_announced [] h = refl
    named_announced (e ∷ line) h = by (at e.1.key) h.0 (named_announced line h.1)
      where
        by : (o : Option (Seat K)) → IsSome o → first_announced (named at line) ≡ first_announced line
            → first_announced (projected_with (named_waiting at) e.0 (named_by e.1.value o) (named at line)) ≡ value_or e.1.value (first_announced line)
        by None s more = absurd cc
        by (Some seat) s more = ap (value_or e.1.value) more

    -- the keys of these handles
    abbrev pub named_with : Option (Seat K) → List K → List K
    named_with None keys = keys
    named_with (Some seat) keys = seat.key ∷ keys

    abbrev pub keys_at : List ℕ → List K
    keys_at [] = []
    keys_at (handle ∷ handles) = named_with (at handle) (keys_at handles)

    pub named_keys_for : (value : Option ℕ) (line : List (ℕ × Waiting ℕ)) → keys_for value (named at line) ≡ keys_at (keys_for value line)
    named_keys_for value [] = refl
    named_keys_for value (e ∷ line) = by (at e.1.key) (option_eq nat_eq e.1.value value) refl refl (named_keys_for value line)
      where
        by : (o : Option (Seat K)) (b : Bool) → at e.1.key ≡ o → option_eq nat_eq e.1.value value ≡ b → keys_for value (named at line) ≡ keys_at (keys_for value line)
            → waiting_keys (filter (λ x. option_eq nat_eq x.1.value value) (projected_with (named_waiting at) e.0 (named_by e.1.value o) (named at line)))
            ≡ keys_at (waiting_keys (cond b (e ∷ filter (λ x. option_eq nat_eq x.1.value value) line) (filter (λ x. option_eq nat_eq x.1.value value) line)))
        by None true t u more = more ∙ sym (ap (λ o. named_with o (keys_at (keys_for value line))) t)
        by None false t u more = more
        by (Some seat) true t u more =
            ap (λ b. waiting_keys (cond b ((e.0, record { key = seat.key; value = e.1.value }) ∷ filter (λ x. option_eq nat_eq x.1.value value) (named at line)) (filter (λ x. option_eq nat_eq x.1.value value) (named at line)))) u
            ∙ ap (λ l. seat.key ∷ l) more ∙ sym (ap (λ o. named_with o (keys_at (keys_for value line))) t)
        by (Some seat) false t u more =
            ap (λ b. waiting_keys (cond b ((e.0, record { key = seat.key; value = e.1.value }) ∷ filter (λ x. option_eq nat_eq x.1.value value) (named at line)) (filter (λ x. option_eq nat_eq x.1.value value) (named at line)))) u ∙ more

    all_kept : (pick : ℕ × Waiting ℕ → Bool) (line : List (ℕ × Waiting ℕ)) → AreNamed at line → AreNamed at (filter pick line)
    all_kept pick [] h = tt
    all_kept pick (e ∷ line) h = by (pick e) (all_kept pick line h.1)
      where
        by : (b : Bool) → AreNamed at (filter pick line) → AreNamed at (cond b (e ∷ filter pick line) (filter pick line))
        by true g = (h.0, g)
        by false g = g

    first_key : (line : List (ℕ × Waiting ℕ)) → AreNamed at line → slice_get (keys_at (waiting_keys line)) 0 ≡ of_row (λ handle. key_of (at handle)) (slice_get (waiting_keys line) 0)
    first_key [] h = refl
    first_key (e ∷ line) h = by (at e.1.key) h.0
      where
        by : (o : Option (Seat K)) → IsSome o → slice_get (named_with o (keys_at (waiting_keys line))) 0 ≡ key_of o
        by None s = absurd cc
        by (Some seat) s = refl

    -- the first key is that of the first handle
    pub named_first : (value : Option ℕ) (line : List (ℕ × Waiting ℕ)) → AreNamed at line
        → slice_get (keys_for value (named at line)) 0 ≡ of_row (λ handle. key_of (at handle)) (slice_get (keys_for value line) 0)
    named_first value line h = ap (λ l. slice_get l 0) (named_keys_for value line) ∙ first_key (filter (λ e. option_eq nat_eq e.1.value value) line) (all_kept _ line h)

    named_from : (place : ℕ) (line : List (ℕ × Waiting ℕ)) → from_place place (named at line) ≡ named at (from_place place line)
    named_from place [] = refl
    named_from place (e ∷ line) = by (at e.1.key) (nat_le place e.0) refl refl (named_from place line)
      where
        by : (o : Option (Seat K)) (b : Bool) → at e.1.key ≡ o → nat_le place e.0 ≡ b → from_place place (named at line) ≡ named at (from_place place line)
            → from_place place (projected_with (named_waiting at) e.0 (named_by e.1.value o) (named at line)) ≡ named at (cond b (e ∷ from_place place line) (from_place place line))
        by None true t u more = more ∙ sym (ap (λ o. projected_with (named_waiting at) e.0 (named_by e.1.value o) (named at (from_place place line))) t)
        by None false t u more = more
        by (Some seat) true t u more =
            ap (λ b. cond b ((e.0, record { key = seat.key; value = e.1.value }) ∷ from_place place (named at line)) (from_place place (named at line))) u
            ∙ ap (λ l. (e.0, record { key = seat.key; value = e.1.value }) ∷ l) more
            ∙ sym (ap (λ o. projected_with (named_waiting at) e.0 (named_by e.1.value o) (named at (from_place place line))) t)
        by (Some seat) false t u more =
            ap (λ b. cond b ((e.0, record { key = seat.key; value = e.1.value }) ∷ from_place place (named at line)) (from_place place (named at line))) u ∙ more

    -- nothing waits from the place on
    pub none_from : (place : ℕ) (line : List (ℕ × Waiting ℕ)) → None ≡ slice_get (from_place place line) 0 → None ≡ slice_get (from_place place (named at line)) 0
    none_from place line e = by (from_place place line) refl e
      where
        by : (l : List (ℕ × Waiting ℕ)) → from_place place line ≡ l → None ≡ slice_get l 0 → None ≡ slice_get (from_place place (named at line)) 0
        by [] t h = sym (ap (λ l. slice_get l 0) (named_from place line ∙ ap (named at) t))
        by (x ∷ l) t h = absurd cc

    -- or something does, and its handle has a key
    pub first_from_at : (place : ℕ) (line : List (ℕ × Waiting ℕ)) (p : ℕ) (w : Waiting ℕ) (key : K) → Some (p, w) ≡ slice_get (from_place place line) 0 → key_of (at w.key) ≡ Some key
        → Some (p, record { key = key; value = w.value }) ≡ slice_get (from_place place (named at line)) 0
    first_from_at place line p w key e k = by (from_place place line) refl e
      where
        same_entry : (x : ℕ × Waiting ℕ) → Some (p, w) ≡ Some x → (p, w) ≡ x
        same_entry x t = cc

        by : (l : List (ℕ × Waiting ℕ)) → from_place place line ≡ l → Some (p, w) ≡ slice_get l 0 → Some (p, record { key = key; value = w.value }) ≡ slice_get (from_place place (named at line)) 0
        by [] t h = absurd cc
        by (x ∷ l) t h =
            let whole : from_place place line ≡ (p, w) ∷ l = t ∙ ap (λ y. y ∷ l) (sym (same_entry x h)) in
            sym
            (ap (λ l. slice_get l 0) (named_from place line ∙ ap (named at) whole) ∙ ap (λ o. slice_get (projected_with (named_waiting at) p o (named at l)) 0) (named_key w.value (at w.key) key k))

    pub first_some : (place : ℕ) (line : List (ℕ × Waiting ℕ)) (p : ℕ) (w : Waiting ℕ) → AreNamed at line → Some (p, w) ≡ slice_get (from_place place line) 0 → key_of (at w.key) ≡ None → ⊥
    first_some place line p w all e none = by (from_place place line) (all_kept (λ x. nat_le place x.0) line all) e
      where
        same_waiting : (x : ℕ × Waiting ℕ) → Some (p, w) ≡ Some x → w ≡ x.1
        same_waiting x t = cc

        no_key : (o : Option (Seat K)) → IsSome o → key_of o ≡ None → ⊥
        no_key None s t = cc
        no_key (Some seat) s t = cc

        by : (l : List (ℕ × Waiting ℕ)) → AreNamed at l → Some (p, w) ≡ slice_get l 0 → ⊥
        by [] a h = cc
        by (x ∷ l) a h = no_key (at x.1.key) a.0 (ap (λ (v : Waiting ℕ). key_of (at v.key)) (sym (same_waiting x h)) ∙ none)

    -- ---- the list after a step

    -- whose handle has this key
    pub lined_by_key : (step : Step) (handle : ℕ) (key : K) (row : Row) (line : List (ℕ × Waiting ℕ)) → IsTable nat_cmp line → key_of (at handle) ≡ Some key
        → named at (lined step handle row line) ≡ lined step key row (named at line)
    lined_by_key (Want want) handle key row line s k = by row.change
      where
        begun : (b : Bool)
            → named at (if b then line else insert_entry nat_cmp line want.place (record { key = handle; value = want.desired }))
            ≡ (if b then named at line else insert_entry nat_cmp (named at line) want.place (record { key = key; value = want.desired }))
        begun true = refl
        begun false = named_put line want.place handle want.desired key s k

        changed : (place : ℕ) (b : Bool)
            → named at (if b then insert_entry nat_cmp line place (record { key = handle; value = want.desired }) else remove_entry (is_at (nat_cmp place)) line)
            ≡ (if b then insert_entry nat_cmp (named at line) place (record { key = key; value = want.desired }) else remove_entry (is_at (nat_cmp place)) (named at line))
        changed place true = named_put line place handle want.desired key s k
        changed place false = named_removed line place s

        by : (c : Option Change) → named at (wanted_in handle row want c line) ≡ wanted_in key row want c (named at line)
        by None = begun (option_eq nat_eq row.formatted want.desired)
        by (Some change) = changed change.place (is_owed row.formatted want.desired row.forced)
    lined_by_key Format handle key row line s k = by row.change
      where
        by : (c : Option Change) → named at (formatted_in c line) ≡ formatted_in c (named at line)
        by None = refl
        by (Some change) = named_removed line change.place s

    pub lined_still : (step : Step) (handle : ℕ) (row : Row) (line : List (ℕ × Waiting ℕ)) → IsLined at line → IsSome (at handle) → IsLined at (lined step handle row line)
    lined_still (Want want) handle row line l some = by row.change
      where
        begun : (b : Bool) → IsLined at (if b then line else insert_entry nat_cmp line want.place (record { key = handle; value = want.desired }))
        begun true = l
        begun false = lined_put line want.place handle want.desired l some

        changed : (place : ℕ) (b : Bool) → IsLined at (if b then insert_entry nat_cmp line place (record { key = handle; value = want.desired }) else remove_entry (is_at (nat_cmp place)) line)
        changed place true = lined_put line place handle want.desired l some
        changed place false = lined_removed line place l

        by : (c : Option Change) → IsLined at (wanted_in handle row want c line)
        by None = begun (option_eq nat_eq row.formatted want.desired)
        by (Some change) = changed change.place (is_owed row.formatted want.desired row.forced)
    lined_still Format handle row line l some = by row.change
      where
        by : (c : Option Change) → IsLined at (formatted_in c line)
        by None = l
        by (Some change) = lined_removed line change.place l

    pub nobody_lined : (line : List (ℕ × Waiting ℕ)) → line ≡ [] → IsLined at line
    unfolding IsStrictlySortedBy
    nobody_lined line e = subst (IsLined at) (sym e) (record { in_line = tt; are_named = tt })

  -- where no handle's key changes
  module _ (at now : ℕ → Option (Seat K)) (same : (handle : ℕ) → key_of (now handle) ≡ key_of (at handle)) (line : List (ℕ × Waiting ℕ)) (l : IsLined at line) where
    pub same_names : named now line ≡ named at line
    same_names = names_kept at now (λ handle key e. same handle ∙ e) line l.are_named

    pub lined_same : IsLined now line
    lined_same = record { in_line = l.in_line; are_named = still_named at now (λ handle key e. same handle ∙ e) line l.are_named }
