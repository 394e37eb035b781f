-- Subgroups that come, go, and get another key.
use Rattle.std.proofs.Common.{◌≡◌, ℕ, ◌+◌, ◌^◌, ◌<◌, ◌≤◌, Bool, true, false, [], ◌∷◌, ◌++◌, length, Option, Some, None, refl, sym, ◌∙◌, ap, subst, arith, slice_set, inl, inr, ◌⊎◌}
use Rattle.std.specs.Prelude.{◌==◌}
use Rattle.std.specs.Option.{option_map}
use Rattle.std.proofs.lemmas.Bool.{eqb-true, eq-eqb}
use Rattle.ug_types.specs.declared.key.Key.{Key}
use Rattle.ug_types.specs.declared.route.OutAttrs.{OutAttrs}
use Rattle.ug_outbound.specs.declared.key.GroupKey.{GroupKey}
use Rattle.ug_intern.specs.Pools.{Pooled, held, uses_of}
use Rattle.ug_adjout.specs.Pending.{AdjRibOut}
use Rattle.ug_queue.specs.Spread.{value_of}
use Rattle.ug_queue.specs.Queues.{Queued}
use Rattle.ug_group_rules.specs.Packets.{same_group, Packet}
use Rattle.ug_group_rules.proofs.Keys.{laws}
use Rattle.ug_groups.specs.Values.{value_in}
use Rattle.ug_groups.specs.Holders.{holds}
use Rattle.ug_groups.specs.Standings.{Standing}
use Rattle.ug_groups.specs.Subgroups.{Grouped}
use Rattle.ug_groups.specs.declared.entry.Entry.{Entry}
use Rattle.ug_groups.specs.Rows.{Row, Rows, with_row, without_row, with_next, empty_row, rekeyed_row}
use Rattle.ug_groups.specs.Entries.{Entries, key_of, adj_of, row_in, rows_in, total, IsSmall, IsKept, AreClassed, IsClass, IsAdded, IsRekeyed, IsGone}
use Rattle.ug_groups.proofs.Lists.{set_here, set_other, set_length, change_is, without_is, value_map, at_end, before_end}
use Rattle.ug_groups.proofs.Accounts.{total_set, total_more, rows_set, rows_with, live_in, equal_or}

some_one : {A : Type 0} {a b : A} → Some a ≡ Some b → a ≡ b
some_one e = cc

number_symm : (a b : ℕ) → (a == b) ≡ (b == a)
number_symm a b = by (a == b) (b == a) refl refl
  where
    by : (s t : Bool) → (a == b) ≡ s → (b == a) ≡ t → s ≡ t
    by true true e f = refl
    by false false e f = refl
    by true false e f = let same = eqb-true a b e in let so = eq-eqb b a (sym same) in cc
    by false true e f = let same = eqb-true b a f in let so = eq-eqb a b (sym same) in cc

-- ---- classes where one is new

module _ (next later : ℕ) (xs ys : Entries) (now : Entry) (classed : AreClassed next xs) (class : IsClass next xs (key_of now) now.class) (low : now.class < later) (le : next ≤ later)
    (from : (h : ℕ) (a : Entry) → value_of h ys ≡ Some a → (a ≡ now) ⊎ (value_of h xs ≡ Some a)) where
  pub classed_new : AreClassed later ys
  classed_new = record { alike = alike; used = used }
    where
      with_new : (h : ℕ) (b : Entry) → value_of h ys ≡ Some b → (now.class == b.class) ≡ same_group (key_of now) (key_of b)
      with_new h b is = elim (from h b is) [
        | inl new ↦ subst (λ (e : Entry). (now.class == e.class) ≡ same_group (key_of now) (key_of e)) (sym new) (eq-eqb now.class now.class refl ∙ sym (laws.refl (key_of now)))
        | inr old ↦ number_symm now.class b.class ∙ class.alike h b old ∙ laws.symm (key_of b) (key_of now)
      ]

      alike : (g h : ℕ) (a b : Entry) → value_of g ys ≡ Some a → value_of h ys ≡ Some b → (a.class == b.class) ≡ same_group (key_of a) (key_of b)
      alike g h a b is js = elim (from g a is) [
        | inl new ↦ subst (λ (e : Entry). (e.class == b.class) ≡ same_group (key_of e) (key_of b)) (sym new) (with_new h b js)
        | inr old ↦ elim (from h b js) [
          | inl new ↦ subst (λ (e : Entry). (a.class == e.class) ≡ same_group (key_of a) (key_of e)) (sym new) (class.alike g a old)
          | inr other ↦ classed.alike g h a b old other
        ]
      ]

      used : (g : ℕ) (e : Entry) → value_of g ys ≡ Some e → e.class < later
      used g e is = elim (from g e is) [
        | inl new ↦ subst (λ (x : Entry). x.class < later) (sym new) low
        | inr old ↦ let bound = classed.used g e old in omega (arith, bound, le)
      ]

-- ---- one more

module _ (next later : ℕ) (hand : Option ℕ) (p q : Pooled OutAttrs) (xs : Entries) (now : Entry) (kept : IsKept next hand p xs) (uses : (id : ℕ) → uses_of (held q id) ≡ uses_of (held p id) + holds (adj_of now) id) where
  pushed_from : (h : ℕ) (a : Entry) → value_of h (xs ++ Some now ∷ []) ≡ Some a → (a ≡ now) ⊎ (value_of h xs ≡ Some a)
  pushed_from h a is = elim (equal_or h (length xs)) [
    | inl same ↦ inl (some_one (sym is ∙ ap (λ (k : ℕ). value_of k (xs ++ Some now ∷ [])) same ∙ at_end xs now))
    | inr apart ↦ inr (before_end xs now a h is apart)
  ]

  pub kept_pushed : IsClass next xs (key_of now) now.class → now.class < later → next ≤ later → IsSmall now → length xs < 2 ^ 32 → IsKept later hand q (xs ++ Some now ∷ [])
  kept_pushed class low le small short = record {
    counted = λ id. let all = kept.counted id in let more = total_more id xs now in let u = uses id in omega (arith, all, more, u);
    small = λ h e is. elim (pushed_from h e is) [ inl new ↦ subst IsSmall (sym new) small | inr old ↦ kept.small h e old ];
    classed = classed_new next later xs (xs ++ Some now ∷ []) now kept.classed class low le pushed_from;
    short = let more = length_more xs now in omega (arith, more, short);
  }
    where
      length_more : (xs : Entries) (e : Entry) → length (xs ++ Some e ∷ []) ≡ length xs + 1
      length_more [] e = omega arith
      length_more (x ∷ xs) e = let rest = length_more xs e in omega (arith, rest)

  pub rows_pushed : ((id : ℕ) → value_in q id ≡ value_in p id) → (r : Row) → row_in q now ≡ r → rows_in q (xs ++ Some now ∷ []) ≡ with_next r (rows_in p xs)
  rows_pushed values r is = rows_with p q xs now (λ id more. values id) ∙ ap (λ (s : Row). rows_in p xs ++ Some s ∷ []) is

module _ (next : ℕ) (hand : Option ℕ) (pool : Pooled OutAttrs) (xs ys : Entries) (key : GroupKey) (limit : ℕ) (kept : IsKept next hand pool xs) (added : IsAdded next xs ys key limit) where
  nothing_more : (id : ℕ) → uses_of (held pool id) ≡ uses_of (held pool id) + holds (adj_of added.now) id
  nothing_more id = let none : holds (adj_of added.now) id ≡ 0 = ap (λ (s : Grouped). holds s.point.adj id) added.fresh in omega (arith, none)

  pub kept_added : IsKept (next + 1) hand pool ys
  kept_added =
      let key_is : key_of added.now ≡ key = ap (λ (s : Grouped). s.point.key) added.fresh in
      let low = added.class.bound in
      subst (λ (zs : Entries). IsKept (next + 1) hand pool zs) (sym added.more)
      (kept_pushed next (next + 1) hand pool pool xs added.now kept nothing_more (subst (λ (k : GroupKey). IsClass next xs k added.now.class) (sym key_is) added.class) (omega (arith, low)) (omega arith)
      (subst (λ (s : Grouped). (length s.point.adj.formatted < 2 ^ 64) × (length s.point.adj.desired < 2 ^ 64)) (sym added.fresh) (omega arith, omega arith)) added.short)

  pub rows_added : (rows : Rows) → rows_in pool xs ≡ rows → rows_in pool ys ≡ with_next (empty_row key limit) rows
  rows_added rows is =
      ap (rows_in pool) added.more ∙ rows_pushed next next hand pool pool xs added.now kept nothing_more (λ id. refl) (empty_row key limit) (ap (λ (s : Grouped). row_in pool (record { class = added.now.class; subgroup = s })) added.fresh)
      ∙ ap (λ (rs : Rows). with_next (empty_row key limit) rs) is

-- ---- another key

module _ (next : ℕ) (hand : Option ℕ) (pool : Pooled OutAttrs) (xs ys : Entries) (g : ℕ) (key : GroupKey) (kept : IsKept next hand pool xs) (done : IsRekeyed next xs ys g key) where
  set_from : (h : ℕ) (a : Entry) → value_of h ys ≡ Some a → (a ≡ done.now) ⊎ (value_of h xs ≡ Some a)
  set_from h a is = elim (equal_or h g) [
    | inl same ↦ inl (some_one (sym is ∙ ap (λ (k : ℕ). value_of k ys) same ∙ ap (value_of g) done.changed ∙ set_here xs g done.was (Some done.now) done.there))
    | inr apart ↦ inr (sym (set_other xs g h (Some done.now) apart) ∙ ap (value_of h) (sym done.changed) ∙ is)
  ]

  adj_is : adj_of done.now ≡ adj_of done.was
  adj_is = ap (λ (k : Standing). k.adj) done.point

  pub kept_rekeyed : IsKept (next + 1) hand pool ys
  kept_rekeyed = record {
    counted = λ id.
        let all = kept.counted id in let set = total_set id xs g done.was (Some done.now) done.there in
        let same : holds (adj_of done.now) id ≡ holds (adj_of done.was) id = ap (λ (a : AdjRibOut Key ℕ). holds a id) adj_is in
        let now : total id ys ≡ total id (slice_set xs g (Some done.now)) = ap (total id) done.changed in
        omega (arith, all, set, same, now);
    small = λ h e is. elim (set_from h e is) [
      | inl new ↦ subst IsSmall (sym new) (subst (λ (a : AdjRibOut Key ℕ). (length a.formatted < 2 ^ 64) × (length a.desired < 2 ^ 64)) (sym adj_is) (kept.small g done.was done.there))
      | inr old ↦ kept.small h e old
    ];
    classed =
        let key_is : key_of done.now ≡ key = ap (λ (k : Standing). k.key) done.point in
        let low = done.class.bound in
        classed_new next (next + 1) xs ys done.now kept.classed (subst (λ (k : GroupKey). IsClass next xs k done.now.class) (sym key_is) done.class) (omega (arith, low)) (omega arith) set_from;
    short = let same : length ys ≡ length (slice_set xs g (Some done.now)) = ap length done.changed in let as_before = set_length xs g (Some done.now) in let bound = kept.short in omega (arith, same, as_before, bound);
  }

  pub rows_rekeyed : (rows : Rows) → rows_in pool xs ≡ rows → rows_in pool ys ≡ with_row g (rekeyed_row key) rows
  rows_rekeyed rows is =
      ap (rows_in pool) done.changed ∙ rows_set pool pool xs g (Some done.now) (λ id more. refl)
      ∙ change_is (rows_in pool xs) g (row_in pool done.was) (row_in pool done.now) (rekeyed_row key) (value_map (row_in pool) xs g ∙ ap (option_map (row_in pool)) done.there)
      (sym (ap (λ (k : Standing). row_in pool (record { class = done.now.class; subgroup = record { point = k; queue = done.now.subgroup.queue } })) done.point
      ∙ ap (λ (l : Queued Packet). row_in pool (record { class = done.now.class; subgroup = record { point = record done.was.subgroup.point { key = key }; queue = l } })) done.queue))
      ∙ ap (λ (rs : Rows). with_row g (rekeyed_row key) rs) is

-- ---- one is gone

module _ (next : ℕ) (hand : Option ℕ) (p q : Pooled OutAttrs) (xs ys : Entries) (g : ℕ) (kept : IsKept next hand p xs) (done : IsGone p q xs ys g) where
  gone_from : (h : ℕ) (a : Entry) → value_of h ys ≡ Some a → value_of h xs ≡ Some a
  gone_from h a is = elim (equal_or h g) [
    | inl same ↦ absurd (let none : None ≡ Some a = sym (set_here xs g done.was None done.there) ∙ ap (value_of g) (sym done.gone) ∙ ap (λ (k : ℕ). value_of k ys) (sym same) ∙ is in cc)
    | inr apart ↦ sym (set_other xs g h None apart) ∙ ap (value_of h) (sym done.gone) ∙ is
  ]

  pub kept_gone : IsKept next hand q ys
  kept_gone = record {
    counted = λ id.
        let all = kept.counted id in let set = total_set id xs g done.was None done.there in let uses = done.uses id in
        let now : total id ys ≡ total id (slice_set xs g None) = ap (total id) done.gone in
        omega (arith, all, set, uses, now);
    small = λ h e is. kept.small h e (gone_from h e is);
    classed = record {
      alike = λ g h a b is js. kept.classed.alike g h a b (gone_from g a is) (gone_from h b js);
      used = λ h e is. kept.classed.used h e (gone_from h e is);
    };
    short = let same : length ys ≡ length (slice_set xs g None) = ap length done.gone in let as_before = set_length xs g None in let bound = kept.short in omega (arith, same, as_before, bound);
  }

  pub rows_gone : (rows : Rows) → rows_in p xs ≡ rows → rows_in q ys ≡ without_row g rows
  rows_gone rows is =
      ap (rows_in q) done.gone
      ∙ rows_set p q xs g None (λ id more. done.values id (live_in next hand q ys kept_gone id (subst (λ (zs : Entries). 1 ≤ total id zs) (sym done.gone) more)))
      ∙ without_is (rows_in p xs) g ∙ ap (λ (rs : Rows). without_row g rs) is
