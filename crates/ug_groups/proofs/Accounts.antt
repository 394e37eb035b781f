-- One of the subgroups is changed, comes or goes: what the pool counts, and what the ids of all others stand for.
use Rattle.std.proofs.Common.{◌≡◌, ℕ, zero, suc, ◌+◌, ◌*◌, ◌^◌, ◌<◌, ◌≤◌, Bool, true, false, List, [], ◌∷◌, ◌++◌, length, Option, Some, None, refl, sym, ◌∙◌, ap, subst, arith, slice_set, Result, Ok, Err, OnOk, OnErr}
use Rattle.std.specs.Prelude.{◌==◌, IsSome, IfSome, IfNone, if◌then◌else◌}
use Rattle.std.specs.Option.{option_map}
use Rattle.std.proofs.Common.{inl, inr, ◌⊎◌}
use Rattle.std.proofs.lemmas.Bool.{eqb-true, eq-eqb}
use Rattle.ug_types.specs.declared.key.Key.{Key}
use Rattle.ug_types.specs.declared.route.OutAttrs.{OutAttrs}
use Rattle.ug_outbound.specs.declared.key.GroupKey.{GroupKey}
use Rattle.ug_intern.specs.Pools.{Held, Pooled, held, uses_of}
use Rattle.ug_adjout.specs.Stored.{projected_with}
use Rattle.ug_queue.specs.Spread.{value_of}
use Rattle.ug_group_rules.specs.Packets.{same_group, Rows as OutRows}
use Rattle.ug_groups.specs.Values.{value_in, valued, valued_by}
use Rattle.std.proofs.lemmas.Nat.{mul-le}
use Rattle.ug_adjout.proofs.Counts.{counted_most}
use Rattle.ug_groups.specs.Holders.{only, holders, holds, one_at, IsCounted, IsUsed, HasRoom}
use Rattle.ug_groups.proofs.Holders.{one_here, one_most}
use Rattle.ug_groups.proofs.TableHolders.{holders_first}
use Rattle.ug_groups.specs.declared.entry.Entry.{Entry}
use Rattle.ug_groups.specs.Rows.{Row, Rows, with_row, row_at, HasRow, of_key, with_sub}
use Rattle.ug_groups.specs.Sweeps.{IsClassOf}
use Rattle.ug_group_rules.specs.Machine.{Subgroup}
use Rattle.ug_groups.specs.Entries.{Entries, key_of, adj_of, row_in, rows_in, held_by, total, IsSmall, IsKept, AreKept, IsDone, AreClassed, IsClass}
use Rattle.ug_group_rules.proofs.Groups.{group-same}
use Rattle.ug_groups.proofs.Lists.{set_here, set_other, set_length, change_is, value_map}

-- ---- sums

pub total_set : (id : ℕ) (xs : Entries) (g : ℕ) (e : Entry) (o : Option Entry) → value_of g xs ≡ Some e → total id (slice_set xs g o) + holds (adj_of e) id ≡ total id xs + held_by id o
total_set id [] g e o is = absurd cc
total_set id (x ∷ xs) zero e o is = let here : held_by id x ≡ holds (adj_of e) id = ap (held_by id) is in omega (arith, here)
total_set id (x ∷ xs) (suc g) e o is = let rest = total_set id xs g e o is in omega (arith, rest)

pub total_more : (id : ℕ) (xs : Entries) (e : Entry) → total id (xs ++ Some e ∷ []) ≡ total id xs + holds (adj_of e) id
total_more id [] e = omega arith
total_more id (x ∷ xs) e = let rest = total_more id xs e in omega (arith, rest)

pub part_of_total : (id : ℕ) (xs : Entries) (g : ℕ) (e : Entry) → value_of g xs ≡ Some e → holds (adj_of e) id ≤ total id xs
part_of_total id [] g e is = absurd cc
part_of_total id (x ∷ xs) zero e is = let here : held_by id x ≡ holds (adj_of e) id = ap (held_by id) is in omega (arith, here)
part_of_total id (x ∷ xs) (suc g) e is = let rest = part_of_total id xs g e is in omega (arith, rest)

-- ---- what ids stand for

module _ (p q : Pooled OutAttrs) where
  valued_same : (rows : List (Key × ℕ)) → ((id : ℕ) → 1 ≤ holders id rows → value_in q id ≡ value_in p id) → valued q rows ≡ valued p rows
  valued_same [] same = refl
  valued_same (r ∷ rows) same =
      let here = same r.1 (first_held r rows) in
      let rest = valued_same rows (λ id more. same id (later id r rows more)) in
      ap (λ v. projected_with {V = ℕ} (value_in q) r.0 v (valued q rows)) here ∙ ap (λ (l : OutRows). projected_with {V = ℕ} (value_in p) r.0 (value_in p r.1) l) rest
    where
      first_held : (r : Key × ℕ) (rows : List (Key × ℕ)) → 1 ≤ holders r.1 (r ∷ rows)
      first_held r rows = let first = holders_first r.1 r rows in let one = one_here r.1 in omega (arith, first, one)

      later : (id : ℕ) (r : Key × ℕ) (rows : List (Key × ℕ)) → 1 ≤ holders id rows → 1 ≤ holders id (r ∷ rows)
      later id r rows more = let first = holders_first id r rows in omega (arith, first, more)

  pub row_same : (e : Entry) → ((id : ℕ) → 1 ≤ holds (adj_of e) id → value_in q id ≡ value_in p id) → row_in q e ≡ row_in p e
  row_same e same =
      let k = e.subgroup.point in
      ap (λ (rows : OutRows). record { sub = record { key = k.key; out = record { formatted = rows; desired = valued q k.adj.desired; forced = k.adj.forced; pending = k.adj.pending }; ending = k.ending; fresh = k.fresh; phase = k.phase; stuck = k.stuck }; queue = e.subgroup.queue })
      (valued_same k.adj.formatted (λ id more. same id (omega (arith, more))))
      ∙ ap (λ (rows : OutRows). record { sub = record { key = k.key; out = record { formatted = valued p k.adj.formatted; desired = rows; forced = k.adj.forced; pending = k.adj.pending }; ending = k.ending; fresh = k.fresh; phase = k.phase; stuck = k.stuck }; queue = e.subgroup.queue })
      (valued_same k.adj.desired (λ id more. same id (omega (arith, more))))

  option_same : (x : Option Entry) → ((id : ℕ) → 1 ≤ held_by id x → value_in q id ≡ value_in p id) → option_map (row_in q) x ≡ option_map (row_in p) x
  option_same None same = refl
  option_same (Some e) same = ap Some (row_same e same)

  pub rows_same : (xs : Entries) → ((id : ℕ) → 1 ≤ total id xs → value_in q id ≡ value_in p id) → rows_in q xs ≡ rows_in p xs
  rows_same [] same = refl
  rows_same (x ∷ xs) same =
      ap (λ (r : Option Row). r ∷ rows_in q xs) (option_same x (λ id more. same id (omega (arith, more))))
      ∙ ap (λ (rs : Rows). option_map (row_in p) x ∷ rs) (rows_same xs (λ id more. same id (omega (arith, more))))

  pub rows_set : (xs : Entries) (g : ℕ) (o : Option Entry) → ((id : ℕ) → 1 ≤ total id (slice_set xs g o) → value_in q id ≡ value_in p id) → rows_in q (slice_set xs g o) ≡ slice_set (rows_in p xs) g (option_map (row_in q) o)
  rows_set [] g o same = refl
  rows_set (x ∷ xs) zero o same = ap (λ (rs : Rows). option_map (row_in q) o ∷ rs) (rows_same xs (λ id more. same id (omega (arith, more))))
  rows_set (x ∷ xs) (suc g) o same =
      ap (λ (r : Option Row). r ∷ rows_in q (slice_set xs g o)) (option_same x (λ id more. same id (omega (arith, more))))
      ∙ ap (λ (rs : Rows). option_map (row_in p) x ∷ rs) (rows_set xs g o (λ id more. same id (omega (arith, more))))

  rows_more : (xs : Entries) (e : Entry) → rows_in q (xs ++ Some e ∷ []) ≡ rows_in q xs ++ Some (row_in q e) ∷ []
  rows_more [] e = refl
  rows_more (x ∷ xs) e = ap (λ (rs : Rows). option_map (row_in q) x ∷ rs) (rows_more xs e)

  pub rows_with : (xs : Entries) (e : Entry) → ((id : ℕ) → 1 ≤ total id xs → value_in q id ≡ value_in p id) → rows_in q (xs ++ Some e ∷ []) ≡ rows_in p xs ++ Some (row_in q e) ∷ []
  rows_with xs e same = rows_more xs e ∙ ap (λ (rs : Rows). rs ++ Some (row_in q e) ∷ []) (rows_same xs same)

-- ---- an account that is kept

some_held : (h : Option (Held OutAttrs)) → 1 ≤ uses_of h → IsSome h
some_held None more = absurd (omega (arith, more))
some_held (Some h) more = refl

-- whatever some row holds is live
pub live_in : (next : ℕ) (hand : Option ℕ) (pool : Pooled OutAttrs) (xs : Entries) → IsKept next hand pool xs → (id : ℕ) → 1 ≤ total id xs → IsSome (held pool id)
live_in next hand pool xs kept id more = let counted = kept.counted id in some_held (held pool id) (omega (arith, counted, more))

pub counted_in : (pool : Pooled OutAttrs) (xs : Entries) (g : ℕ) (e : Entry) → AreKept pool xs → value_of g xs ≡ Some e → IsCounted pool (adj_of e)
counted_in pool xs g e (next, hand, kept) is id = let counted = kept.counted id in let part = part_of_total id xs g e is in omega (arith, counted, part)

pub room_less : (m n : ℕ) (pool : Pooled OutAttrs) → m ≤ n → HasRoom n pool → HasRoom m pool
room_less m n pool le room id = let all = room id in omega (arith, all, le)

pub equal_or : (h g : ℕ) → (h ≡ g) ⊎ (h ≡ g → ⊥)
equal_or h g = by (h == g) refl
  where
    by : (b : Bool) → (h == g) ≡ b → (h ≡ g) ⊎ (h ≡ g → ⊥)
    by true e = inl (eqb-true h g e)
    by false e = inr (λ same. apart e (eq-eqb h g same))
      where
        apart : {b : Bool} → b ≡ false → b ≡ true → ⊥
        apart e f = cc

-- what was there before an entry that is there now, of the same class, key and bounds
record IsFrom (xs : Entries) (h : ℕ) (a : Entry) : Type 0 where
  was : Entry
  there : value_of h xs ≡ Some was
  class : a.class ≡ was.class
  key : key_of a ≡ key_of was
  small : IsSmall was → IsSmall a

itself_from : (xs : Entries) (h : ℕ) (a : Entry) → value_of h xs ≡ Some a → IsFrom xs h a
itself_from xs h a is = record { was = a; there = is; class = refl; key = refl; small = λ s. s }

kept_from : (next : ℕ) (hand later : Option ℕ) (p q : Pooled OutAttrs) (xs ys : Entries) → IsKept next hand p xs → ((id : ℕ) → uses_of (held q id) ≡ total id ys + one_at id later) → length ys ≤ 2 ^ 32
    → ((h : ℕ) (a : Entry) → value_of h ys ≡ Some a → IsFrom xs h a) → IsKept next later q ys
kept_from next hand later p q xs ys kept counted short from = record {
  counted = counted;
  small = λ g e is. let f = from g e is in f.small (kept.small g f.was f.there);
  classed = record {
    alike = λ g h a b is js. let f = from g a is in let k = from h b js in
        ap (λ (n : ℕ). n == b.class) f.class ∙ ap (λ (n : ℕ). f.was.class == n) k.class ∙ kept.classed.alike g h f.was k.was f.there k.there
        ∙ ap (λ (key : GroupKey). same_group key (key_of k.was)) (sym f.key) ∙ ap (same_group (key_of a)) (sym k.key);
    used = λ g e is. let f = from g e is in let low = kept.classed.used g f.was f.there in omega (arith, low, f.class);
  };
  short = short;
}

module _ (p q : Pooled OutAttrs) (xs ys : Entries) (g : ℕ) (change : Row → Row) (done : IsDone p q xs ys g change) where
  done_from : (h : ℕ) (a : Entry) → value_of h ys ≡ Some a → IsFrom xs h a
  done_from h a is = elim (equal_or h g) [
    | inl same ↦
        let now : Some done.now ≡ Some a = sym (set_here xs g done.was (Some done.now) done.there) ∙ ap (value_of g) (sym done.changed) ∙ ap (λ (k : ℕ). value_of k ys) (sym same) ∙ is in
        let one : done.now ≡ a = some_one now in
        subst (λ (e : Entry). IsFrom xs h e) one (record { was = done.was; there = ap (λ (k : ℕ). value_of k xs) same ∙ done.there; class = done.class; key = done.key; small = done.small })
    | inr apart ↦ itself_from xs h a (sym (set_other xs g h (Some done.now) apart) ∙ ap (value_of h) (sym done.changed) ∙ is)
  ]
    where
      some_one : {a b : Entry} → Some a ≡ Some b → a ≡ b
      some_one e = cc

  pub kept_done : (next : ℕ) (hand : Option ℕ) → IsKept next hand p xs → IsKept next hand q ys
  kept_done next hand kept = kept_from next hand hand p q xs ys kept counted short done_from
    where
      counted : (id : ℕ) → uses_of (held q id) ≡ total id ys + one_at id hand
      counted id =
          let all = kept.counted id in let moved = done.moved.counts id in let set = total_set id xs g done.was (Some done.now) done.there in
          let now : total id ys ≡ total id (slice_set xs g (Some done.now)) = ap (total id) done.changed in
          omega (arith, all, moved, set, now)

      short : length ys ≤ 2 ^ 32
      short = let same : length ys ≡ length (slice_set xs g (Some done.now)) = ap length done.changed in let as_before = set_length xs g (Some done.now) in let bound = kept.short in omega (arith, same, as_before, bound)

  pub rows_done : (next : ℕ) (hand : Option ℕ) → IsKept next hand p xs → rows_in q ys ≡ with_row g change (rows_in p xs)
  rows_done next hand kept =
      let after = kept_done next hand kept in
      ap (rows_in q) done.changed
      ∙ rows_set p q xs g (Some done.now) (λ id more. done.moved.values id (live_in next hand q ys after id (subst (λ (zs : Entries). 1 ≤ total id zs) (sym done.changed) more)))
      ∙ change_is (rows_in p xs) g (row_in p done.was) (row_in q done.now) change (value_map (row_in p) xs g ∙ ap (option_map (row_in p)) done.there) (sym done.row)

  pub kept_rows : AreKept p xs → AreKept q ys × (rows_in q ys ≡ with_row g change (rows_in p xs))
  kept_rows (next, hand, kept) = ((next, hand, kept_done next hand kept), rows_done next hand kept)

  pub length_done : length ys ≡ length xs
  length_done = ap length done.changed ∙ set_length xs g (Some done.now)

-- ---- room for holders

abbrev most : ℕ
most = 2 ^ 65

holders_bound : (id : ℕ) (rows : List (Key × ℕ)) → holders id rows ≤ length rows
holders_bound id rows = counted_most (only id) rows

total_bound : (id : ℕ) (xs : Entries) → ((g : ℕ) (e : Entry) → value_of g xs ≡ Some e → IsSmall e) → total id xs ≤ length xs * most
total_bound id [] small = omega arith
total_bound id (None ∷ xs) small = let rest = total_bound id xs (λ g e is. small (suc g) e is) in omega (arith, rest)
total_bound id (Some e ∷ xs) small =
    let rest = total_bound id xs (λ g f is. small (suc g) f is) in
    let formatted = holders_bound id (adj_of e).formatted in
    let desired = holders_bound id (adj_of e).desired in
    let here = small 0 e refl in
    omega (arith, rest, formatted, desired, here.0, here.1)

pub room_in : (pool : Pooled OutAttrs) (xs : Entries) → AreKept pool xs → HasRoom (2 ^ 66) pool
room_in pool xs (next, hand, kept) id =
    let counted = kept.counted id in let one = one_most id hand in
    let all = total_bound id xs kept.small in
    let bound : length xs * most ≤ 2 ^ 32 * most = mul-le (length xs) most (2 ^ 32) most kept.short (omega arith) in
    omega (arith, counted, one, all, bound)

-- ---- what a call leaves

module _ (p q : Pooled OutAttrs) (xs ys : Entries) (g : ℕ) (change : Row → Row) (next : ℕ) (hand : Option ℕ) (kept : IsKept next hand p xs) where
  pub kept_after : {T E : Type 0} (r : Result T E) → OnOk r (IsDone p q xs ys g change) → OnErr r (ys ≡ xs) → OnErr r (q ≡ p) → IsKept next hand q ys
  kept_after (Ok x) done same pool = kept_done p q xs ys g change done next hand kept
  kept_after (Err x) done same pool = subst (λ (o : Pooled OutAttrs). IsKept next hand o ys) (sym pool) (subst (λ (zs : Entries). IsKept next hand p zs) (sym same) kept)

  pub rows_after : {T E : Type 0} (r : Result T E) (rows : Rows) → rows_in p xs ≡ rows → OnOk r (IsDone p q xs ys g change) → OnOk r (rows_in q ys ≡ with_row g change rows)
  rows_after (Ok x) rows is done = rows_done p q xs ys g change done next hand kept ∙ ap (λ (rs : Rows). with_row g change rs) is
  rows_after (Err x) rows is done = tt

  pub rows_seen : (rows : Rows) → rows_in p xs ≡ rows → IsDone p q xs ys g change → rows_in q ys ≡ with_row g change rows
  rows_seen rows is done = rows_done p q xs ys g change done next hand kept ∙ ap (λ (rs : Rows). with_row g change rs) is

pub done_in : {T E : Type 0} (pool : Pooled OutAttrs) (xs ys : Entries) (g : ℕ) (change : Row → Row) (r : Result T E) → OnOk r ((pool : Pooled OutAttrs) → IsDone pool pool xs ys g change) → OnOk r (IsDone pool pool xs ys g change)
done_in pool xs ys g change (Ok x) done = done pool
done_in pool xs ys g change (Err x) done = tt

pub same_pool : {T E : Type 0} (pool : Pooled OutAttrs) (r : Result T E) → OnErr r (pool ≡ pool)
same_pool pool (Ok x) = tt
same_pool pool (Err x) = refl

-- ---- the row of one that is there

pub row_at_is : (pool : Pooled OutAttrs) (xs : Entries) (g : ℕ) (rows : Rows) → rows_in pool xs ≡ rows → row_at g rows ≡ option_map (row_in pool) (value_of g xs)
row_at_is pool xs g rows is = ap (λ (rs : Rows). row_at g rs) (sym is) ∙ value_map (row_in pool) xs g

pub if_in : (P : Row → Type 0) (pool : Pooled OutAttrs) (xs : Entries) (g : ℕ) (rows : Rows) → rows_in pool xs ≡ rows → HasRow g rows P → IfSome (value_of g xs) (λ e. P (row_in pool e))
if_in P pool xs g rows is (r, there, holds) = by (value_of g xs) (sym (row_at_is pool xs g rows is) ∙ there)
  where
    by : (o : Option Entry) → option_map (row_in pool) o ≡ Some r → IfSome o (λ e. P (row_in pool e))
    by None e = absurd cc
    by (Some x) e = let same : r ≡ row_in pool x = cc in subst P same holds

pub some_in : (pool : Pooled OutAttrs) (xs : Entries) (g : ℕ) (rows : Rows) → rows_in pool xs ≡ rows → IsSome (row_at g rows) → IsSome (value_of g xs)
some_in pool xs g rows is some = by (value_of g xs) (subst IsSome (row_at_is pool xs g rows is) some)
  where
    by : (o : Option Entry) → IsSome (option_map (row_in pool) o) → IsSome o
    by None s = absurd cc
    by (Some x) s = refl

-- what is so of the entry is so of the row
pub at_row : (P : Row → Type 0) (pool : Pooled OutAttrs) (xs : Entries) (g : ℕ) (rows : Rows) → rows_in pool xs ≡ rows → ((e : Entry) → value_of g xs ≡ Some e → P (row_in pool e)) → (r : Row) → row_at g rows ≡ Some r → P r
at_row P pool xs g rows is holds r there = by (value_of g xs) refl (sym (row_at_is pool xs g rows is) ∙ there)
  where
    by : (o : Option Entry) → value_of g xs ≡ o → option_map (row_in pool) o ≡ Some r → P r
    by None at e = absurd cc
    by (Some x) at e = let same : row_in pool x ≡ r = cc in subst P same (holds x at)

-- ---- classes

module _ (next : ℕ) (xs : Entries) (key : GroupKey) (classed : AreClassed next xs) where
  pub class_known : (g : ℕ) (e : Entry) → value_of g xs ≡ Some e → same_group (key_of e) key ≡ true → IsClass next xs key e.class
  class_known g e there same = record {
    bound = let low = classed.used g e there in omega (arith, low);
    alike = λ h f is. classed.alike h g f e is there ∙ ap (same_group (key_of f)) (group-same (key_of e) key same);
  }

  pub class_fresh : ((h : ℕ) (f : Entry) → value_of h xs ≡ Some f → same_group (key_of f) key ≡ false) → IsClass next xs key next
  class_fresh none = record {
    bound = omega arith;
    alike = λ h f is. let low = classed.used h f is in below f.class next low ∙ sym (none h f is);
  }
    where
      below : (a b : ℕ) → a < b → (a == b) ≡ false
      below a b less = by (a == b) refl
        where
          by : (t : Bool) → (a == b) ≡ t → t ≡ false
          by true e = let same = eqb-true a b e in absurd (omega (arith, same, less))
          by false e = refl

pub kept_taken : {T : Type 0} (pool : Pooled OutAttrs) (xs ys : Entries) (g : ℕ) (change : Row → Row) (next : ℕ) (hand : Option ℕ) → IsKept next hand pool xs → (o : Option T) → IfNone o (ys ≡ xs)
    → IfSome o (λ _. (pool : Pooled OutAttrs) → IsDone pool pool xs ys g change) → IsKept next hand pool ys
kept_taken pool xs ys g change next hand kept None same done = subst (λ (zs : Entries). IsKept next hand pool zs) (sym same) kept
kept_taken pool xs ys g change next hand kept (Some x) same done = kept_done pool pool xs ys g change (done pool) next hand kept

-- ---- tests of one row

pub row_there : (pool : Pooled OutAttrs) (xs : Entries) (g : ℕ) (rows : Rows) (e : Entry) → rows_in pool xs ≡ rows → value_of g xs ≡ Some e → row_at g rows ≡ Some (row_in pool e)
row_there pool xs g rows e is there = row_at_is pool xs g rows is ∙ ap (option_map (row_in pool)) there

pub row_gone : (pool : Pooled OutAttrs) (xs : Entries) (g : ℕ) (rows : Rows) → rows_in pool xs ≡ rows → value_of g xs ≡ None → row_at g rows ≡ None
row_gone pool xs g rows is none = row_at_is pool xs g rows is ∙ ap (option_map (row_in pool)) none

-- ---- changes without the account

pub rows_flat : (pool : Pooled OutAttrs) (xs ys : Entries) (g : ℕ) (change : Row → Row) → IsDone pool pool xs ys g change → rows_in pool ys ≡ with_row g change (rows_in pool xs)
rows_flat pool xs ys g change done =
    ap (rows_in pool) done.changed ∙ rows_set pool pool xs g (Some done.now) (λ id more. refl)
    ∙ change_is (rows_in pool xs) g (row_in pool done.was) (row_in pool done.now) change (value_map (row_in pool) xs g ∙ ap (option_map (row_in pool)) done.there) (sym done.row)

pub with_alike : (rows : Rows) (g : ℕ) (r : Row) (f h : Row → Row) → row_at g rows ≡ Some r → f r ≡ h r → with_row g f rows ≡ with_row g h rows
with_alike [] g r f h e same = refl
with_alike (x ∷ rows) zero r f h e same = ap (λ (o : Option Row). option_map f o ∷ rows) e ∙ ap (λ (s : Row). Some s ∷ rows) same ∙ ap (λ (o : Option Row). option_map h o ∷ rows) (sym e)
with_alike (x ∷ rows) (suc g) r f h e same = ap (λ (rs : Rows). x ∷ rs) (with_alike rows g r f h e same)

pub with_none : (rows : Rows) (g : ℕ) → with_row g (λ r. r) rows ≡ rows
with_none [] g = refl
with_none (None ∷ rows) zero = refl
with_none (Some r ∷ rows) zero = refl
with_none (x ∷ rows) (suc g) = ap (λ (rs : Rows). x ∷ rs) (with_none rows g)

-- ---- one of a class is desired with something

module _ (class : ℕ) (group : GroupKey) (change : Subgroup → Subgroup) (p : Pooled OutAttrs) (xs : Entries) (g : ℕ) (e : Entry) (there : value_of g xs ≡ Some e) (of_class : IsClassOf xs class group) where
  pub other_class : (e.class ≡ class → ⊥) → rows_in p xs ≡ with_row g (of_key group change) (rows_in p xs)
  other_class apart =
      sym (with_alike (rows_in p xs) g (row_in p e) (of_key group change) (λ r. r) (row_there p xs g (rows_in p xs) e refl there) (ap (λ (b : Bool). if b then with_sub change (row_in p e) else row_in p e) (sym (of_class g e there) ∙ differs))
      ∙ with_none (rows_in p xs) g)
    where
      differs : (e.class == class) ≡ false
      differs = by (e.class == class) refl
        where
          by : (b : Bool) → (e.class == class) ≡ b → b ≡ false
          by true f = absurd (apart (eqb-true e.class class f))
          by false f = refl

  pub own_key : e.class ≡ class → key_of e ≡ group
  own_key same = group-same (key_of e) group (sym (of_class g e there) ∙ eq-eqb e.class class same)

  pub same_class : e.class ≡ class → with_row g (with_sub change) (rows_in p xs) ≡ with_row g (of_key group change) (rows_in p xs)
  same_class same =
      with_alike (rows_in p xs) g (row_in p e) (with_sub change) (of_key group change) (row_there p xs g (rows_in p xs) e refl there)
      (ap (λ (b : Bool). if b then with_sub change (row_in p e) else row_in p e) (sym (sym (of_class g e there) ∙ eq-eqb e.class class same)))

pub class_after : {T E : Type 0} (r : Result T E) (p q : Pooled OutAttrs) (xs ys : Entries) (g : ℕ) (change : Row → Row) → OnOk r (IsDone p q xs ys g change) → OnErr r (ys ≡ xs)
    → (class : ℕ) (group : GroupKey) → IsClassOf xs class group → IsClassOf ys class group
class_after (Ok x) p q xs ys g change done same class group of_class h e is =
    let f = done_from p q xs ys g change done h e is in
    ap (λ (n : ℕ). n == class) f.class ∙ of_class h f.was f.there ∙ ap (λ (k : GroupKey). same_group k group) (sym f.key)
class_after (Err x) p q xs ys g change done same class group of_class h e is = of_class h e (ap (value_of h) (sym same) ∙ is)

pub in_hand : (next : ℕ) (pool : Pooled OutAttrs) (xs : Entries) (id : Option ℕ) → IsKept next id pool xs → IsUsed pool id
in_hand next pool xs None kept = tt
in_hand next pool xs (Some id) kept = let counted = kept.counted id in let one = one_here id in omega (arith, counted, one)

hand_live : (next : ℕ) (pool : Pooled OutAttrs) (xs : Entries) (id : ℕ) → IsKept next (Some id) pool xs → IsSome (held pool id)
hand_live next pool xs id kept = some_held (held pool id) (in_hand next pool xs (Some id) kept)

pub value_after : {T E : Type 0} (r : Result T E) (p q : Pooled OutAttrs) (xs ys : Entries) (g : ℕ) (change : Row → Row) → OnOk r (IsDone p q xs ys g change) → OnErr r (q ≡ p)
    → (id : Option ℕ) (next : ℕ) → IsKept next id p xs → valued_by q id ≡ valued_by p id
value_after (Ok x) p q xs ys g change done same None next kept = refl
value_after (Ok x) p q xs ys g change done same (Some id) next kept = done.moved.values id (hand_live next q ys id (kept_done p q xs ys g change done next (Some id) kept))
value_after (Err x) p q xs ys g change done same id next kept = ap (λ (o : Pooled OutAttrs). valued_by o id) same
