-- Rows that are changed key by key: each is changed once, by its own key.
use Rattle.std.proofs.Common.{◌≡◌, ℕ, zero, suc, Bool, true, false, List, [], ◌∷◌, slice_get, Option, Some, None, refl, sym, ◌∙◌, ap}
use Rattle.std.specs.Prelude.{◌||◌, ◌&&◌, cond, if◌then◌else◌}
use Rattle.std.specs.Option.{option_map}
use Rattle.std.specs.List.{IsDistinct, AllByRecursion, filter}
use Rattle.std.proofs.lemmas.Map.Keys.{IsDistinct-cons, IsDistinct-head, IsDistinct-tail}
use Rattle.ug_outbound.specs.declared.key.GroupKey.{GroupKey}
use Rattle.ug_world.specs.World.{World}
use Rattle.ug_group_rules.specs.Packets.{same_group}
use Rattle.ug_group_rules.specs.Machine.{Subgroup, System}
use Rattle.ug_group_rules.specs.Evaluations.{has_key}
use Rattle.ug_group_rules.proofs.Groups.{group-same}
use Rattle.ug_group_rules.proofs.Keys.{live-distinct, live-met}
use Rattle.ug_groups.specs.Rows.{Row, Rows, row_at, subs_of, keys_in, with_sub, each_row, of_key}
use Rattle.ug_groups.specs.TableChanges.{by_keys, each_by_key}
use Rattle.ug_groups.proofs.Reached.{Keeps, mapped_none, mapped_twice}

-- ---- rows one by one

-- two changes that agree on the rows that are there
pub each-same : (one other : Row → Row) (rows : Rows) → ((g : ℕ) (r : Row) → row_at g rows ≡ Some r → one r ≡ other r) → each_row one rows ≡ each_row other rows
each-same one other [] same = refl
each-same one other (None ∷ rows) same = ap (λ (rs : Rows). None ∷ rs) (each-same one other rows (λ g r at. same (suc g) r at))
each-same one other (Some r ∷ rows) same =
    let here = same 0 r refl in let rest = each-same one other rows (λ g s at. same (suc g) s at) in λ i. Some (here i) ∷ rest i

-- a row, after the changes of these keys
row_by : (GroupKey → Subgroup → Subgroup) → List GroupKey → Row → Row
row_by change [] r = r
row_by change (k ∷ keys) r = row_by change keys (of_key k (change k) r)

rows_by : (change : GroupKey → Subgroup → Subgroup) (keys : List GroupKey) (rows : Rows) → by_keys change keys rows ≡ each_row (row_by change keys) rows
unfolding row_by
rows_by change [] rows = sym (mapped_none (λ r. r) (λ r. refl) rows)
rows_by change (k ∷ keys) rows =
    rows_by change keys (each_row (of_key k (change k)) rows) ∙ mapped_twice (of_key k (change k)) (row_by change keys) (row_by change (k ∷ keys)) (λ r. refl) rows

left_false : (a b : Bool) → (a || b) ≡ false → a ≡ false
left_false true b e = absurd cc
left_false false b e = refl

right_false : (a b : Bool) → (a || b) ≡ false → b ≡ false
right_false true b e = absurd cc
right_false false b e = e

not_among : (k : GroupKey) (keys : List GroupKey) → AllByRecursion (λ (y : GroupKey). same_group k y ≡ false) keys → has_key keys k ≡ false
not_among k [] apart = refl
not_among k (y ∷ keys) apart = ap (λ (b : Bool). b || has_key keys k) apart.0 ∙ not_among k keys apart.1

-- ---- the keys of rows

abbrev system_of : World → Rows → System
system_of w rows = record { world = w; closed = false; made = 0; subgroups = subs_of rows; members = [] }

sub_there : (g : ℕ) (rows : Rows) (r : Row) → row_at g rows ≡ Some r → slice_get (subs_of rows) g ≡ Some (Some r.sub)
sub_there g [] r at = absurd cc
sub_there zero (None ∷ rows) r at = absurd cc
sub_there zero (Some s ∷ rows) r at = ap (λ (o : Option Row). Some (option_map (λ (x : Row). x.sub) o)) at
sub_there (suc g) (s ∷ rows) r at = sub_there g rows r at

-- each row's key is among them
pub row-met : (w : World) (rows : Rows) (g : ℕ) (r : Row) → row_at g rows ≡ Some r → has_key (keys_in rows) r.sub.key ≡ true
row-met w rows g r at = live-met (system_of w rows) g r.sub (sub_there g rows r at)

module _ (change : GroupKey → Subgroup → Subgroup) (keeps : (key : GroupKey) → Keeps (change key)) where
  none_by : (keys : List GroupKey) (r : Row) → has_key keys r.sub.key ≡ false → row_by change keys r ≡ r
  unfolding row_by
  none_by [] r none = refl
  none_by (k ∷ keys) r none =
      ap (λ (b : Bool). row_by change keys (if b then with_sub (change k) r else r)) (left_false (same_group r.sub.key k) (has_key keys r.sub.key) none)
      ∙ none_by keys r (right_false (same_group r.sub.key k) (has_key keys r.sub.key) none)

  one_by : (keys : List GroupKey) (r : Row) → IsDistinct same_group keys → has_key keys r.sub.key ≡ true → row_by change keys r ≡ with_sub (change r.sub.key) r
  unfolding row_by
  one_by [] r apart there = absurd cc
  one_by (k ∷ keys) r apart there = by (same_group r.sub.key k) refl there (λ is. one_by keys r (IsDistinct-tail same_group k keys apart) is)
    where
      by : (b : Bool) → same_group r.sub.key k ≡ b → (b || has_key keys r.sub.key) ≡ true → (has_key keys r.sub.key ≡ true → row_by change keys r ≡ with_sub (change r.sub.key) r) → row_by change keys (if b then with_sub (change k) r else r) ≡ with_sub (change r.sub.key) r
      by true e is rest =
          let same = group-same r.sub.key k e in
          let others : has_key keys r.sub.key ≡ false = ap (has_key keys) same ∙ not_among k keys (IsDistinct-head same_group k keys apart) in
          none_by keys (with_sub (change k) r) (ap (has_key keys) (keeps k r.sub) ∙ others) ∙ ap (λ (j : GroupKey). with_sub (change j) r) (sym same)
      by false e is rest = rest is

  -- ---- some keys

  some_there : (test : GroupKey → Bool) (key : GroupKey) (keys : List GroupKey) → has_key (filter test keys) key ≡ (test key && has_key keys key)
  some_there test key [] = none (test key)
    where
      none : (b : Bool) → false ≡ (b && false)
      none true = refl
      none false = refl
  some_there test key (k ∷ keys) = by (test k) refl (same_group key k) refl (some_there test key keys)
    where
      by : (t : Bool) → test k ≡ t → (s : Bool) → same_group key k ≡ s → has_key (filter test keys) key ≡ (test key && has_key keys key)
          → has_key (cond t (k ∷ filter test keys) (filter test keys)) key ≡ (test key && (same_group key k || has_key keys key))
      by true passes true is rest =
          ap (λ (b : Bool). b || has_key (filter test keys) key) is
          ∙ sym (ap (λ (b : Bool). b && (same_group key k || has_key keys key)) (ap test (group-same key k is) ∙ passes) ∙ ap (λ (b : Bool). b || has_key keys key) is)
      by true passes false is rest =
          ap (λ (b : Bool). b || has_key (filter test keys) key) is ∙ rest ∙ ap (λ (b : Bool). test key && (b || has_key keys key)) (sym is)
      by false fails true is rest =
          rest
          ∙ (let no : test key ≡ false = ap test (group-same key k is) ∙ fails in
          ap (λ (b : Bool). b && has_key keys key) no ∙ sym (ap (λ (b : Bool). b && (same_group key k || has_key keys key)) no))
      by false fails false is rest = rest ∙ ap (λ (b : Bool). test key && (b || has_key keys key)) (sym is)

  all_some : (test : GroupKey → Bool) (P : GroupKey → Type 0) (keys : List GroupKey) → AllByRecursion P keys → AllByRecursion P (filter test keys)
  all_some test P [] all = tt
  all_some test P (k ∷ keys) all = by (test k) (all_some test P keys all.1)
    where
      by : (b : Bool) → AllByRecursion P (filter test keys) → AllByRecursion P (cond b (k ∷ filter test keys) (filter test keys))
      by true rest = (all.0, rest)
      by false rest = rest

  some_apart : (test : GroupKey → Bool) (keys : List GroupKey) → IsDistinct same_group keys → IsDistinct same_group (filter test keys)
  some_apart test [] apart = apart
  some_apart test (k ∷ keys) apart = by (test k) (some_apart test keys (IsDistinct-tail same_group k keys apart))
    where
      by : (b : Bool) → IsDistinct same_group (filter test keys) → IsDistinct same_group (cond b (k ∷ filter test keys) (filter test keys))
      by true rest =
          IsDistinct-cons same_group k (filter test keys) (all_some test (λ (y : GroupKey). same_group k y ≡ false) keys (IsDistinct-head same_group k keys apart)) rest
      by false rest = rest

  -- each row whose key passes the test is changed
  pub by-some : (test : GroupKey → Bool) (w : World) (rows : Rows) → by_keys change (filter test (keys_in rows)) rows ≡ each_row (λ (r : Row). if test r.sub.key then with_sub (change r.sub.key) r else r) rows
  by-some test w rows =
      rows_by change (filter test (keys_in rows)) rows
      ∙ each-same (row_by change (filter test (keys_in rows))) (λ (r : Row). if test r.sub.key then with_sub (change r.sub.key) r else r) rows
      (λ g r at. by r (row-met w rows g r at) (test r.sub.key) refl)
    where
      by : (r : Row) → has_key (keys_in rows) r.sub.key ≡ true → (b : Bool) → test r.sub.key ≡ b → row_by change (filter test (keys_in rows)) r ≡ (if b then with_sub (change r.sub.key) r else r)
      by r met true passes =
          one_by (filter test (keys_in rows)) r (some_apart test (keys_in rows) (live-distinct (system_of w rows)))
          (some_there test r.sub.key (keys_in rows) ∙ ap (λ (b : Bool). b && has_key (keys_in rows) r.sub.key) passes ∙ met)
      by r met false fails =
          none_by (filter test (keys_in rows)) r (some_there test r.sub.key (keys_in rows) ∙ ap (λ (b : Bool). b && has_key (keys_in rows) r.sub.key) fails)

  -- ---- all rows

  pub by-each : (w : World) (rows : Rows) → by_keys change (keys_in rows) rows ≡ each_by_key change rows
  by-each w rows =
      rows_by change (keys_in rows) rows
      ∙ each-same (row_by change (keys_in rows)) (λ r. with_sub (change r.sub.key) r) rows
      (λ g r at. one_by (keys_in rows) r (live-distinct (system_of w rows)) (row-met w rows g r at))
