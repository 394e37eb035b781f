-- Rows that desire what goes out of the paths of one prefix after another.
use Rattle.std.proofs.Common.{◌≡◌, ℕ, ◌+◌, ◌<◌, ◌≤◌, zero, suc, Bool, true, false, List, [], ◌∷◌, ◌++◌, map, length, drop, get_or, Option, Some, None, refl, sym, ◌∙◌, ap, subst, arith, add-one}
use Rattle.std.specs.Prelude.{◌==◌, nat_lt, ◌&&◌, ◌||◌, is_none, IsSome, unwrap_or, cond}
use Rattle.std.specs.Map.{lookup}
use Rattle.std.specs.List.{AllByRecursion, filter, list_all, list_any, sum_by}
use Rattle.std.proofs.lemmas.Bool.{eqb-true}
use Rattle.std.proofs.lemmas.List.{append-nil, map-append}
use Rattle.std.proofs.lemmas.Grind.{flat_map-append}
use Rattle.std.proofs.lemmas.List.Sums.{sum_by-append, sum_by-cons}
use Rattle.ug_types.specs.Ip.{IpPrefix}
use Rattle.ug_types.specs.Keys.{same_prefix}
use Rattle.ug_types.specs.declared.family.Family.{Family}
use Rattle.ug_types.specs.declared.route.Path.{Path}
use Rattle.ug_types.specs.Attributes.{refusal_of}
use Rattle.ug_message.specs.Spellable.{is_number, is_prefix, can_be_spelled}
use Rattle.ug_outbound.specs.declared.key.GroupKey.{GroupKey}
use Rattle.ug_speaker.proofs.Bools.{both_so}
use Rattle.ug_world.specs.World.{Routes, World, paths_to}
use Rattle.ug_world.specs.Rows.{rows_behind}
use Rattle.ug_world.specs.Good.{is_path_good, is_route_good, is_learned_in_range}
use Rattle.ug_group_rules.specs.Evaluations.{paths_heeded, all_heeded}
use Rattle.ug_group_rules.specs.Machine.{Subgroup}
use Rattle.ug_groups.specs.Rows.{Rows, row_at, each_row, of_key}
use Rattle.ug_groups.specs.declared.reach.Reach.{Reach}
use Rattle.ug_groups.specs.TableChanges.{AreNumbered, Changes, changes_to, changes_of, key_at, reached, with_changes, by_keys, HaveKeys}
use Rattle.ug_groups.proofs.KeyLists.{one-more}
use Rattle.ug_groups.proofs.Reached.{row-of, reached-append}

-- ---- identifiers of a good world

not_zero : (n : ℕ) → nat_lt 0 n ≡ true → (n == 0) ≡ false
not_zero n above = by (n == 0) refl
  where
    by : (b : Bool) → (n == 0) ≡ b → b ≡ false
    by false e = refl
    by true e = let none : nat_lt 0 0 ≡ true = subst (λ (m : ℕ). nat_lt 0 m ≡ true) (eqb-true n 0 e) above in absurd cc

each_numbered : (family : Family) (paths : List Path) → list_all (is_path_good family) paths ≡ true → AreNumbered paths
each_numbered family [] good = tt
each_numbered family (p ∷ paths) good =
    let parts = both_so (is_path_good family p) (list_all (is_path_good family) paths) good in
    let above = both_so (nat_lt 0 p.id) (is_number p.id && (is_none (refusal_of p.attrs) && (can_be_spelled family p.attrs && is_learned_in_range p.learned))) parts.0 in
    (not_zero p.id above.0, each_numbered family paths parts.1)

pub routes-numbered : (routes : Routes) → list_all is_route_good routes ≡ true → AllByRecursion (λ (r : IpPrefix × List Path). AreNumbered r.1) routes
routes-numbered [] good = tt
routes-numbered (r ∷ routes) good =
    let parts = both_so (is_route_good r) (list_all is_route_good routes) good in
    let here = both_so (is_prefix r.0.family r.0) (list_all (is_path_good r.0.family) r.1) parts.0 in
    (each_numbered r.0.family r.1 here.1, routes-numbered routes parts.1)

found_numbered : (test : IpPrefix → Bool) (routes : Routes) → AllByRecursion (λ (r : IpPrefix × List Path). AreNumbered r.1) routes → AreNumbered (unwrap_or (lookup test routes) [])
found_numbered test [] all = tt
found_numbered test (r ∷ routes) all = by (test r.0) (found_numbered test routes all.1)
  where
    by : (b : Bool) → AreNumbered (unwrap_or (lookup test routes) []) → AreNumbered (unwrap_or (cond b (Some r.1) (lookup test routes)) [])
    by true rest = all.0
    by false rest = rest

pub paths-numbered : (routes : Routes) (prefix : IpPrefix) → list_all is_route_good routes ≡ true → AreNumbered (paths_to routes prefix)
paths-numbered routes prefix good = found_numbered (same_prefix prefix) routes (routes-numbered routes good)

-- ---- one prefix more

changes_more : (w : World) (before : Routes) (r : IpPrefix × List Path) (key : GroupKey) → changes_of w before key ++ changes_to w r.0 [] r.1 key ≡ changes_of w (before ++ r ∷ []) key
changes_more w before r key =
    let here : changes_to w r.0 [] r.1 key ≡ changes_of w (r ∷ []) key = sym (append-nil (changes_to w r.0 [] r.1 key)) in
    ap (λ (cs : Changes). changes_of w before key ++ cs) here ∙ sym (flat_map-append (λ (s : IpPrefix × List Path). changes_to w s.0 [] s.1 key) before (r ∷ []))

pub prefix-more : (reach : Reach) (w : World) (before : Routes) (r : IpPrefix × List Path) (old mid new : Rows) (key : GroupKey) → mid ≡ reached reach key (with_changes (changes_of w before key)) old
    → new ≡ reached reach key (with_changes (changes_to w r.0 [] r.1 key)) mid → new ≡ reached reach key (with_changes (changes_of w (before ++ r ∷ []) key)) old
prefix-more reach w before r old mid new key one two =
    two ∙ ap (λ (rows : Rows). reached reach key (with_changes (changes_to w r.0 [] r.1 key)) rows) one ∙ reached-append reach key (changes_of w before key) (changes_to w r.0 [] r.1 key) old
    ∙ ap (λ (cs : Changes). reached reach key (with_changes cs) old) (changes_more w before r key)

pub heeded-more : (add_path : Bool) (before : Routes) (r : IpPrefix × List Path) (a b c : ℕ) → b ≡ a + all_heeded add_path before → c ≡ b + paths_heeded add_path r.1 → c ≡ a + all_heeded add_path (before ++ r ∷ [])
heeded-more add_path before r a b c one two =
    let both = sum_by-append (λ (s : IpPrefix × List Path). paths_heeded add_path s.1) before (r ∷ []) in
    let last = sum_by-cons (λ (s : IpPrefix × List Path). paths_heeded add_path s.1) r [] in omega arith

pub heeded-most : (add_path : Bool) (before : Routes) (r : IpPrefix × List Path) (rest routes : Routes) (a b c : ℕ) → before ++ r ∷ rest ≡ routes → b ≡ a + all_heeded add_path before
    → c ≤ b + paths_heeded add_path r.1 → c ≤ a + all_heeded add_path routes
heeded-most add_path before r rest routes a b c whole one two =
    let both = sum_by-append (λ (s : IpPrefix × List Path). paths_heeded add_path s.1) before (r ∷ rest) in
    let first = sum_by-cons (λ (s : IpPrefix × List Path). paths_heeded add_path s.1) r rest in
    let same : all_heeded add_path (before ++ r ∷ rest) ≡ all_heeded add_path routes = ap (all_heeded add_path) whole in omega arith

-- ---- one key more

-- the key of the row whose number stands at a place
pub record KeyThere (gs : List ℕ) (rows : Rows) (keys : List GroupKey) (i : ℕ) : Type 0 where
  pub key : GroupKey
  pub is : key_at (get_or gs i 0) rows ≡ Some key
  pub left : drop i keys ≡ key ∷ drop (i + 1) keys

behind_one : {T : Type 0} (x : T) (xs : List T) (i : ℕ) → drop (suc i + 1) (x ∷ xs) ≡ drop (i + 1) xs
behind_one x xs i = ap (λ (n : ℕ). drop n (x ∷ xs)) (add-one (suc i)) ∙ sym (ap (λ (n : ℕ). drop n xs) (add-one i))

pub key-there : (gs : List ℕ) (rows : Rows) (keys : List GroupKey) (i : ℕ) → HaveKeys gs rows keys → i < length gs → KeyThere gs rows keys i
key-there [] rows keys i have inside = absurd (omega arith)
key-there (g ∷ gs) rows [] i have inside = absurd cc
key-there (g ∷ gs) rows (k ∷ keys) zero have inside = record { key = k; is = cc; left = refl }
key-there (g ∷ gs) rows (k ∷ keys) (suc i) have inside =
    let within : i < length gs = omega arith in
    let rest = key-there gs rows keys i (cc) within in
    record { key = rest.key; is = rest.is; left = rest.left ∙ ap (λ (ks : List GroupKey). rest.key ∷ ks) (sym (behind_one k keys i)) }

pub keys-done : (gs : List ℕ) (rows : Rows) (keys : List GroupKey) (i : ℕ) → HaveKeys gs rows keys → length gs ≤ i → drop i keys ≡ []
keys-done [] rows [] zero have past = refl
keys-done [] rows [] (suc i) have past = refl
keys-done [] rows (k ∷ keys) i have past = absurd cc
keys-done (g ∷ gs) rows [] i have past = absurd cc
keys-done (g ∷ gs) rows (k ∷ keys) zero have past = absurd (omega arith)
keys-done (g ∷ gs) rows (k ∷ keys) (suc i) have past =
    let within : length gs ≤ i = omega arith in keys-done gs rows keys i (cc) within

pub keys-more : (change : GroupKey → Subgroup → Subgroup) (gs : List ℕ) (before mid new : Rows) (keys : List GroupKey) (i : ℕ) → HaveKeys gs before keys → i < length gs
    → by_keys change (drop i keys) mid ≡ by_keys change keys before → ((h : ℕ) → key_at h mid ≡ key_at h before)
    → ((key : GroupKey) → key_at (get_or gs i 0) mid ≡ Some key → new ≡ each_row (of_key key (change key)) mid) → by_keys change (drop (i + 1) keys) new ≡ by_keys change keys before
keys-more change gs before mid new keys i have inside so same now =
    let there = key-there gs before keys i have inside in
    ap (λ (rows : Rows). by_keys change (drop (i + 1) keys) rows) (now there.key (same (get_or gs i 0) ∙ there.is))
    ∙ sym (ap (λ (ks : List GroupKey). by_keys change ks mid) there.left) ∙ so

pub costs-more : (cost : GroupKey → ℕ) (gs : List ℕ) (before mid : Rows) (keys : List GroupKey) (i a b c : ℕ) → HaveKeys gs before keys → i < length gs
    → b + sum_by cost (drop i keys) ≡ a + sum_by cost keys → ((h : ℕ) → key_at h mid ≡ key_at h before)
    → ((key : GroupKey) → key_at (get_or gs i 0) mid ≡ Some key → c ≡ b + cost key) → c + sum_by cost (drop (i + 1) keys) ≡ a + sum_by cost keys
costs-more cost gs before mid keys i a b c have inside so same now =
    let there = key-there gs before keys i have inside in
    let here = now there.key (same (get_or gs i 0) ∙ there.is) in
    let left = ap (sum_by cost) there.left ∙ sum_by-cons cost there.key (drop (i + 1) keys) in omega arith

pub costs-most : (cost : GroupKey → ℕ) (gs : List ℕ) (before mid : Rows) (keys : List GroupKey) (i a b c : ℕ) → HaveKeys gs before keys → i < length gs
    → b + sum_by cost (drop i keys) ≡ a + sum_by cost keys → ((h : ℕ) → key_at h mid ≡ key_at h before)
    → ((key : GroupKey) → key_at (get_or gs i 0) mid ≡ Some key → c ≤ b + cost key) → c ≤ a + sum_by cost keys
costs-most cost gs before mid keys i a b c have inside so same now =
    let there = key-there gs before keys i have inside in
    let here = now there.key (same (get_or gs i 0) ∙ there.is) in
    let left = ap (sum_by cost) there.left ∙ sum_by-cons cost there.key (drop (i + 1) keys) in omega arith

-- ---- all rows

pub all-behind : (routes : Routes) → rows_behind None routes ≡ routes
all-behind [] = refl
all-behind (r ∷ routes) = ap (λ (rs : Routes). r ∷ rs) (all-behind routes)

-- ---- a test of keys

module _ (test : GroupKey → Bool) (gs : List ℕ) (rows : Rows) (keys : List GroupKey) (i : ℕ) (have : HaveKeys gs rows keys) (inside : i < length gs) where
  pub row-there : IsSome (row_at (get_or gs i 0) rows)
  row-there = let there = key-there gs rows keys i have inside in let found = row-of (get_or gs i 0) rows there.key there.is in subst IsSome (sym found.1) refl

  pub test-there : (key : GroupKey) → key_at (get_or gs i 0) rows ≡ Some key → test key ≡ true → list_any test (drop i keys) ≡ true
  test-there key at passes =
      let there = key-there gs rows keys i have inside in
      let same : there.key ≡ key = (let both = sym there.is ∙ at in cc) in
      ap (list_any test) there.left ∙ ap (λ (b : Bool). b || list_any test (drop (i + 1) keys)) (ap test same ∙ passes)

  pub test-behind : (key : GroupKey) → key_at (get_or gs i 0) rows ≡ Some key → test key ≡ false → list_any test (drop (i + 1) keys) ≡ list_any test (drop i keys)
  test-behind key at fails =
      let there = key-there gs rows keys i have inside in
      let same : there.key ≡ key = (let both = sym there.is ∙ at in cc) in
      sym (ap (list_any test) there.left ∙ ap (λ (b : Bool). b || list_any test (drop (i + 1) keys)) (ap test same ∙ fails))

-- ---- those that pass a test

-- the numbers of those keys that pass it, where so many were looked at
pub record AreKept (test : GroupKey → Bool) (some : List ℕ) (rows : Rows) (keys : List GroupKey) (i : ℕ) : Type 0 where
  pub kept : List GroupKey
  pub have : HaveKeys some rows kept
  pub whole : kept ++ filter test (drop i keys) ≡ filter test keys

module _ (test : GroupKey → Bool) (gs some : List ℕ) (rows : Rows) (keys : List GroupKey) (i : ℕ) (have : HaveKeys gs rows keys) (inside : i < length gs) (are : AreKept test some rows keys i)
    (key : GroupKey) (at : key_at (get_or gs i 0) rows ≡ Some key) where
  there : KeyThere gs rows keys i
  there = key-there gs rows keys i have inside

  same : there.key ≡ key
  same = let both = sym there.is ∙ at in cc

  pub kept-one : test key ≡ true → AreKept test (some ++ get_or gs i 0 ∷ []) rows keys (i + 1)
  kept-one passes = record {
    kept = are.kept ++ key ∷ [];
    have =
        map-append (λ (g : ℕ). key_at g rows) some (get_or gs i 0 ∷ []) ∙ ap (λ (ks : List (Option GroupKey)). ks ++ key_at (get_or gs i 0) rows ∷ []) are.have
        ∙ ap (λ (k : Option GroupKey). map (λ (k : GroupKey). Some k) are.kept ++ k ∷ []) at ∙ sym (map-append (λ (k : GroupKey). Some k) are.kept (key ∷ []));
    whole =
        one-more are.kept key (filter test (drop (i + 1) keys))
        ∙ ap (λ (ks : List GroupKey). are.kept ++ ks)
        (sym
        (ap (filter test) there.left ∙ ap (λ (b : Bool). cond b (there.key ∷ filter test (drop (i + 1) keys)) (filter test (drop (i + 1) keys))) (ap test same ∙ passes)
        ∙ ap (λ (k : GroupKey). k ∷ filter test (drop (i + 1) keys)) same))
        ∙ are.whole;
  }

  pub kept-none : test key ≡ false → AreKept test some rows keys (i + 1)
  kept-none fails = record {
    kept = are.kept;
    have = are.have;
    whole =
        ap (λ (ks : List GroupKey). are.kept ++ ks)
        (sym (ap (filter test) there.left ∙ ap (λ (b : Bool). cond b (there.key ∷ filter test (drop (i + 1) keys)) (filter test (drop (i + 1) keys))) (ap test same ∙ fails)))
        ∙ are.whole;
  }
