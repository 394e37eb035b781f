-- What is found among the entries is found among the rows.
use Rattle.std.proofs.Common.{◌≡◌, ℕ, zero, suc, ◌+◌, ◌<◌, Bool, true, false, List, [], ◌∷◌, length, Option, Some, None, refl, sym, ◌∙◌, ap, subst, arith}
use Rattle.std.specs.Prelude.{position, is_some, IfSome, IfNone, ◌==◌, not, ◌&&◌, ◌||◌, if◌then◌else◌, slice_get}
use Rattle.std.proofs.Common.{get_or}
use Rattle.std.proofs.lemmas.Option.{slice_get-get_or}
use Rattle.std.proofs.lemmas.List.Quantifiers.{position-Some}
use Rattle.ug_types.specs.declared.route.OutAttrs.{OutAttrs}
use Rattle.ug_outbound.specs.declared.key.GroupKey.{GroupKey}
use Rattle.ug_intern.specs.Pools.{Pooled}
use Rattle.ug_queue.specs.Spread.{numbered, value_of}
use Rattle.ug_group_rules.specs.Packets.{same_group}
use Rattle.ug_group_rules.specs.Machine.{first_joinable, is_joinable, is_level}
use Rattle.ug_group_rules.specs.Evaluations.{has_key, keys_from}
use Rattle.ug_groups.specs.declared.entry.Entry.{Entry}
use Rattle.ug_groups.specs.Rows.{Row, Rows, row_at, any_at, any_row, some_row, subs_of, keys_in, HasRow, some_merge, may_merge_rows}
use Rattle.ug_groups.specs.Entries.{Entries, key_of, row_in, rows_in, bare, may_merge_entries, AreClassed}
use Rattle.ug_groups.specs.Scans.{first_of, number_at}
use Rattle.ug_groups.proofs.Scanned.{number_first, first_some, entry_at}
use Rattle.ug_group_rules.proofs.Groups.{group-same}
use Rattle.ug_group_rules.proofs.Keys.{laws}
use Rattle.ug_groups.proofs.Accounts.{row_there}
use Rattle.ug_groups.proofs.Dones.{some_weaker}

pub place_within : {T : Type 0} (p : T → Bool) (rows : List T) (o : Option ℕ) → o ≡ position p rows → IfSome o (λ i. i < length rows)
place_within p rows None e = tt
place_within p [] (Some i) e = absurd cc
place_within p (r ∷ rows) (Some i) e = (position-Some p (r ∷ rows) i r (sym e)).0

-- some row passes where a first entry is found
pub any_first : (test : ℕ → Row → Bool) (pool : Pooled OutAttrs) (g : ℕ) (xs : Entries) → any_row test g (rows_in pool xs) ≡ is_some (first_of (λ n e. test n (row_in pool e)) g xs)
any_first test pool g [] = refl
any_first test pool g (None ∷ xs) = any_first test pool (g + 1) xs
any_first test pool g (Some e ∷ xs) = by (test g (row_in pool e)) (any_first test pool (g + 1) xs)
  where
    by : (b : Bool) → any_row test (g + 1) (rows_in pool xs) ≡ is_some (first_of (λ n e. test n (row_in pool e)) (g + 1) xs)
        → (b || any_row test (g + 1) (rows_in pool xs)) ≡ is_some (if b then Some g else first_of (λ n e. test n (row_in pool e)) (g + 1) xs)
    by true h = refl
    by false h = h

-- the first that a session may share
pub joinable_first : (key : GroupKey) (pool : Pooled OutAttrs) (g : ℕ) (xs : Entries) → first_joinable key g (subs_of (rows_in pool xs)) ≡ first_of (λ n e. is_joinable key (row_in pool e).sub) g xs
joinable_first key pool g [] = refl
joinable_first key pool g (None ∷ xs) = joinable_first key pool (g + 1) xs
joinable_first key pool g (Some e ∷ xs) = ap (λ (o : Option ℕ). if is_joinable key (row_in pool e).sub then Some g else o) (joinable_first key pool (g + 1) xs)

module _ (test : Row → Bool) (pool : Pooled OutAttrs) (xs : Entries) (rows : Rows) (is : rows_in pool xs ≡ rows) (blind : (e : Entry) → test (bare e) ≡ test (row_in pool e)) (entries : List (ℕ × Entry)) (all : entries ≡ numbered 0 xs) (place : Option ℕ)
    (at : place ≡ position (λ (r : ℕ × Entry). test (bare r.1)) entries) where
  pub found_is : (o : Option ℕ) → o ≡ number_at place entries → o ≡ first_of (λ n e. test (bare e)) 0 xs
  found_is o e =
      e ∙ ap (λ (p : Option ℕ). number_at p entries) at ∙ ap (λ (l : List (ℕ × Entry)). number_at (position (λ (r : ℕ × Entry). test (bare r.1)) l) l) all
      ∙ number_first (λ n e. test (bare e)) xs

  pub found_some : (o : Option ℕ) → o ≡ number_at place entries → IfSome o (λ g. any_at test (row_at g rows) ≡ true)
  found_some None e = tt
  found_some (Some g) e =
      let found = first_some (λ n e. test (bare e)) 0 g xs (sym (found_is (Some g) e)) in let x = found.1 in
      let same : g ≡ found.0 = (let n = found.2 in omega (arith, n)) in
      ap (any_at test) (row_there pool xs g rows x is (ap (λ (k : ℕ). value_of k xs) same ∙ found.3)) ∙ sym (blind x) ∙ found.4

  blind_first : (g : ℕ) (ys : Entries) → first_of (λ n e. test (bare e)) g ys ≡ first_of (λ n e. test (row_in pool e)) g ys
  blind_first g [] = refl
  blind_first g (None ∷ ys) = blind_first (g + 1) ys
  blind_first g (Some e ∷ ys) = ap (λ (b : Bool). if b then Some g else first_of (λ n e. test (bare e)) (g + 1) ys) (blind e) ∙ ap (λ (o : Option ℕ). if test (row_in pool e) then Some g else o) (blind_first (g + 1) ys)

  some_is : some_row test rows ≡ is_some (first_of (λ n e. test (bare e)) 0 xs)
  some_is = ap (λ (rs : Rows). some_row test rs) (sym is) ∙ any_first (λ n r. test r) pool 0 xs ∙ ap is_some (sym (blind_first 0 xs))

  pub found_none : (o : Option ℕ) → o ≡ number_at place entries → IfNone o (some_row test rows ≡ false)
  found_none None e = some_is ∙ ap is_some (sym (found_is None e))
  found_none (Some g) e = tt

  pub found_any : is_some place ≡ some_row test rows
  found_any = by place refl ∙ ap is_some (found_is (number_at place entries) refl) ∙ sym some_is
    where
      by : (p : Option ℕ) → place ≡ p → is_some p ≡ is_some (number_at place entries)
      by None e = ap (λ (p : Option ℕ). is_some (number_at p entries)) (sym e)
      by (Some i) e = let within = place_within (λ (r : ℕ × Entry). test (bare r.1)) entries (Some i) (sym e ∙ at) in sym (ap (λ (p : Option ℕ). is_some (number_at p entries)) e ∙ some_within i entries within)
        where
          some_within : (i : ℕ) (l : List (ℕ × Entry)) → i < length l → is_some (number_at (Some i) l) ≡ true
          some_within i [] less = absurd (omega (arith, less))
          some_within zero (r ∷ l) less = refl
          some_within (suc i) (r ∷ l) less = some_within i l (omega (arith, less))

-- ---- keys

key_met : (before : List GroupKey) (pool : Pooled OutAttrs) (g : ℕ) (xs : Entries) (k : GroupKey) → has_key before k ≡ false → has_key (keys_from before (subs_of (rows_in pool xs))) k ≡ is_some (first_of (λ n e. same_group (key_of e) k) g xs)
key_met before pool g [] k apart = refl
key_met before pool g (None ∷ xs) k apart = key_met before pool (g + 1) xs k apart
key_met before pool g (Some e ∷ xs) k apart =
    by (has_key before (key_of e)) (same_group (key_of e) k) refl refl (key_met before pool (g + 1) xs k apart) (λ other. key_met (key_of e ∷ before) pool (g + 1) xs k other)
  where
    by : (s t : Bool) → has_key before (key_of e) ≡ s → same_group (key_of e) k ≡ t → has_key (keys_from before (subs_of (rows_in pool xs))) k ≡ is_some (first_of (λ n e. same_group (key_of e) k) (g + 1) xs)
        → (has_key (key_of e ∷ before) k ≡ false → has_key (keys_from (key_of e ∷ before) (subs_of (rows_in pool xs))) k ≡ is_some (first_of (λ n e. same_group (key_of e) k) (g + 1) xs))
        → has_key (if s then keys_from before (subs_of (rows_in pool xs)) else key_of e ∷ keys_from (key_of e ∷ before) (subs_of (rows_in pool xs))) k ≡ is_some (if t then Some g else first_of (λ n e. same_group (key_of e) k) (g + 1) xs)
    by true true known same here later = absurd (let so : has_key before k ≡ true = ap (has_key before) (sym (group-same (key_of e) k same)) ∙ known in cc)
    by true false known same here later = here
    by false true known same here later = ap (λ (b : Bool). b || has_key (keys_from (key_of e ∷ before) (subs_of (rows_in pool xs))) k) (laws.symm k (key_of e) ∙ same)
    by false false known same here later =
        let not_it : same_group k (key_of e) ≡ false = laws.symm k (key_of e) ∙ same in
        ap (λ (b : Bool). b || has_key (keys_from (key_of e ∷ before) (subs_of (rows_in pool xs))) k) not_it ∙ later (ap (λ (b : Bool). b || has_key before k) not_it ∙ apart)

module _ (key : GroupKey) (pool : Pooled OutAttrs) (xs : Entries) (rows : Rows) (is : rows_in pool xs ≡ rows) (entries : List (ℕ × Entry)) (all : entries ≡ numbered 0 xs) (place : Option ℕ)
    (at : place ≡ position (λ (r : ℕ × Entry). same_group (key_of r.1) key) entries) (o : Option ℕ) (number : o ≡ number_at place entries) where
  met_is : has_key (keys_in rows) key ≡ is_some o
  met_is =
      ap (λ (rs : Rows). has_key (keys_in rs) key) (sym is) ∙ key_met [] pool 0 xs key refl
      ∙ ap is_some (sym (found_is (λ r. same_group r.sub.key key) pool xs rows is (λ e. refl) entries all place at o number))

  pub key_found : IfSome o (λ g. HasRow g rows (λ r. r.sub.key ≡ key))
  key_found = some_weaker o (λ g so. by g (row_at g rows) refl so) (found_some (λ r. same_group r.sub.key key) pool xs rows is (λ e. refl) entries all place at o number)
    where
      by : (g : ℕ) (q : Option Row) → row_at g rows ≡ q → any_at (λ (r : Row). same_group r.sub.key key) q ≡ true → HasRow g rows (λ r. r.sub.key ≡ key)
      by g None e so = absurd cc
      by g (Some r) e so = (r, e, group-same r.sub.key key so)

  pub key_some : IfSome o (λ _. has_key (keys_in rows) key ≡ true)
  key_some = by o met_is
    where
      by : (p : Option ℕ) → has_key (keys_in rows) key ≡ is_some p → IfSome p (λ _. has_key (keys_in rows) key ≡ true)
      by None e = tt
      by (Some g) e = e

  pub key_none : IfNone o (has_key (keys_in rows) key ≡ false)
  key_none = by o met_is
    where
      by : (p : Option ℕ) → has_key (keys_in rows) key ≡ is_some p → IfNone p (has_key (keys_in rows) key ≡ false)
      by None e = e
      by (Some g) e = tt

-- ---- partners

first_cong : (t u : ℕ → Entry → Bool) (g : ℕ) (xs : Entries) → ((h : ℕ) (e : Entry) → value_of h xs ≡ Some e → t (g + h) e ≡ u (g + h) e) → first_of t g xs ≡ first_of u g xs
first_cong t u g [] same = refl
first_cong t u g (None ∷ xs) same = first_cong t u (g + 1) xs (λ h e is. let number : g + 1 + h ≡ g + suc h = omega arith in ap (λ (n : ℕ). t n e) number ∙ same (suc h) e is ∙ ap (λ (n : ℕ). u n e) (sym number))
first_cong t u g (Some x ∷ xs) same =
    let number_0 : g + 0 ≡ g = omega arith in
    let here : t g x ≡ u g x = ap (λ (n : ℕ). t n x) (sym number_0) ∙ same 0 x refl ∙ ap (λ (n : ℕ). u n x) number_0 in
    let rest : first_of t (g + 1) xs ≡ first_of u (g + 1) xs =
    first_cong t u (g + 1) xs (λ h e is. let number : g + 1 + h ≡ g + suc h = omega arith in ap (λ (n : ℕ). t n e) number ∙ same (suc h) e is ∙ ap (λ (n : ℕ). u n e) (sym number)) in
    ap (λ (b : Bool). if b then Some g else first_of t (g + 1) xs) here ∙ ap (λ (o : Option ℕ). if u g x then Some g else o) rest

some_numbered : (p : ℕ × Entry → Bool) (entries : List (ℕ × Entry)) → is_some (position p entries) ≡ is_some (number_at (position p entries) entries)
some_numbered p entries = by (position p entries) refl
  where
    by : (o : Option ℕ) → position p entries ≡ o → is_some o ≡ is_some (number_at o entries)
    by None e = refl
    by (Some i) e = sym (there i entries (place_within p entries (Some i) (sym e)))
      where
        there : (i : ℕ) (l : List (ℕ × Entry)) → i < length l → is_some (number_at (Some i) l) ≡ true
        there i [] less = absurd (omega (arith, less))
        there zero (r ∷ l) less = refl
        there (suc i) (r ∷ l) less = there i l (omega (arith, less))

abbrev pub partner : ℕ × Entry → ℕ × Entry → Bool
partner q r = not (q.0 == r.0) && may_merge_entries q.1 r.1

module _ (next : ℕ) (pool : Pooled OutAttrs) (xs : Entries) (rows : Rows) (is : rows_in pool xs ≡ rows) (classed : AreClassed next xs) (entries : List (ℕ × Entry)) (all : entries ≡ numbered 0 xs) where
  by_class : (g h : ℕ) (e f : Entry) → value_of g xs ≡ Some e → value_of h xs ≡ Some f → may_merge_entries e f ≡ may_merge_rows (row_in pool e) (row_in pool f)
  by_class g h e f at to = ap (λ (b : Bool). is_level (bare e).sub && (is_level (bare f).sub && b) && (length f.subgroup.queue.packets == 0)) (classed.alike g h e f at to)

  inner : (g : ℕ) (e : Entry) → value_of g xs ≡ Some e → is_some (position (λ (r : ℕ × Entry). partner (g, e) r) entries) ≡ any_row (λ h s. not (g == h) && may_merge_rows (row_in pool e) s) 0 rows
  inner g e at =
      some_numbered (λ (r : ℕ × Entry). partner (g, e) r) entries
      ∙ ap (λ (l : List (ℕ × Entry)). is_some (number_at (position (λ (r : ℕ × Entry). partner (g, e) r) l) l)) all
      ∙ ap is_some (number_first (λ h f. partner (g, e) (h, f)) xs
      ∙ first_cong (λ h f. not (g == h) && may_merge_entries e f) (λ h f. not (g == h) && may_merge_rows (row_in pool e) (row_in pool f)) 0 xs
      (λ h f there. ap (λ (b : Bool). not (g == 0 + h) && b) (by_class g h e f at there)))
      ∙ sym (any_first (λ h s. not (g == h) && may_merge_rows (row_in pool e) s) pool 0 xs)
      ∙ ap (λ (rs : Rows). any_row (λ h s. not (g == h) && may_merge_rows (row_in pool e) s) 0 rs) is

  pub none_merge : (o : Option ℕ) → o ≡ position (λ (q : ℕ × Entry). is_some (position (λ (r : ℕ × Entry). partner q r) entries)) entries → o ≡ None → some_merge rows ≡ false
  none_merge o at none =
      let test = λ (g : ℕ) (e : Entry). is_some (position (λ (r : ℕ × Entry). partner (g, e) r) entries) in
      ap (λ (rs : Rows). any_row (λ g r. any_row (λ h s. not (g == h) && may_merge_rows r s) 0 rows) 0 rs) (sym is)
      ∙ any_first (λ g r. any_row (λ h s. not (g == h) && may_merge_rows r s) 0 rows) pool 0 xs
      ∙ ap is_some (sym (first_cong test (λ g e. any_row (λ h s. not (g == h) && may_merge_rows (row_in pool e) s) 0 rows) 0 xs
      (λ h e there. let number : 0 + h ≡ h = omega arith in inner (0 + h) e (ap (λ (n : ℕ). value_of n xs) number ∙ there))))
      ∙ ap is_some (sym (number_first test xs) ∙ ap (λ (l : List (ℕ × Entry)). number_at (position (λ (q : ℕ × Entry). is_some (position (λ (r : ℕ × Entry). partner q r) entries)) l) l) (sym all)
      ∙ ap (λ (p : Option ℕ). number_at p entries) (sym at ∙ none))

  entry_there : (i : ℕ) (r : ℕ × Entry) → i < length entries → value_of (get_or entries i r).0 xs ≡ Some (get_or entries i r).1
  entry_there i r less = entry_at i (get_or entries i r).0 (get_or entries i r).1 xs (ap (λ (l : List (ℕ × Entry)). slice_get l i) (sym all) ∙ slice_get-get_or entries i r less)

  pub pair_merges : (i j : ℕ) (r s : ℕ × Entry) → i < length entries → position (λ (q : ℕ × Entry). partner (get_or entries i r) q) entries ≡ Some j
      → (not ((get_or entries i r).0 == (get_or entries j s).0) && any_at (λ r. any_at (λ s. may_merge_rows r s) (row_at (get_or entries j s).0 rows)) (row_at (get_or entries i r).0 rows)) ≡ true
  pair_merges i j r s within at =
      let e = get_or entries i r in let f = get_or entries j s in
      let found = position-Some (λ (q : ℕ × Entry). partner e q) entries j s at in
      let e_there = entry_there i r within in let f_there = entry_there j s found.0 in
      ap (λ (o : Option Row). not (e.0 == f.0) && any_at (λ x. any_at (λ y. may_merge_rows x y) (row_at f.0 rows)) o) (row_there pool xs e.0 rows e.1 is e_there)
      ∙ ap (λ (o : Option Row). not (e.0 == f.0) && any_at (λ y. may_merge_rows (row_in pool e.1) y) o) (row_there pool xs f.0 rows f.1 is f_there)
      ∙ ap (λ (b : Bool). not (e.0 == f.0) && b) (sym (by_class e.0 f.0 e.1 f.1 e_there f_there)) ∙ found.1

  pub pair_is : (o u : Option ℕ) (i j : ℕ) (e f : ℕ × Entry) → o ≡ position (λ (q : ℕ × Entry). is_some (position (λ (r : ℕ × Entry). partner q r) entries)) entries → o ≡ Some i → e ≡ get_or entries i e
      → u ≡ position (λ (r : ℕ × Entry). partner e r) entries → u ≡ Some j → f ≡ get_or entries j f
      → (not (e.0 == f.0) && any_at (λ r. any_at (λ s. may_merge_rows r s) (row_at f.0 rows)) (row_at e.0 rows)) ≡ true
  pair_is o u i j e f at o_is e_is to u_is f_is =
      let within = place_within (λ (q : ℕ × Entry). is_some (position (λ (r : ℕ × Entry). partner q r) entries)) entries (Some i) (sym o_is ∙ at) in
      subst (λ (x : ℕ × Entry). (not (x.0 == f.0) && any_at (λ r. any_at (λ s. may_merge_rows r s) (row_at f.0 rows)) (row_at x.0 rows)) ≡ true) (sym e_is)
      (subst (λ (y : ℕ × Entry). (not ((get_or entries i e).0 == y.0) && any_at (λ r. any_at (λ s. may_merge_rows r s) (row_at y.0 rows)) (row_at (get_or entries i e).0 rows)) ≡ true) (sym f_is)
      (pair_merges i j e f within (ap (λ (x : ℕ × Entry). position (λ (r : ℕ × Entry). partner x r) entries) (sym e_is) ∙ sym to ∙ u_is)))

pub surely : (entries : List (ℕ × Entry)) (o u : Option ℕ) (i : ℕ) (e : ℕ × Entry) → o ≡ position (λ (q : ℕ × Entry). is_some (position (λ (r : ℕ × Entry). partner q r) entries)) entries → o ≡ Some i → e ≡ get_or entries i e
    → u ≡ position (λ (r : ℕ × Entry). partner e r) entries → u ≡ None → ⊥
surely entries o u i e at o_is e_is to none =
    let found = position-Some (λ (q : ℕ × Entry). is_some (position (λ (r : ℕ × Entry). partner q r) entries)) entries i e (sym at ∙ o_is) in
    let so : true ≡ is_some {T = ℕ} None = sym found.1 ∙ ap (λ (x : ℕ × Entry). is_some (position (λ (r : ℕ × Entry). partner x r) entries)) (sym e_is) ∙ ap is_some (sym to ∙ none) in cc

-- one that isn't level has none
pub no_partner : (e : ℕ × Entry) (entries : List (ℕ × Entry)) → is_level (bare e.1).sub ≡ false → false ≡ is_some (position (λ (r : ℕ × Entry). partner e r) entries)
no_partner e entries not_level = by (position (λ (r : ℕ × Entry). partner e r) entries) refl
  where
    never : (r : ℕ × Entry) → partner e r ≡ false
    never r = ap (λ (b : Bool). not (e.0 == r.0) && (b && (is_level (bare r.1).sub && (e.1.class == r.1.class)) && (length r.1.subgroup.queue.packets == 0))) not_level ∙ ends (not (e.0 == r.0))
      where
        ends : (b : Bool) → (b && false) ≡ false
        ends true = refl
        ends false = refl

    by : (o : Option ℕ) → position (λ (r : ℕ × Entry). partner e r) entries ≡ o → false ≡ is_some o
    by None at = refl
    by (Some i) at = let found = position-Some (λ (r : ℕ × Entry). partner e r) entries i e at in let no = sym (never (get_or entries i e)) ∙ found.1 in cc
