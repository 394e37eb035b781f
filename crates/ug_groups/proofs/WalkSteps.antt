-- A walk along the keys of two tables.
use Rattle.std.proofs.Common.{◌≡◌, ℕ, ◌+◌, ◌<◌, ◌≤◌, Bool, true, false, cond, List, [], ◌∷◌, ◌++◌, length, slice_get, Option, Some, None, refl, sym, ◌∙◌, ap, subst, arith, inl, inr, ◌⊎◌}
use Rattle.std.specs.Prelude.{IsSome, filter, ◌||◌, if◌then◌else◌}
use Rattle.std.specs.Option.{option_map}
use Rattle.std.specs.List.{AllByRecursion}
use Rattle.std.specs.List.Sorted.{IsStrictlySortedBy}
use Rattle.std.specs.Map.{keys_of}
use Rattle.std.specs.BTreeMap.{is_at}
use Rattle.std.specs.Ordering.{is_lt, is_eq}
use Rattle.std.specs.declared.cmp.Ordering.{Ordering}
use Rattle.std.specs.declared.cmp.Ordering.TheVariants.{Less, Equal, Greater}
use Rattle.std.proofs.lemmas.Map.Keys.{sorted_head, sorted_tail}
use Rattle.std.proofs.lemmas.Bool.{or_parts}
use Rattle.ug_types.specs.declared.key.Key.{Key}
use Rattle.ug_adjout.specs.Tables.{has, value_at, rows_after, IsTable}
use Rattle.ug_adjout.specs.TableLaws.{at_itself, one_key, turned_less, below_all, none_above, has-append, value_at-other}
use Rattle.ug_adjout.specs.Pending.{AdjRibOut, with_desired}
use Rattle.ug_adjout.specs.Desiring.{with_each_desired}
use Rattle.ug_pack.specs.Ready.{key_order}
use Rattle.ug_pack.proofs.Keys.{key_total, key_exact}
use Rattle.ug_groups.specs.Walks.{is_behind, IsFirst, IsNext, least}

-- ---- order

less_is : (r : Ordering) → is_lt r ≡ true → r ≡ Less
less_is Less e = refl
less_is Equal e = absurd cc
less_is Greater e = absurd cc

equal_is : (r : Ordering) → is_eq r ≡ true → r ≡ Equal
equal_is Less e = absurd cc
equal_is Equal e = refl
equal_is Greater e = absurd cc

not_itself : (k : Key) → is_lt (key_order k k) ≡ false
not_itself k = by (key_order k k) refl
  where
    by : (r : Ordering) → key_order k k ≡ r → is_lt r ≡ false
    by Less e = let z = sym (ap is_eq e) ∙ at_itself key_total key_exact k in cc
    by Equal e = refl
    by Greater e = refl

further : (a k q : Key) → is_lt (key_order a k) ≡ true → is_lt (key_order k q) ≡ true → is_lt (key_order a q) ≡ true
further a k q e f = ap is_lt (key_total.trans a k q (less_is _ e) (less_is _ f))

pub behind_further : (at : Option Key) (k q : Key) → is_behind at k ≡ true → is_lt (key_order k q) ≡ true → is_behind at q ≡ true
behind_further None k q e f = refl
behind_further (Some a) k q e f = further a k q e f

-- what isn't behind is below what is
low_below : (at : Option Key) (q k : Key) → is_behind at q ≡ false → is_behind at k ≡ true → key_order q k ≡ Less
low_below None q k e f = absurd cc
low_below (Some a) q k e f = by (key_order a q) refl
  where
    by : (r : Ordering) → key_order a q ≡ r → key_order q k ≡ Less
    by Less g = absurd (let so : is_lt (key_order a q) ≡ true = ap is_lt g in cc)
    by Equal g = let same : a ≡ q = key_exact a q g in subst (λ (z : Key). key_order z k ≡ Less) same (less_is _ f)
    by Greater g = key_total.trans q a k (turned_less key_total key_exact a q g) (less_is _ f)

-- what isn't behind a key, and is another one, is below it
below_other : (k q : Key) → is_lt (key_order k q) ≡ false → is_at (key_order q) k ≡ false → is_lt (key_order q k) ≡ true
below_other k q e apart = by (key_order q k) refl
  where
    by : (r : Ordering) → key_order q k ≡ r → is_lt r ≡ true
    by Less g = refl
    by Equal g = absurd (let so : is_at (key_order q) k ≡ true = ap is_eq g in cc)
    by Greater g = absurd (let so : is_lt (key_order k q) ≡ true = ap is_lt (turned_less key_total key_exact q k g) in cc)

behind_itself : (at : Option Key) (k q : Key) → is_at (key_order q) k ≡ true → is_behind at q ≡ true → is_behind at k ≡ true
behind_itself at k q same e = subst (λ (z : Key). is_behind at z ≡ true) (one_key key_total key_exact q k same) e

apart_low : (at : Option Key) (x q : Key) → is_behind at x ≡ false → is_behind at q ≡ true → is_at (key_order q) x ≡ false
apart_low at x q low high = by (is_at (key_order q) x) refl
  where
    by : (b : Bool) → is_at (key_order q) x ≡ b → b ≡ false
    by true e = absurd (let so = behind_itself at x q e high in cc)
    by false e = refl

not_below : (k q x : Key) → is_lt (key_order q k) ≡ false → is_lt (key_order x k) ≡ true → is_lt (key_order x q) ≡ true
not_below k q x e f = by (key_order q k) refl
  where
    by : (r : Ordering) → key_order q k ≡ r → is_lt (key_order x q) ≡ true
    by Less g = absurd (let so : is_lt (key_order q k) ≡ true = ap is_lt g in cc)
    by Equal g = let same : q ≡ k = key_exact q k g in subst (λ (z : Key). is_lt (key_order x z) ≡ true) (sym same) f
    by Greater g = further x k q f (ap is_lt (turned_less key_total key_exact q k g))

-- ---- the first row behind a key

module _ {V : Type 0} where
  abbrev behind : Option Key → List (Key × V) → List (Key × V)
  behind at rows = filter (λ (e : Key × V). is_behind at e.0) rows

  all_behind : (rows : List (Key × V)) → rows ≡ behind None rows
  all_behind [] = refl
  all_behind (e ∷ rows) = ap (λ (l : List (Key × V)). e ∷ l) (all_behind rows)

  behind_is : (at : Option Key) (rows : List (Key × V)) → rows_after key_order at rows ≡ behind at rows
  behind_is None rows = all_behind rows
  behind_is (Some k) rows = refl

  value_first : (x : Key × V) (rows : List (Key × V)) (q : Key) (b : Bool) → is_at (key_order q) x.0 ≡ b → value_at key_order (x ∷ rows) q ≡ cond b (Some x.1) (value_at key_order rows q)
  value_first x rows q b e = ap (λ (t : Bool). cond t (Some x.1) (value_at key_order rows q)) e

  none_first : (at : Option Key) (rows : List (Key × V)) → slice_get (behind at rows) 0 ≡ None → (q : Key) → is_behind at q ≡ true → value_at key_order rows q ≡ None
  none_first at [] none q high = refl
  none_first at (x ∷ rows) none q high = by (is_behind at x.0) refl none (none_first at rows)
    where
      by : (b : Bool) → is_behind at x.0 ≡ b → slice_get (cond b (x ∷ behind at rows) (behind at rows)) 0 ≡ None
          → (slice_get (behind at rows) 0 ≡ None → (q : Key) → is_behind at q ≡ true → value_at key_order rows q ≡ None) → value_at key_order (x ∷ rows) q ≡ None
      by true e none later = absurd cc
      by false e none later = value_first x rows q false (apart_low at x.0 q e high) ∙ later none q high

  abbrev FirstAt : Option Key → List (Key × V) → Key × V → Type 0
  FirstAt at rows e = (is_behind at e.0 ≡ true) × (value_at key_order rows e.0 ≡ Some e.1) × ((q : Key) → is_behind at q ≡ true → is_lt (key_order q e.0) ≡ true → value_at key_order rows q ≡ None)

  some_first : (at : Option Key) (rows : List (Key × V)) (e : Key × V) → IsTable key_order rows → slice_get (behind at rows) 0 ≡ Some e → FirstAt at rows e
  some_first at [] e sorted is = absurd cc
  some_first at (x ∷ rows) e sorted is = by (is_behind at x.0) refl is (some_first at rows e (sorted_tail key_order x.0 (keys_of rows) sorted))
    where
      here : is_behind at x.0 ≡ true → FirstAt at (x ∷ rows) x
      here f = (f, value_first x rows x.0 true (at_itself key_total key_exact x.0), λ q high less. none_above key_total key_exact q (x ∷ rows) (less_is _ less, below_all key_total key_exact q x.0 (keys_of rows) (less_is _ less) (sorted_head key_order x.0 (keys_of rows) sorted)))

      by : (b : Bool) → is_behind at x.0 ≡ b → slice_get (cond b (x ∷ behind at rows) (behind at rows)) 0 ≡ Some e → (slice_get (behind at rows) 0 ≡ Some e → FirstAt at rows e) → FirstAt at (x ∷ rows) e
      by true f is later = let same : x ≡ e = cc in subst (λ (y : Key × V). FirstAt at (x ∷ rows) y) same (here f)
      by false f is later =
          let found = later is in
          (found.0, value_first x rows e.0 false (apart_low at x.0 e.0 f found.0) ∙ found.1, λ q high less. value_first x rows q false (apart_low at x.0 q f high) ∙ found.2 q high less)

  pub first_is : (at : Option Key) (rows : List (Key × V)) (r : Option (Key × V)) → IsTable key_order rows → r ≡ slice_get (rows_after key_order at rows) 0 → IsFirst rows at (option_map (λ (e : Key × V). e.0) r)
  first_is at rows None sorted e = none_first at rows (ap (λ (l : List (Key × V)). slice_get l 0) (sym (behind_is at rows)) ∙ sym e)
  first_is at rows (Some x) sorted e =
      let found = some_first at rows x sorted (ap (λ (l : List (Key × V)). slice_get l 0) (sym (behind_is at rows)) ∙ sym e) in
      (found.0, subst IsSome (sym found.1) refl, found.2)

  pub merged : (rows more : List (Key × V)) (at a b : Option Key) → IsFirst rows at a → IsFirst more at b → IsNext rows more at (least a b)
  merged rows more at None None f s = λ q high. (f q high, s q high)
  merged rows more at None (Some k) f s = (s.0, inr s.1, λ q high less. (f q high, s.2 q high less))
  merged rows more at (Some k) None f s = (f.0, inl f.1, λ q high less. (f.2 q high less, s q high))
  merged rows more at (Some k) (Some q) f s = by (is_lt (key_order q k)) refl
    where
      by : (b : Bool) → is_lt (key_order q k) ≡ b → IsNext rows more at (if b then Some q else Some k)
      by true e = (s.0, inr s.1, λ x high less. (f.2 x high (further x q k less e), s.2 x high less))
      by false e = (f.0, inl f.1, λ x high less. (f.2 x high less, s.2 x high (not_below k q x e less)))

  -- ---- fewer keys are left

  fewer : (k : Key) (at : Option Key) (rows : List (Key × V)) → is_behind at k ≡ true → length (behind (Some k) rows) ≤ length (behind at rows)
  fewer k at [] high = omega arith
  fewer k at (x ∷ rows) high = by (is_behind (Some k) x.0) (is_behind at x.0) refl refl (fewer k at rows high)
    where
      by : (a b : Bool) → is_behind (Some k) x.0 ≡ a → is_behind at x.0 ≡ b → length (behind (Some k) rows) ≤ length (behind at rows)
          → length (cond a (x ∷ behind (Some k) rows) (behind (Some k) rows)) ≤ length (cond b (x ∷ behind at rows) (behind at rows))
      by true true e f h = omega (arith, h)
      by true false e f h = absurd (let so = behind_further at k x.0 high e in cc)
      by false true e f h = omega (arith, h)
      by false false e f h = h

  one_fewer : (k : Key) (at : Option Key) (rows : List (Key × V)) → is_behind at k ≡ true → IsSome (value_at key_order rows k) → length (behind (Some k) rows) < length (behind at rows)
  one_fewer k at [] high there = absurd cc
  one_fewer k at (x ∷ rows) high there = by (is_at (key_order k) x.0) refl (one_fewer k at rows high)
    where
      by : (b : Bool) → is_at (key_order k) x.0 ≡ b → (IsSome (value_at key_order rows k) → length (behind (Some k) rows) < length (behind at rows)) → length (behind (Some k) (x ∷ rows)) < length (behind at (x ∷ rows))
      by true e later =
          let same : k ≡ x.0 = one_key key_total key_exact k x.0 e in
          let here : is_behind at x.0 ≡ true = behind_itself at x.0 k e high in
          let gone : is_behind (Some k) x.0 ≡ false = ap (λ (z : Key). is_lt (key_order k z)) (sym same) ∙ not_itself k in
          counted (is_behind (Some k) x.0) (is_behind at x.0) gone here (fewer k at rows high)
        where
          counted : (a b : Bool) → a ≡ false → b ≡ true → length (behind (Some k) rows) ≤ length (behind at rows)
              → length (cond a (x ∷ behind (Some k) rows) (behind (Some k) rows)) < length (cond b (x ∷ behind at rows) (behind at rows))
          counted true b g h le = absurd cc
          counted false true g h le = omega (arith, le)
          counted false false g h le = absurd cc
      by false e later =
          counted (is_behind (Some k) x.0) (is_behind at x.0) refl refl (later (subst IsSome (value_first x rows k false e) there))
        where
          counted : (a b : Bool) → is_behind (Some k) x.0 ≡ a → is_behind at x.0 ≡ b → length (behind (Some k) rows) < length (behind at rows)
              → length (cond a (x ∷ behind (Some k) rows) (behind (Some k) rows)) < length (cond b (x ∷ behind at rows) (behind at rows))
          counted true true g h less = omega (arith, less)
          counted true false g h less = absurd (let so = behind_further at k x.0 high g in cc)
          counted false true g h less = omega (arith, less)
          counted false false g h less = less

  abbrev pub left_of : List (Key × V) → List (Key × V) → Option Key → ℕ
  left_of rows more at = length (filter (λ (e : Key × V). is_behind at e.0) rows) + length (filter (λ (e : Key × V). is_behind at e.0) more)

  pub fewer_left : (rows more : List (Key × V)) (at : Option Key) (k : Key) → is_behind at k ≡ true → (IsSome (value_at key_order rows k)) ⊎ (IsSome (value_at key_order more k)) → left_of rows more (Some k) < left_of rows more at
  fewer_left rows more at k high (inl there) = let less = one_fewer k at rows high there in let le = fewer k at more high in omega (arith, less, le)
  fewer_left rows more at k high (inr there) = let le = fewer k at rows high in let less = one_fewer k at more high there in omega (arith, less, le)

-- ---- keys that were desired one after the other

all_more : (P : Key → Type 0) (keys : List Key) (k : Key) → AllByRecursion P keys → P k → AllByRecursion P (keys ++ k ∷ [])
all_more P [] k all here = (here, tt)
all_more P (x ∷ keys) k all here = (all.0, all_more P keys k all.1 here)

all_map : (P Q : Key → Type 0) (keys : List Key) → ((q : Key) → P q → Q q) → AllByRecursion P keys → AllByRecursion Q keys
all_map P Q [] f all = tt
all_map P Q (x ∷ keys) f all = (f x all.0, all_map P Q keys f all.1)

sorted_more : (keys : List Key) (k : Key) → IsStrictlySortedBy key_order keys → AllByRecursion (λ (q : Key). key_order q k ≡ Less) keys → IsStrictlySortedBy key_order (keys ++ k ∷ [])
unfolding IsStrictlySortedBy
sorted_more [] k sorted all = (tt, tt)
sorted_more (x ∷ keys) k sorted all = (all_more (λ (y : Key). key_order x y ≡ Less) keys k sorted.0 all.0, sorted_more keys k sorted.1 all.1)

has_low : (at : Option Key) (keys : List Key) (q : Key) → AllByRecursion (λ (d : Key). is_behind at d ≡ false) keys → is_behind at q ≡ true → has key_order keys q ≡ false
has_low at [] q low high = refl
has_low at (d ∷ keys) q low high = ap (λ (b : Bool). b || has key_order keys q) (apart_low at d q low.0 high) ∙ has_low at keys q low.1 high

module _ {V : Type 0} (same : V → V → Bool) where
  each_other : (value : Key → Option V) (a : AdjRibOut Key V) (keys : List Key) (q : Key) → has key_order keys q ≡ false → value_at key_order (with_each_desired key_order same value a keys).desired q ≡ value_at key_order a.desired q
  each_other value a [] q none = refl
  each_other value a (k ∷ keys) q none =
      let parts = or_parts (is_at (key_order q) k) (has key_order keys q) none in
      each_other value (with_desired key_order same a k (value k)) keys q parts.1 ∙ value_at-other key_total key_exact a.desired k q (value k) parts.0

  pub each_more : (value : Key → Option V) (a : AdjRibOut Key V) (keys : List Key) (k : Key) → with_each_desired key_order same value a (keys ++ k ∷ []) ≡ with_desired key_order same (with_each_desired key_order same value a keys) k (value k)
  each_more value a [] k = refl
  each_more value a (x ∷ keys) k = each_more value (with_desired key_order same a x (value x)) keys k

  -- So far: the keys that were desired are those up to `at` of both tables, in order.
  pub record IsWalk (rows : List (Key × V)) (a : AdjRibOut Key V) (at : Option Key) (done : List Key) : Type 0 where
    pub sorted : IsStrictlySortedBy key_order done
    pub low : AllByRecursion (λ (d : Key). is_behind at d ≡ false) done
    pub covered : (q : Key) → is_behind at q ≡ false → has key_order done q ≡ false → (value_at key_order rows q ≡ None) × (value_at key_order a.desired q ≡ None)

  pub walk_start : (rows : List (Key × V)) (a : AdjRibOut Key V) → IsWalk rows a None []
  unfolding IsStrictlySortedBy
  walk_start rows a = record { sorted = tt; low = tt; covered = λ q high none. absurd cc }

  module _ (rows : List (Key × V)) (a : AdjRibOut Key V) (value : Key → Option V) (at : Option Key) (done : List Key) (walk : IsWalk rows a at done) where
    abbrev now : AdjRibOut Key V
    now = with_each_desired key_order same value a done

    pub walk_step : (k : Key) → IsNext rows (with_each_desired key_order same value a done).desired at (Some k) → IsWalk rows a (Some k) (done ++ k ∷ [])
    walk_step k next = record {
      sorted = sorted_more done k walk.sorted (all_map (λ (d : Key). is_behind at d ≡ false) (λ (d : Key). key_order d k ≡ Less) done (λ d low. low_below at d k low next.0) walk.low);
      low = all_more (λ (d : Key). is_lt (key_order k d) ≡ false) done k (all_map (λ (d : Key). is_behind at d ≡ false) (λ (d : Key). is_lt (key_order k d) ≡ false) done (λ d low. past d low) walk.low) (not_itself k);
      covered = covered;
    }
      where
        past : (d : Key) → is_behind at d ≡ false → is_lt (key_order k d) ≡ false
        past d low = by (is_lt (key_order k d)) refl
          where
            by : (b : Bool) → is_lt (key_order k d) ≡ b → b ≡ false
            by true e = absurd (let so = behind_further at k d next.0 e in cc)
            by false e = refl

        covered : (q : Key) → is_lt (key_order k q) ≡ false → has key_order (done ++ k ∷ []) q ≡ false → (value_at key_order rows q ≡ None) × (value_at key_order a.desired q ≡ None)
        covered q low none =
            let parts = or_parts (has key_order done q) (has key_order (k ∷ []) q) (sym (has-append key_total key_exact done (k ∷ []) q) ∙ none) in
            let apart = (or_parts (is_at (key_order q) k) false parts.1).0 in
            by (is_behind at q) refl parts.0 apart
          where
            by : (b : Bool) → is_behind at q ≡ b → has key_order done q ≡ false → is_at (key_order q) k ≡ false → (value_at key_order rows q ≡ None) × (value_at key_order a.desired q ≡ None)
            by true high none apart = let both = next.2 q high (below_other k q low apart) in (both.0, sym (each_other value a done q none) ∙ both.1)
            by false e none apart = walk.covered q e none

    -- the key stands in one of the tables as they were
    pub next_there : (k : Key) → IsNext rows (with_each_desired key_order same value a done).desired at (Some k) → (IsSome (value_at key_order rows k)) ⊎ (IsSome (value_at key_order a.desired k))
    next_there k next = elim next.1 [
      | inl there ↦ inl there
      | inr there ↦ inr (subst IsSome (each_other value a done k (has_low at done k walk.low next.0)) there)
    ]

    pub walk_end : IsNext rows (with_each_desired key_order same value a done).desired at None → (q : Key) → has key_order done q ≡ false → (value_at key_order rows q ≡ None) × (value_at key_order a.desired q ≡ None)
    walk_end next q none = by (is_behind at q) refl
      where
        by : (b : Bool) → is_behind at q ≡ b → (value_at key_order rows q ≡ None) × (value_at key_order a.desired q ≡ None)
        by true high = let both = next q high in (both.0, sym (each_other value a done q none) ∙ both.1)
        by false e = walk.covered q e none
