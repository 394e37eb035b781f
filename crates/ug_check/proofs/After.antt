-- The first row above a key.
use Rattle.std.proofs.Common.{◌≡◌, ℕ, Bool, false, List, ◌++◌, Option, Some, None, Ordering, nat_cmp, refl, sym, ap, subst, ◌∙◌}
use Rattle.std.specs.Prelude.{IsSome, IfSome, IfNone}
use Rattle.std.specs.declared.cmp.Ordering.TheVariants.{Less, Equal, Greater}
use Rattle.std.specs.Ordering.{is_gt, ordering_then}
use Rattle.std.specs.Option.{option_map}
use Rattle.std.specs.Map.{lookup}
use Rattle.std.specs.BTreeMap.{is_at}
use Rattle.std.specs.BTreeMap.Range.{IsLeBy}
use Rattle.ug_types.specs.declared.family.Family.{Family}
use Rattle.ug_types.specs.declared.family.Family.TheVariants.{V4, V6}
use Rattle.ug_types.specs.declared.key.Key.{Key}
use Rattle.ug_types.specs.Keys.{family_rank}
use Rattle.ug_short_key.specs.Keys.{key_order, order_is}
use Rattle.ug_types.specs.Attributes.{Attributes}
use Rattle.ug_check.specs.declared.row.Row.{Row}
use Rattle.ug_check.specs.Rows.{Rows, row_at, IsAfter}
use Rattle.ug_check.specs.Stored.{rows_of, AreRowsOf, IsStored, IsFirstAfter}
use Rattle.ug_check.proofs.Keys.{tied, lookup_is, before}
use Rattle.ug_check.proofs.Found.{found, attrs_of, either, found_append, found_shown, no_v4, no_v6}

at : (q : Key) (rows : List (Key × Row)) → lookup (is_at (key_order q)) rows ≡ found rows q
at q rows = lookup_is key_order tied q rows

pub first_by : {A : Type 0} (rows : List (Key × Row)) (from : Option Key) (key : A → Key) (row : A → Row) (r : Option A)
    → IfSome r (λ a. lookup (is_at (key_order (key a))) rows ≡ Some (row a)) → IfSome r (λ a. IsAfter key_order from (key a))
    → IfSome r (λ a. (q : Key) → IsAfter key_order from q → IsSome (lookup (is_at (key_order q)) rows) → IsLeBy key_order (key a) q)
    → IfNone r ((q : Key) → IsAfter key_order from q → lookup (is_at (key_order q)) rows ≡ None)
    → IsFirstAfter rows from (option_map (λ a. (key a, row a)) r)
first_by rows from key row None there above least none = λ q h. sym (at q rows) ∙ none q h
first_by rows from key row (Some a) there above least none = (
  sym (at (key a) rows) ∙ there,
  above,
  λ q h is.
      least q h (subst (λ (o : Option Row). IsSome o) (sym (at q rows)) is),
)

-- a table's row, as all see it
pub seen_row : {A : Type 0} (n : ℕ) (v4 v6 : List (Key × Row)) (refreshing : Bool) (t : Rows) (from : Option Key) (key : A → Key) (row : A → Row) (r : Option A) → rows_of v4 v6 n refreshing ≡ t
    → IsFirstAfter (v4 ++ v6) from (option_map (λ a. (key a, row a)) r) → IfSome r (λ a. row_at t.rows (key a) ≡ Some (attrs_of (row a)))
seen_row n v4 v6 refreshing t from key row None is h = tt
seen_row n v4 v6 refreshing t from key row (Some a) is h =
    subst (λ (s : Rows). row_at s.rows (key a) ≡ Some (attrs_of (row a))) is (found_shown (v4 ++ v6) (key a) ∙ ap (option_map attrs_of) h.0)

pub seen_above : {A : Type 0} (rows : List (Key × Row)) (from : Option Key) (key : A → Key) (row : A → Row) (r : Option A)
    → IsFirstAfter rows from (option_map (λ a. (key a, row a)) r) → IfSome r (λ a. IsAfter key_order from (key a))
seen_above rows from key row None h = tt
seen_above rows from key row (Some a) h = h.1

some_found : (o : Option Row) → IsSome (option_map attrs_of o) → IsSome o
some_found None h = h
some_found (Some row) h = refl

pub seen_least : {A : Type 0} (n : ℕ) (v4 v6 : List (Key × Row)) (refreshing : Bool) (t : Rows) (from : Option Key) (key : A → Key) (row : A → Row) (r : Option A) → rows_of v4 v6 n refreshing ≡ t
    → IsFirstAfter (v4 ++ v6) from (option_map (λ a. (key a, row a)) r) → IfSome r (λ a. (q : Key) → IsAfter key_order from q → IsSome (row_at t.rows q) → IsLeBy key_order (key a) q)
seen_least n v4 v6 refreshing t from key row None is h = tt
seen_least n v4 v6 refreshing t from key row (Some a) is h = λ q g there.
    let shows : IsSome (option_map attrs_of (found (v4 ++ v6) q)) =
    subst (λ (o : Option Attributes). IsSome o) (found_shown (v4 ++ v6) q) (subst (λ (s : Rows). IsSome (row_at s.rows q)) (sym is) there) in
    h.2 q g (some_found (found (v4 ++ v6) q) shows)

pub seen_none : {A : Type 0} (n : ℕ) (v4 v6 : List (Key × Row)) (refreshing : Bool) (t : Rows) (from : Option Key) (key : A → Key) (row : A → Row) (r : Option A) → rows_of v4 v6 n refreshing ≡ t
    → IsFirstAfter (v4 ++ v6) from (option_map (λ a. (key a, row a)) r) → IfNone r ((q : Key) → IsAfter key_order from q → row_at t.rows q ≡ None)
seen_none n v4 v6 refreshing t from key row None is h = λ q g.
    subst (λ (s : Rows). row_at s.rows q ≡ None) is (found_shown (v4 ++ v6) q ∙ ap (option_map attrs_of) (h q g))
seen_none n v4 v6 refreshing t from key row (Some a) is h = tt

-- ---- both families

family_cases : (P : Type 0) (f : Family) → (f ≡ V4 → P) → (f ≡ V6 → P) → P
family_cases P V4 a b = a refl
family_cases P V6 a b = b refl

is_none_or : (o : Option Row) → o ≡ None → IsSome o → ⊥
is_none_or None e h = cc
is_none_or (Some row) e h = cc

-- a key of a row of a family is of it
of_v4 : (n : ℕ) (v4 : List (Key × Row)) (q : Key) → AreRowsOf V4 n v4 → IsSome (found v4 q) → q.prefix.family ≡ V4
of_v4 n v4 q all h = family_cases (q.prefix.family ≡ V4) q.prefix.family (λ e. e) (λ e. absurd (is_none_or (found v4 q) (no_v4 n v4 q all e) h))

of_v6 : (n : ℕ) (v6 : List (Key × Row)) (q : Key) → AreRowsOf V6 n v6 → IsSome (found v6 q) → q.prefix.family ≡ V6
of_v6 n v6 q all h = family_cases (q.prefix.family ≡ V6) q.prefix.family (λ e. absurd (is_none_or (found v6 q) (no_v6 n v6 q all e) h)) (λ e. e)

some_is : (o : Option Row) (row : Row) → o ≡ Some row → IsSome o
some_is None row e = cc
some_is (Some x) row e = refl

either_cases : (P : Type 0) (a b : Option Row) → IsSome (either a b) → (IsSome a → P) → (IsSome b → P) → P
either_cases P None b h f g = g h
either_cases P (Some row) b h f g = f refl

turned_less : (o : Ordering) → o ≡ Less → is_gt o ≡ false
turned_less Less e = refl
turned_less Equal e = refl
turned_less Greater e = absurd cc

pub first_v4 : (n : ℕ) (v4 v6 : List (Key × Row)) (from : Option Key) (row : Key × Row) → IsStored v4 v6 n → IsFirstAfter v4 from (Some row) → IsFirstAfter (v4 ++ v6) from (Some row)
first_v4 n v4 v6 from row s h =
    let there : found (v4 ++ v6) row.0 ≡ Some row.1 = found_append v4 v6 row.0 ∙ ap (λ (o : Option Row). either o (found v6 row.0)) h.0 in
    let mine : row.0.prefix.family ≡ V4 = of_v4 n v4 row.0 s.all_v4 (some_is (found v4 row.0) row.1 h.0) in (
      there,
      h.1,
      λ q g is. either_cases (IsLeBy key_order row.0 q) (found v4 q) (found v6 q) (subst (λ (o : Option Row). IsSome o) (found_append v4 v6 q) is)
          (λ a. h.2 q g a) (λ b. turned_less (key_order row.0 q) (before row.0 q mine (of_v6 n v6 q s.all_v6 b))),
    )

none_v4 : (v4 v6 : List (Key × Row)) (q : Key) → found v4 q ≡ None → found (v4 ++ v6) q ≡ found v6 q
none_v4 v4 v6 q e = found_append v4 v6 q ∙ ap (λ (o : Option Row). either o (found v6 q)) e

pub first_v6 : (n : ℕ) (v4 v6 : List (Key × Row)) (from : Option Key) (r : Option (Key × Row)) → IsStored v4 v6 n → IsFirstAfter v4 from None → IsFirstAfter v6 from r → IsFirstAfter (v4 ++ v6) from r
first_v6 n v4 v6 from None s none h = λ q g. none_v4 v4 v6 q (none q g) ∙ h q g
first_v6 n v4 v6 from (Some row) s none h =
    (none_v4 v4 v6 row.0 (none row.0 h.1) ∙ h.0, h.1, λ q g is. h.2 q g (subst (λ (o : Option Row). IsSome o) (none_v4 v4 v6 q (none q g)) is))

-- every IPv6 row stands behind an IPv4 key
pub all_behind : (n : ℕ) (v6 : List (Key × Row)) (key : Key) (r : Option (Key × Row)) → AreRowsOf V6 n v6 → key.prefix.family ≡ V4 → IsFirstAfter v6 None r → IsFirstAfter v6 (Some key) r
all_behind n v6 key None all four h = λ q g. h q tt
all_behind n v6 key (Some row) all four h = (h.0, before key row.0 four (of_v6 n v6 row.0 all (some_is (found v6 row.0) row.1 h.0)), λ q g is. h.2 q tt is)

-- an IPv6 key stands above every IPv4 row
families_behind : (f g : Family) (x y : Ordering) → f ≡ V6 → g ≡ V4 → ordering_then (ordering_then (nat_cmp (family_rank f) (family_rank g)) x) y ≡ Less → ⊥
families_behind V6 V4 x y e h l = absurd cc
families_behind V6 V6 x y e h l = absurd cc
families_behind V4 g x y e h l = absurd cc

pub none_behind : (n : ℕ) (v4 : List (Key × Row)) (key : Key) → AreRowsOf V4 n v4 → key.prefix.family ≡ V6 → IsFirstAfter v4 (Some key) None
none_behind n v4 key all six = λ q g. family_cases (found v4 q ≡ None) q.prefix.family
    (λ e. absurd (families_behind key.prefix.family q.prefix.family (ordering_then (nat_cmp key.prefix.bits q.prefix.bits) (nat_cmp key.prefix.len q.prefix.len)) (nat_cmp key.id q.id) six e (sym (order_is key q) ∙ g)))
    (λ e. no_v4 n v4 q all e)
