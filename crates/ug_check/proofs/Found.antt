-- Looking a key up in the rows of both families.
use Rattle.std.proofs.Common.{◌≡◌, ℕ, ◌+◌, ◌≤◌, Bool, true, false, cond, not, ◌||◌, List, [], ◌∷◌, ◌++◌, map, Option, Some, None, refl, sym, ap, subst, ◌∙◌, arith}
use Rattle.std.specs.Prelude.{nat_lt, is_some, IfSome, OnOk, Result, Ok, Err, if◌then◌else◌}
use Rattle.std.specs.declared.cmp.Ordering.TheVariants.{Less}
use Rattle.std.specs.Ordering.{is_eq}
use Rattle.std.specs.Option.{option_map}
use Rattle.std.specs.List.{filter, AllByRecursion}
use Rattle.std.specs.List.Sorted.{IsStrictlySortedBy}
use Rattle.std.specs.Map.{lookup, keys_of}
use Rattle.std.proofs.lemmas.Map.Keys.{sorted_head, sorted_tail}
use Rattle.std.proofs.lemmas.List.Elements.{filter-append}
use Rattle.std.proofs.lemmas.Bool.Decides.{nat_tests}
use Rattle.ug_types.specs.declared.family.Family.{Family}
use Rattle.ug_types.specs.declared.family.Family.TheVariants.{V4, V6}
use Rattle.ug_types.specs.declared.key.Key.{Key}
use Rattle.ug_types.specs.Keys.{same_key}
use Rattle.ug_short_key.specs.Keys.{key_order}
use Rattle.ug_types.specs.Attributes.{Attributes}
use Rattle.ug_message.specs.Tables.{among}
use Rattle.ug_check.specs.declared.row.Announced.{Announced}
use Rattle.ug_check.specs.declared.row.Row.{Row}
use Rattle.ug_check.specs.Rows.{Rows, row_at}
use Rattle.ug_check.specs.Stored.{shown, is_stale, fresh_rows, stale_keys, rows_of, IsRowOf, IsStored, IsChanged}
use Rattle.ug_check.proofs.Keys.{tied, same_is, apart, apart_back}
use Rattle.ug_check.proofs.Kept.{ascending}

abbrev pub found : List (Key × Row) → Key → Option Row
found rows q = lookup (same_key q) rows

abbrev pub attrs_of : Row → Attributes
attrs_of row = row.shared.value.attrs

abbrev pub stale_in : ℕ → Option Row → Bool
stale_in n None = false
stale_in n (Some row) = is_stale n row

abbrev pub either : Option Row → Option Row → Option Row
either None b = b
either (Some row) b = Some row

either_none : (a : Option Row) → either a None ≡ a
either_none None = refl
either_none (Some row) = refl

passed_over : (t : Bool) (a b : Option Row) → t ≡ false → cond t a b ≡ b
passed_over true a b e = absurd cc
passed_over false a b e = refl

shown_or : (t : Bool) (row : Row) (rest : Option Row) (others : Option Attributes) → others ≡ option_map attrs_of rest → cond t (Some (attrs_of row)) others ≡ option_map attrs_of (cond t (Some row) rest)
shown_or true row rest others e = refl
shown_or false row rest others e = e

pub found_shown : (rows : List (Key × Row)) (q : Key) → row_at (map shown rows) q ≡ option_map attrs_of (found rows q)
found_shown [] q = refl
found_shown (e ∷ rows) q = shown_or (same_key q e.0) e.1 (found rows q) (row_at (map shown rows) q) (found_shown rows q)

either_or : (t : Bool) (row : Row) (a b both : Option Row) → both ≡ either a b → cond t (Some row) both ≡ either (cond t (Some row) a) b
either_or true row a b both e = refl
either_or false row a b both e = e

pub found_append : (a b : List (Key × Row)) (q : Key) → found (a ++ b) q ≡ either (found a q) (found b q)
found_append [] b q = refl
found_append (e ∷ a) b q = either_or (same_key q e.0) e.1 (found a q) (found b q) (found (a ++ b) q) (found_append a b q)

-- a key that stands before others is none of them
none_past : (k : Key) (rows : List (Key × Row)) (q : Key) → AllByRecursion (λ (y : Key). key_order k y ≡ Less) (keys_of rows) → same_key q k ≡ true → found rows q ≡ None
none_past k [] q h e = refl
none_past k (x ∷ rows) q h e =
    let other : same_key q x.0 ≡ false = ap (λ (z : Key). same_key z x.0) (same_is q k e) ∙ sym (tied k x.0) ∙ ap is_eq h.0 in
    passed_over (same_key q x.0) (Some x.1) (found rows q) other ∙ none_past k rows q h.1 e

stale_step : (n : ℕ) (row : Row) (k q : Key) (s t : Bool) (rest : List (Key × Row)) (f : Option Row) → is_stale n row ≡ s → same_key q k ≡ t → (t ≡ true → f ≡ None)
    → among (keys_of rest) q ≡ stale_in n f → among (keys_of (cond s ((k, row) ∷ rest) rest)) q ≡ stale_in n (cond t (Some row) f)
stale_step n row k q true true rest f se te none ih = ap (λ (b : Bool). b || among (keys_of rest) q) te ∙ sym se
stale_step n row k q true false rest f se te none ih = ap (λ (b : Bool). b || among (keys_of rest) q) te ∙ ih
stale_step n row k q false true rest f se te none ih = ih ∙ ap (stale_in n) (none refl) ∙ sym se
stale_step n row k q false false rest f se te none ih = ih

-- a key is stale where its row is
pub stale_found : (n : ℕ) (rows : List (Key × Row)) (q : Key) → IsStrictlySortedBy key_order (keys_of rows) → among (stale_keys n rows) q ≡ stale_in n (found rows q)
stale_found n [] q s = refl
stale_found n (e ∷ rows) q s =
    stale_step n e.1 e.0 q (is_stale n e.1) (same_key q e.0) (filter (λ (x : Key × Row). is_stale n x.1) rows) (found rows q) refl refl
    (λ t. none_past e.0 rows q (sorted_head key_order e.0 (keys_of rows) s) t) (stale_found n rows q (sorted_tail key_order e.0 (keys_of rows) s))

fresh_step : (n : ℕ) (row : Row) (k q : Key) (s t : Bool) (rest : List (Key × Row)) (f : Option Row) → is_stale n row ≡ s → same_key q k ≡ t → (t ≡ true → f ≡ None)
    → found rest q ≡ (if stale_in n f then None else f) → found (cond (not s) ((k, row) ∷ rest) rest) q ≡ (if stale_in n (cond t (Some row) f) then None else cond t (Some row) f)
fresh_step n row k q true true rest f se te none ih =
    ih ∙ ap (λ (g : Option Row). if stale_in n g then None else g) (none refl) ∙ sym (ap (λ (b : Bool). if b then None else Some row) se)
fresh_step n row k q true false rest f se te none ih = ih
fresh_step n row k q false true rest f se te none ih =
    ap (λ (b : Bool). cond b (Some row) (found rest q)) te ∙ sym (ap (λ (b : Bool). if b then None else Some row) se)
fresh_step n row k q false false rest f se te none ih = ap (λ (b : Bool). cond b (Some row) (found rest q)) te ∙ ih

-- what is fresh is what isn't stale
fresh_found : (n : ℕ) (rows : List (Key × Row)) (q : Key) → IsStrictlySortedBy key_order (keys_of rows) → found (fresh_rows n rows) q ≡ (if stale_in n (found rows q) then None else found rows q)
fresh_found n [] q s = refl
fresh_found n (e ∷ rows) q s =
    fresh_step n e.1 e.0 q (is_stale n e.1) (same_key q e.0) (fresh_rows n rows) (found rows q) refl refl
    (λ t. none_past e.0 rows q (sorted_head key_order e.0 (keys_of rows) s) t) (fresh_found n rows q (sorted_tail key_order e.0 (keys_of rows) s))

-- ---- no row of the other family

pub no_v6 : (n : ℕ) (rows : List (Key × Row)) (q : Key) → AllByRecursion (IsRowOf V6 n) rows → q.prefix.family ≡ V4 → found rows q ≡ None
no_v6 n [] q h e = refl
no_v6 n (x ∷ rows) q h e = passed_over (same_key q x.0) (Some x.1) (found rows q) (apart q x.0 e h.0.0) ∙ no_v6 n rows q h.1 e

pub no_v4 : (n : ℕ) (rows : List (Key × Row)) (q : Key) → AllByRecursion (IsRowOf V4 n) rows → q.prefix.family ≡ V6 → found rows q ≡ None
no_v4 n [] q h e = refl
no_v4 n (x ∷ rows) q h e = passed_over (same_key q x.0) (Some x.1) (found rows q) (apart_back q x.0 e h.0.0) ∙ no_v4 n rows q h.1 e

-- ---- a change of one key

first_changed : (t : Bool) (w a b : Option Row) → (t ≡ true → b ≡ None) → either (if t then w else a) b ≡ (if t then w else either a b)
first_changed true w a b none = ap (either w) (none refl) ∙ either_none w
first_changed false w a b none = refl

second_changed : (t : Bool) (w a b : Option Row) → (t ≡ true → a ≡ None) → either a (if t then w else b) ≡ (if t then w else either a b)
second_changed true w a b none = ap (λ (o : Option Row). either o w) (none refl)
second_changed false w a b none = refl

pub changed_v4 : (n : ℕ) (key : Key) (w : Option Row) (old new v6 : List (Key × Row)) → key.prefix.family ≡ V4 → AllByRecursion (IsRowOf V6 n) v6 → IsChanged key w old new → IsChanged key w (old ++ v6) (new ++ v6)
changed_v4 n key w old new v6 f all h q =
    found_append new v6 q ∙ ap (λ (o : Option Row). either o (found v6 q)) (h q)
    ∙ first_changed (same_key q key) w (found old q) (found v6 q) (λ t. no_v6 n v6 q all (ap (λ (z : Key). z.prefix.family) (same_is q key t) ∙ f))
    ∙ ap (λ (o : Option Row). if same_key q key then w else o) (sym (found_append old v6 q))

pub changed_v6 : (n : ℕ) (key : Key) (w : Option Row) (v4 old new : List (Key × Row)) → key.prefix.family ≡ V6 → AllByRecursion (IsRowOf V4 n) v4 → IsChanged key w old new → IsChanged key w (v4 ++ old) (v4 ++ new)
changed_v6 n key w v4 old new f all h q =
    found_append v4 new q ∙ ap (either (found v4 q)) (h q)
    ∙ second_changed (same_key q key) w (found v4 q) (found old q) (λ t. no_v4 n v4 q all (ap (λ (z : Key). z.prefix.family) (same_is q key t) ∙ f))
    ∙ ap (λ (o : Option Row). if same_key q key then w else o) (sym (found_append v4 old q))

mapped : (t : Bool) (w a : Option Row) → option_map attrs_of (if t then w else a) ≡ (if t then option_map attrs_of w else option_map attrs_of a)
mapped true w a = refl
mapped false w a = refl

pub row_changed : (key : Key) (w : Option Row) (old new : List (Key × Row)) → IsChanged key w old new
    → (q : Key) → row_at (map shown new) q ≡ (if same_key q key then option_map attrs_of w else row_at (map shown old) q)
row_changed key w old new h q =
    found_shown new q ∙ ap (option_map attrs_of) (h q) ∙ mapped (same_key q key) w (found old q)
    ∙ ap (λ (o : Option Attributes). if same_key q key then option_map attrs_of w else o) (sym (found_shown old q))

stale_mapped : (n : ℕ) (t : Bool) (w a : Option Row) → stale_in n w ≡ false → stale_in n (if t then w else a) ≡ (if t then false else stale_in n a)
stale_mapped n true w a e = e
stale_mapped n false w a e = refl

all_false : (t : Bool) → false ≡ (if t then false else false)
all_false true = refl
all_false false = refl

pub stale_changed : (n : ℕ) (key : Key) (w : Option Row) (old new : List (Key × Row)) (refreshing : Bool) → stale_in n w ≡ false
    → IsStrictlySortedBy key_order (keys_of old) → IsStrictlySortedBy key_order (keys_of new) → IsChanged key w old new
    → (q : Key) → among (if refreshing then stale_keys n new else []) q ≡ (if same_key q key then false else among (if refreshing then stale_keys n old else []) q)
stale_changed n key w old new false e so sn h q = all_false (same_key q key)
stale_changed n key w old new true e so sn h q =
    stale_found n new q sn ∙ ap (stale_in n) (h q) ∙ stale_mapped n (same_key q key) w (found old q) e
    ∙ ap (λ (b : Bool). if same_key q key then false else b) (sym (stale_found n old q so))

-- ---- a refresh

seen_or : (t : Bool) (n : ℕ) (row : Row) (rest : Option Row) → row.shared.value.seen ≤ n → IfSome rest (λ r. r.shared.value.seen ≤ n) → IfSome (cond t (Some row) rest) (λ r. r.shared.value.seen ≤ n)
seen_or true n row rest h ih = h
seen_or false n row rest h ih = ih

found_seen : (f : Family) (n : ℕ) (rows : List (Key × Row)) (q : Key) → AllByRecursion (IsRowOf f n) rows → IfSome (found rows q) (λ r. r.shared.value.seen ≤ n)
found_seen f n [] q h = tt
found_seen f n (x ∷ rows) q h = seen_or (same_key q x.0) n x.1 (found rows q) h.0.1 (found_seen f n rows q h.1)

either_seen : (n : ℕ) (a b : Option Row) → IfSome a (λ r. r.shared.value.seen ≤ n) → IfSome b (λ r. r.shared.value.seen ≤ n) → IfSome (either a b) (λ r. r.shared.value.seen ≤ n)
either_seen n None b g h = h
either_seen n (Some row) b g h = g

below_more : (a n : ℕ) → a ≤ n → nat_lt a (n + 1) ≡ true
below_more a n h = grind (arith, nat_tests)

all_stale : (n : ℕ) (o : Option Row) → IfSome o (λ r. r.shared.value.seen ≤ n) → stale_in (n + 1) o ≡ is_some (option_map attrs_of o)
all_stale n None h = refl
all_stale n (Some row) h = below_more row.shared.value.seen n h

pub begun_stale : (n : ℕ) (v4 v6 : List (Key × Row)) → AllByRecursion (IsRowOf V4 n) v4 → AllByRecursion (IsRowOf V6 n) v6 → IsStrictlySortedBy key_order (keys_of (v4 ++ v6))
    → (q : Key) → among (stale_keys (n + 1) (v4 ++ v6)) q ≡ is_some (row_at (map shown (v4 ++ v6)) q)
begun_stale n v4 v6 a b s q =
    let seen : IfSome (found (v4 ++ v6) q) (λ r. r.shared.value.seen ≤ n) =
    subst (λ (o : Option Row). IfSome o (λ r. r.shared.value.seen ≤ n)) (sym (found_append v4 v6 q)) (either_seen n (found v4 q) (found v6 q) (found_seen V4 n v4 q a) (found_seen V6 n v6 q b)) in
    stale_found (n + 1) (v4 ++ v6) q s ∙ all_stale n (found (v4 ++ v6) q) seen ∙ sym (ap is_some (found_shown (v4 ++ v6) q))

pub swept_rows : (n : ℕ) (v4 v6 : List (Key × Row)) → IsStrictlySortedBy key_order (keys_of (v4 ++ v6))
    → (q : Key) → row_at (map shown (fresh_rows n v4 ++ fresh_rows n v6)) q ≡ (if among (stale_keys n (v4 ++ v6)) q then None else row_at (map shown (v4 ++ v6)) q)
swept_rows n v4 v6 s q =
    let rows : List (Key × Row) = v4 ++ v6 in
    ap (λ (l : List (Key × Row)). row_at (map shown l) q) (sym (filter-append (λ (e : Key × Row). not (is_stale n e.1)) v4 v6))
    ∙ found_shown (fresh_rows n rows) q ∙ ap (option_map attrs_of) (fresh_found n rows q s) ∙ mapped (stale_in n (found rows q)) None (found rows q)
    ∙ ap (λ (b : Bool). if b then None else option_map attrs_of (found rows q)) (sym (stale_found n rows q s))
    ∙ ap (λ (o : Option Attributes). if among (stale_keys n rows) q then None else o) (sym (found_shown rows q))

-- the same of a table that is seen as its rows
pub swept_view : (n : ℕ) (v4 v6 new4 new6 : List (Key × Row)) (refreshing : Bool) (t : Rows) → refreshing ≡ true → rows_of v4 v6 n refreshing ≡ t → new4 ≡ fresh_rows n v4 → new6 ≡ fresh_rows n v6
    → IsStrictlySortedBy key_order (keys_of (v4 ++ v6)) → (q : Key) → row_at (map shown (new4 ++ new6)) q ≡ (if among t.stale q then None else row_at t.rows q)
swept_view n v4 v6 new4 new6 refreshing t on is e4 e6 s q = rw (e4, e6, ← is, on) (swept_rows n v4 v6 s q)

pub v4_row : (n : ℕ) (key : Key) (w : Option Row) (old new v6 : List (Key × Row)) (refreshing : Bool) (t : Rows) → key.prefix.family ≡ V4 → rows_of old v6 n refreshing ≡ t → IsStored old v6 n → IsChanged key w old new
    → (q : Key) → row_at (map shown (new ++ v6)) q ≡ (if same_key q key then option_map attrs_of w else row_at t.rows q)
v4_row n key w old new v6 refreshing t f is h change q =
    subst (λ (r : Rows). row_at (map shown (new ++ v6)) q ≡ (if same_key q key then option_map attrs_of w else row_at r.rows q)) is
    (row_changed key w (old ++ v6) (new ++ v6) (changed_v4 n key w old new v6 f h.all_v6 change) q)

pub v6_row : (n : ℕ) (key : Key) (w : Option Row) (v4 old new : List (Key × Row)) (refreshing : Bool) (t : Rows) → key.prefix.family ≡ V6 → rows_of v4 old n refreshing ≡ t → IsStored v4 old n → IsChanged key w old new
    → (q : Key) → row_at (map shown (v4 ++ new)) q ≡ (if same_key q key then option_map attrs_of w else row_at t.rows q)
v6_row n key w v4 old new refreshing t f is h change q =
    subst (λ (r : Rows). row_at (map shown (v4 ++ new)) q ≡ (if same_key q key then option_map attrs_of w else row_at r.rows q)) is
    (row_changed key w (v4 ++ old) (v4 ++ new) (changed_v6 n key w v4 old new f h.all_v4 change) q)

pub v4_stale : (n : ℕ) (key : Key) (w : Option Row) (old new v6 : List (Key × Row)) (refreshing : Bool) (t : Rows) → key.prefix.family ≡ V4 → stale_in n w ≡ false → rows_of old v6 n refreshing ≡ t
    → IsStored old v6 n → IsStored new v6 n → IsChanged key w old new
    → (q : Key) → among (if refreshing then stale_keys n (new ++ v6) else []) q ≡ (if same_key q key then false else among t.stale q)
v4_stale n key w old new v6 refreshing t f fresh is h g change q =
    subst (λ (r : Rows). among (if refreshing then stale_keys n (new ++ v6) else []) q ≡ (if same_key q key then false else among r.stale q)) is
    (stale_changed n key w (old ++ v6) (new ++ v6) refreshing fresh (ascending n old v6 h) (ascending n new v6 g) (changed_v4 n key w old new v6 f h.all_v6 change) q)

pub v6_stale : (n : ℕ) (key : Key) (w : Option Row) (v4 old new : List (Key × Row)) (refreshing : Bool) (t : Rows) → key.prefix.family ≡ V6 → stale_in n w ≡ false → rows_of v4 old n refreshing ≡ t
    → IsStored v4 old n → IsStored v4 new n → IsChanged key w old new
    → (q : Key) → among (if refreshing then stale_keys n (v4 ++ new) else []) q ≡ (if same_key q key then false else among t.stale q)
v6_stale n key w v4 old new refreshing t f fresh is h g change q =
    subst (λ (r : Rows). among (if refreshing then stale_keys n (v4 ++ new) else []) q ≡ (if same_key q key then false else among r.stale q)) is
    (stale_changed n key w (v4 ++ old) (v4 ++ new) refreshing fresh (ascending n v4 old h) (ascending n v4 new g) (changed_v6 n key w v4 old new f h.all_v4 change) q)

not_below : (n : ℕ) → nat_lt n n ≡ false
not_below n = grind (arith, nat_tests)

-- a row that was announced after all refreshes that there were isn't stale
pub just_seen : (n : ℕ) (row : Row) → row.shared.value.seen ≡ n → stale_in n (Some row) ≡ false
just_seen n row e = ap (λ (k : ℕ). nat_lt k n) e ∙ not_below n

-- what was announced in a table just now
pub announced_now : (n : ℕ) (v4 v6 : List (Key × Row)) (refreshing : Bool) (t : Rows) (shared given : Announced) → rows_of v4 v6 n refreshing ≡ t → shared ≡ given → given.seen ≡ t.refreshes → shared.seen ≡ n
announced_now n v4 v6 refreshing t shared given is same e = ap (λ (a : Announced). a.seen) same ∙ e ∙ sym (ap (λ (r : Rows). r.refreshes) is)

pub on_ok : {T E : Type 0} {P Q : Type 0} (r : Result T E) → (P → Q) → OnOk r P → OnOk r Q
on_ok (Ok x) f p = f p
on_ok (Err e) f p = p
