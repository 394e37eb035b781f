-- Keys that tie in their order are the same, and IPv4 stands before IPv6.
use Rattle.std.proofs.Common.{◌≡◌, ℕ, ◌==◌, Bool, true, false, cond, ◌&&◌, List, [], ◌∷◌, Option, Some, Ordering, nat_cmp, refl, sym, ap, ◌∙◌, arith}
use Rattle.std.specs.Prelude.{if◌then◌else◌}
use Rattle.std.specs.declared.cmp.Ordering.TheVariants.{Less, Equal, Greater}
use Rattle.std.specs.Ordering.{is_eq, ordering_then}
use Rattle.std.specs.Cmp.{Equal-is, unsigned_tied}
use Rattle.std.specs.Map.{lookup}
use Rattle.std.specs.BTreeMap.{is_at}
use Rattle.std.proofs.lemmas.Bool.Decides.{nat_tests}
use Rattle.ug_types.specs.declared.family.Family.{Family}
use Rattle.ug_types.specs.declared.family.Family.TheVariants.{V4, V6}
use Rattle.ug_types.specs.declared.key.Key.{Key}
use Rattle.ug_types.specs.Ip.{same_family}
use Rattle.ug_types.specs.Keys.{same_key, prefix_cmp, family_rank}
use Rattle.ug_types.specs.Orders.{key_cmp}
use Rattle.ug_short_key.specs.Keys.{key_order, order_is, same_keys}

abbrev pub Same : (Key → Key → Ordering) → Type 0
Same cmp = (a : Key) → (b : Key) → is_eq (cmp a b) ≡ same_key a b

is_eq-then : (a b : Ordering) → is_eq (ordering_then a b) ≡ (is_eq a && is_eq b)
is_eq-then Less b = refl
is_eq-then Equal b = refl
is_eq-then Greater b = refl

family_tied : (a b : Family) → is_eq (nat_cmp (family_rank a) (family_rank b)) ≡ same_family a b
family_tied V4 V4 = refl
family_tied V4 V6 = refl
family_tied V6 V4 = refl
family_tied V6 V6 = refl

both : {a b c d : Bool} → a ≡ b → c ≡ d → (a && c) ≡ (b && d)
both {a} {b} {c} {d} e f = ap (λ (x : Bool). x && c) e ∙ ap (λ (x : Bool). b && x) f

tied_by_parts : Same key_cmp
tied_by_parts a b =
    is_eq-then (prefix_cmp a.prefix b.prefix) (nat_cmp a.id b.id)
    ∙ both (is_eq-then (nat_cmp (family_rank a.prefix.family) (family_rank b.prefix.family)) (ordering_then (nat_cmp a.prefix.bits b.prefix.bits) (nat_cmp a.prefix.len b.prefix.len))
    ∙ both (family_tied a.prefix.family b.prefix.family) (is_eq-then (nat_cmp a.prefix.bits b.prefix.bits) (nat_cmp a.prefix.len b.prefix.len)
    ∙ both (unsigned_tied a.prefix.bits b.prefix.bits) (unsigned_tied a.prefix.len b.prefix.len)))
    (unsigned_tied a.id b.id)

pub tied : Same key_order
tied a b = ap is_eq (order_is a b) ∙ tied_by_parts a b

pub same_is : (a b : Key) → same_key a b ≡ true → a ≡ b
same_is a b e = same_keys a b ((Equal-is (key_order a b)).0 (tied a b ∙ e))

-- ---- families

families_apart : (f g : Family) (x y : Bool) → f ≡ V4 → g ≡ V6 → ((same_family f g && x) && y) ≡ false
families_apart V4 V6 x y e h = refl
families_apart V4 V4 x y e h = absurd cc
families_apart V6 g x y e h = absurd cc

families_apart_back : (f g : Family) (x y : Bool) → f ≡ V6 → g ≡ V4 → ((same_family f g && x) && y) ≡ false
families_apart_back V6 V4 x y e h = refl
families_apart_back V6 V6 x y e h = absurd cc
families_apart_back V4 g x y e h = absurd cc

pub apart : (a b : Key) → a.prefix.family ≡ V4 → b.prefix.family ≡ V6 → same_key a b ≡ false
apart a b e h = families_apart a.prefix.family b.prefix.family ((a.prefix.bits == b.prefix.bits) && (a.prefix.len == b.prefix.len)) (a.id == b.id) e h

pub apart_back : (a b : Key) → a.prefix.family ≡ V6 → b.prefix.family ≡ V4 → same_key a b ≡ false
apart_back a b e h = families_apart_back a.prefix.family b.prefix.family ((a.prefix.bits == b.prefix.bits) && (a.prefix.len == b.prefix.len)) (a.id == b.id) e h

families_before : (f g : Family) (x y : Ordering) → f ≡ V4 → g ≡ V6 → ordering_then (ordering_then (nat_cmp (family_rank f) (family_rank g)) x) y ≡ Less
families_before V4 V6 x y e h = refl
families_before V4 V4 x y e h = absurd cc
families_before V6 g x y e h = absurd cc

pub before : (a b : Key) → a.prefix.family ≡ V4 → b.prefix.family ≡ V6 → key_order a b ≡ Less
before a b e h = order_is a b ∙ families_before a.prefix.family b.prefix.family (ordering_then (nat_cmp a.prefix.bits b.prefix.bits) (nat_cmp a.prefix.len b.prefix.len)) (nat_cmp a.id b.id) e h

-- ---- what a change of a map is, key by key

family_turned : (a b : Family) → same_family a b ≡ same_family b a
family_turned V4 V4 = refl
family_turned V4 V6 = refl
family_turned V6 V4 = refl
family_turned V6 V6 = refl

number_turned : (a b : ℕ) → (a == b) ≡ (b == a)
number_turned a b = grind (arith, nat_tests)

pub key_turned : (a b : Key) → same_key a b ≡ same_key b a
key_turned a b = both (both (family_turned a.prefix.family b.prefix.family) (both (number_turned a.prefix.bits b.prefix.bits) (number_turned a.prefix.len b.prefix.len))) (number_turned a.id b.id)

pub lookup_is : {X : Type 0} (cmp : Key → Key → Ordering) → Same cmp → (q : Key) (rows : List (Key × X)) → lookup (is_at (cmp q)) rows ≡ lookup (same_key q) rows
lookup_is cmp same q [] = refl
lookup_is {X} cmp same q (e ∷ rows) =
    ap (λ (t : Bool). cond t (Some e.1) (lookup (is_at (cmp q)) rows)) (same q e.0) ∙ ap (λ (v : Option X). cond (same_key q e.0) (Some e.1) v) (lookup_is cmp same q rows)

pub updated : {X : Type 0} (cmp : Key → Key → Ordering) → Same cmp → (old new : List (Key × X)) (key : Key) (w : Option X)
    → ((q : Key) → lookup (is_at (cmp q)) new ≡ cond (is_at (cmp key) q) w (lookup (is_at (cmp q)) old)) → (q : Key) → lookup (same_key q) new ≡ (if same_key q key then w else lookup (same_key q) old)
updated {X} cmp same old new key w is q =
    sym (lookup_is cmp same q new) ∙ is q ∙ ap (λ (b : Bool). cond b w (lookup (is_at (cmp q)) old)) (same key q ∙ key_turned key q)
    ∙ ap (λ (v : Option X). cond (same_key q key) w v) (lookup_is cmp same q old)
