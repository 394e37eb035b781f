-- Keys that tie in their order are the same.
use Rattle.std.proofs.Common.{◌≡◌, Bool, true, ◌&&◌, Ordering, nat_cmp, refl, ap, ◌∙◌}
use Rattle.std.specs.declared.cmp.Ordering.TheVariants.{Less, Equal, Greater}
use Rattle.std.specs.Ordering.{is_eq, ordering_then}
use Rattle.std.specs.Cmp.{Equal-is, unsigned_tied}
use Rattle.ug_types.specs.declared.family.Family.{Family}
use Rattle.ug_types.specs.declared.family.Family.TheVariants.{V4, V6}
use Rattle.ug_types.specs.declared.key.Key.{Key}
use Rattle.ug_types.specs.Ip.{same_family}
use Rattle.ug_types.specs.Keys.{same_key, prefix_cmp, family_rank}
use Rattle.ug_types.specs.Orders.{key_cmp}
use Rattle.ug_types.specs.OrderLaws.{key_cmp-IsAntisymmetric}

abbrev pub Same : (Key → Key → Ordering) → Type 0
Same cmp = (a : Key) → (b : Key) → is_eq (cmp a b) ≡ same_key a b

is_eq-then : (a b : Ordering) → is_eq (ordering_then a b) ≡ (is_eq a && is_eq b)
is_eq-then Less b = refl
is_eq-then Equal b = refl
is_eq-then Greater b = refl

family_tied : (a b : Family) → is_eq (nat_cmp (family_rank a) (family_rank b)) ≡ same_family a b
family_tied V4 V4 = refl
family_tied V4 V6 = refl
family_tied V6 V4 = refl
family_tied V6 V6 = refl

both : {a b c d : Bool} → a ≡ b → c ≡ d → (a && c) ≡ (b && d)
both {a} {b} {c} {d} e f = ap (λ (x : Bool). x && c) e ∙ ap (λ (x : Bool). b && x) f

pub tied : Same key_cmp
tied a b =
    is_eq-then (prefix_cmp a.prefix b.prefix) (nat_cmp a.id b.id)
    ∙ both (is_eq-then (nat_cmp (family_rank a.prefix.family) (family_rank b.prefix.family)) (ordering_then (nat_cmp a.prefix.bits b.prefix.bits) (nat_cmp a.prefix.len b.prefix.len))
    ∙ both (family_tied a.prefix.family b.prefix.family) (is_eq-then (nat_cmp a.prefix.bits b.prefix.bits) (nat_cmp a.prefix.len b.prefix.len)
    ∙ both (unsigned_tied a.prefix.bits b.prefix.bits) (unsigned_tied a.prefix.len b.prefix.len)))
    (unsigned_tied a.id b.id)

-- an order that is the keys' own
pub tied_by : (cmp : Key → Key → Ordering) → ((a : Key) → (b : Key) → cmp a b ≡ key_cmp a b) → Same cmp
tied_by cmp same a b = ap is_eq (same a b) ∙ tied a b

pub same_is : (a b : Key) → same_key a b ≡ true → a ≡ b
same_is a b e = key_cmp-IsAntisymmetric a b ((Equal-is (key_cmp a b)).0 (tied a b ∙ e))
