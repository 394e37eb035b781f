-- Routes' keys are in order, and those that are equal in their order are the same.
use Rattle.std.proofs.Common.{◌≡◌, refl, sym, subst, ◌∙◌, nat_cmp}
use Rattle.std.specs.declared.cmp.Ordering.{Ordering}
use Rattle.std.specs.declared.cmp.Ordering.TheVariants.{Equal}
use Rattle.ug_types.specs.declared.family.Family.{Family}
use Rattle.ug_types.specs.declared.family.Family.TheVariants.{V4, V6}
use Rattle.ug_types.specs.declared.key.Key.{Key}
use Rattle.ug_types.specs.Keys.{family_rank}
use Rattle.std.specs.Cmp.{IsTotalOrder}
use Rattle.ug_types.specs.Orders.{key_cmp, key_cmp_total}
use Rattle.ug_types.specs.OrderLaws.{key_cmp-IsAntisymmetric}
use Rattle.ug_types.specs.contracts.family.FamilyOrd.TheImpl as family_ord
use Rattle.ug_types.specs.contracts.key.KeyOrd.TheImpl as key_ord

family_order : (a b : Family) → family_ord.ghosts.cmp a b ≡ nat_cmp (family_rank a) (family_rank b)
family_order V4 V4 = refl
family_order V4 V6 = refl
family_order V6 V4 = refl
family_order V6 V6 = refl

-- it is the order by prefix, and then by identifier
pub order_is : (a b : Key) → key_ord.ghosts.cmp a b ≡ key_cmp a b
order_is a b = rw (family_order a.prefix.family b.prefix.family) refl

-- the order of routes' keys
abbrev pub key_order : Key → Key → Ordering
key_order = key_ord.ghosts.cmp

pub same_keys : (a b : Key) → key_order a b ≡ Equal → a ≡ b
same_keys a b e = key_cmp-IsAntisymmetric a b (sym (order_is a b) ∙ e)

pub keys_total : IsTotalOrder key_order
keys_total = subst IsTotalOrder (λ i a b. sym (order_is a b) i) key_cmp_total
