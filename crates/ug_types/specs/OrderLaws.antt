-- Prefixes and keys that are equal in their order are the same.
use Rattle.std.proofs.Common.{◌≡◌, ℕ, nat_cmp, refl, ap, subst}
use Rattle.std.specs.declared.cmp.Ordering.{Ordering}
use Rattle.std.specs.declared.cmp.Ordering.TheVariants.{Less, Equal, Greater}
use Rattle.std.specs.Ordering.{ordering_then}
use Rattle.std.specs.FinMap.{IsAntisymmetric, nat_cmp-IsAntisymmetric}
use Rattle.ug_types.specs.declared.family.Family.{Family}
use Rattle.ug_types.specs.declared.family.Family.TheVariants.{V4, V6}
use Rattle.ug_types.specs.declared.key.Key.{Key}
use Rattle.ug_types.specs.Ip.{IpPrefix}
use Rattle.ug_types.specs.Keys.{family_rank, prefix_cmp}
use Rattle.ug_types.specs.Orders.{key_cmp}

pub then_both : (x y : Ordering) → ordering_then x y ≡ Equal → (x ≡ Equal) × (y ≡ Equal)
then_both Less y e = absurd cc
then_both Equal y e = (refl, e)
then_both Greater y e = absurd cc

-- Values are the same where they can be made again of the same.
pub same_on : {A B : Type 0} (shown : A → B) (made : B → A) → ((a : A) → made (shown a) ≡ a) → (a b : A) → shown a ≡ shown b → a ≡ b
same_on {A} shown made back a b same = subst (λ x. a ≡ x) (back b) (subst (λ x. x ≡ made (shown b)) (back a) (ap made same))

pub family_same : (a b : Family) → nat_cmp (family_rank a) (family_rank b) ≡ Equal → a ≡ b
family_same V4 V4 e = refl
family_same V4 V6 e = absurd cc
family_same V6 V4 e = absurd cc
family_same V6 V6 e = refl

pub prefix_cmp-IsAntisymmetric : IsAntisymmetric prefix_cmp
prefix_cmp-IsAntisymmetric a b e =
    let p1 = then_both _ _ e in
    let p2 = then_both _ _ p1.1 in
    let family = family_same a.family b.family p1.0 in
    let bits = nat_cmp-IsAntisymmetric a.bits b.bits p2.0 in
    let len = nat_cmp-IsAntisymmetric a.len b.len p2.1 in
    same_on {B = Family × (ℕ × ℕ)} (λ (x : IpPrefix). (x.family, (x.bits, x.len))) (λ p. record { family = p.0; bits = p.1.0; len = p.1.1 }) (λ x. refl) a b cc

pub key_cmp-IsAntisymmetric : IsAntisymmetric key_cmp
key_cmp-IsAntisymmetric a b e =
    let parts = then_both _ _ e in
    let prefix = prefix_cmp-IsAntisymmetric a.prefix b.prefix parts.0 in
    let id = nat_cmp-IsAntisymmetric a.id b.id parts.1 in
    same_on {B = IpPrefix × ℕ} (λ (x : Key). (x.prefix, x.id)) (λ p. record { prefix = p.0; id = p.1 }) (λ x. refl) a b cc
