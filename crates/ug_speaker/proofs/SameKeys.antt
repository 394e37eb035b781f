-- Keys that are the same in each part are one key.
use Rattle.std.proofs.Common.{◌≡◌, true, refl}
use Rattle.std.specs.Prelude.{◌==◌, ◌&&◌}
use Rattle.std.proofs.lemmas.Bool.{eqb-true}
use Rattle.ug_types.specs.Ip.{IpPrefix, same_family}
use Rattle.ug_types.specs.Keys.{same_prefix, same_key}
use Rattle.ug_types.specs.declared.family.Family.{Family}
use Rattle.ug_types.specs.declared.family.Family.TheVariants.{V4, V6}
use Rattle.ug_types.specs.declared.key.Key.{Key}
use Rattle.ug_speaker.proofs.Bools.{both_so}

family_is : (f g : Family) → same_family f g ≡ true → f ≡ g
family_is V4 V4 e = refl
family_is V6 V6 e = refl
family_is V4 V6 e = absurd cc
family_is V6 V4 e = absurd cc

pub prefix-is : (a b : IpPrefix) → same_prefix a b ≡ true → a ≡ b
prefix-is a b e =
    let parts = both_so (same_family a.family b.family) ((a.bits == b.bits) && (a.len == b.len)) e in
    let numbers = both_so (a.bits == b.bits) (a.len == b.len) parts.1 in
    let family = family_is a.family b.family parts.0 in
    let bits = eqb-true a.bits b.bits numbers.0 in
    let len = eqb-true a.len b.len numbers.1 in
    λ i. record { family = family i; bits = bits i; len = len i }

pub same-is : (a b : Key) → same_key a b ≡ true → a ≡ b
same-is a b e =
    let parts = both_so (same_prefix a.prefix b.prefix) (a.id == b.id) e in
    let prefix = prefix-is a.prefix b.prefix parts.0 in
    let id = eqb-true a.id b.id parts.1 in
    λ i. record { prefix = prefix i; id = id i }
