-- The next hop in a message.
use Rattle.std.proofs.Common.{◌≡◌, ℕ, ◌+◌, List, take, true, ◌&&◌, nat_lt, ◌==◌, ◌^◌, Some, refl, sym, ap, ◌∙◌}
use Rattle.std.specs.List.{splice}
use Rattle.std.specs.Int.{w128, to_be_bytes}
use Rattle.ug_types.specs.declared.family.Family.{Family}
use Rattle.ug_types.specs.declared.family.Family.TheVariants.{V4, V6}
use Rattle.ug_types.specs.Ip.{IpAddress, same_family, cleared, width_of}
use Rattle.ug_message.specs.Spelling.{four_bytes, sixteen_bytes}
use Rattle.ug_message.specs.Spellable.{is_address}
use Rattle.ug_message.proofs.Formed.{both, family_is}
use Rattle.ug_message.specs.Packets.{address_size, with_address}

address_of : (f : Family) (hop : IpAddress) → is_address f hop ≡ true → hop.family ≡ f
address_of f hop e =
    let front = both (same_family hop.family f && (cleared (width_of f) hop.bits == hop.bits)) (nat_lt hop.bits (2 ^ 128)) e in
    family_is hop.family f (both (same_family hop.family f) (cleared (width_of f) hop.bits == hop.bits) front.0).0

put_by : (f : Family) (place : ℕ) (hop : IpAddress) (text : List ℕ) → is_address f hop ≡ true
    → with_address (Some place) hop text ≡ splice text place (place + address_size f) (take (address_size f) (to_be_bytes w128 hop.bits))
put_by f place hop text e = ap (λ (g : Family). splice text place (place + address_size g) (take (address_size g) (to_be_bytes w128 hop.bits))) (address_of f hop e)

pub put4 : (place : ℕ) (hop : IpAddress) (text : List ℕ) → is_address V4 hop ≡ true → with_address (Some place) hop text ≡ splice text place (place + 4) (four_bytes hop)
put4 place hop text e = put_by V4 place hop text e

pub put6 : (place : ℕ) (hop : IpAddress) (text : List ℕ) → is_address V6 hop ≡ true → with_address (Some place) hop text ≡ splice text place (place + 16) (sixteen_bytes hop)
put6 place hop text e = put_by V6 place hop text e
