-- What stands before an attribute's value.
use Rattle.std.specs.Prelude.{ℕ, ◌+◌, nat_lt, List, [], ◌∷◌, ◌++◌, length, if◌then◌else◌}
use Rattle.std.specs.Int.{w16, to_be_bytes}
use Rattle.ug_types.specs.Ip.{IpAddress}
use Rattle.ug_message.specs.Kind.{Kind}
use Rattle.ug_message.specs.Attribute.{extended}
use Rattle.ug_message.specs.Values.{ipv6_unicast, sixteen_bytes}
use Rattle.ug_message.specs.AttributeTable.{mp_reach_nlri_kind, mp_unreach_nlri_kind}

-- the flags, the type, and how many bytes the value has: in two bytes, which the flags then say, where there are over 255
unfoldable pub head : ℕ → ℕ → ℕ → List ℕ
head flags type len = if nat_lt 255 len then (flags + extended) ∷ type ∷ to_be_bytes w16 len else flags ∷ type ∷ len ∷ []

abbrev pub head_of : Kind → ℕ → List ℕ
head_of kind len = head kind.flags kind.type len

-- how long an attribute is whose value has so many bytes
abbrev pub size_around : ℕ → ℕ
size_around len = if nat_lt 255 len then len + 4 else len + 3

-- MP_REACH_NLRI up to its routes, which have so many bytes
unfoldable pub reach_head : IpAddress → ℕ → List ℕ
reach_head next_hop routes = head_of mp_reach_nlri_kind (21 + routes) ++ ipv6_unicast ++ 16 ∷ [] ++ sixteen_bytes next_hop ++ 0 ∷ []

-- MP_UNREACH_NLRI up to its routes
unfoldable pub unreach_head : ℕ → List ℕ
unreach_head routes = head_of mp_unreach_nlri_kind (3 + routes) ++ ipv6_unicast

-- where the next hop stands in MP_REACH_NLRI
abbrev pub reach_place : ℕ → ℕ
reach_place routes = length (head_of mp_reach_nlri_kind (21 + routes)) + 4
