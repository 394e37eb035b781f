-- Which keys and attributes a session's messages can spell, so that they are read as they are.
use Rattle.std.specs.Prelude.{ℕ, ◌^◌, ◌==◌, nat_lt, nat_le, Bool, true, ◌&&◌, ◌||◌, List, Option, Some, None}
use Rattle.std.specs.List.{list_all}
use Rattle.ug_types.specs.declared.family.Family.{Family}
use Rattle.ug_types.specs.declared.family.Family.TheVariants.{V4}
use Rattle.ug_types.specs.declared.capabilities.Capabilities.{Capabilities}
use Rattle.ug_types.specs.declared.key.Key.{Key}
use Rattle.ug_types.specs.declared.attrs.Aggregator.{Aggregator}
use Rattle.ug_types.specs.Ip.{IpPrefix, IpAddress, width_of, same_family, cleared}
use Rattle.ug_types.specs.Attributes.{PathSegment, Attributes, is_well_formed}

-- a number of 32 bits
abbrev pub is_number : ℕ → Bool
is_number n = nat_lt n (2 ^ 32)

-- a prefix of that family: at most its width, and no bit set past its length
abbrev pub is_prefix : Family → IpPrefix → Bool
is_prefix family p = same_family p.family family && nat_le p.len (width_of family) && (cleared p.len p.bits == p.bits) && nat_lt p.bits (2 ^ 128)

-- a prefix of that family, with an identifier, which is 0 without ADD-PATH
unfoldable pub is_route : Family → Bool → Key → Bool
is_route family add_path key = is_prefix family key.prefix && is_number key.id && (add_path || (key.id == 0))

-- a key of the session's family, with an identifier where it has ADD-PATH
abbrev pub is_key : Capabilities → Key → Bool
is_key c key = is_route c.family c.add_path key

-- an address of that family, with no bit set past its width
abbrev pub is_address : Family → IpAddress → Bool
is_address family a = same_family a.family family && (cleared (width_of family) a.bits == a.bits) && nat_lt a.bits (2 ^ 128)

abbrev pub is_aggregator : Aggregator → Bool
is_aggregator g = is_number g.asn && is_address V4 g.addr

abbrev pub has_numbers : PathSegment → Bool
has_numbers s = list_all is_number s.numbers

abbrev pub where_there : {T : Type 0} → (T → Bool) → Option T → Bool
where_there test None = true
where_there test (Some x) = test x

-- Segments of 1 to 255 numbers and an origin that has a meaning, numbers of 32 bits, and addresses of IPv4 but for
-- the next hop, which is of the routes' family.
unfoldable pub can_be_spelled : Family → Attributes → Bool
can_be_spelled family a =
    is_well_formed a && list_all has_numbers a.path && is_address family a.next_hop && where_there is_number a.med && where_there is_number a.local_pref
    && where_there is_aggregator a.aggregator && list_all is_number a.communities && where_there (is_address V4) a.originator && list_all is_number a.clusters

abbrev pub is_ipv4 : IpAddress → Bool
is_ipv4 a = same_family a.family V4

-- the addresses of attributes but for the next hop are of IPv4
unfoldable pub has_ipv4_addresses : Attributes → Bool
has_ipv4_addresses a = where_there (λ (g : Aggregator). is_ipv4 g.addr) a.aggregator && where_there is_ipv4 a.originator

-- keys of that family
abbrev pub are_of_family : Family → List Key → Bool
are_of_family family keys = list_all (λ (key : Key). same_family key.prefix.family family) keys
