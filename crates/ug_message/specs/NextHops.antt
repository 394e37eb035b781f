-- The next hop that a peer is told (RFC 4271 section 5.1.3).
use Rattle.std.specs.Prelude.{◌==◌, Bool, ◌&&◌, not, if◌then◌else◌}
use Rattle.ug_types.specs.Ip.{IpAddress, IpPrefix, width_of, same_family, covers}
use Rattle.ug_types.specs.Attributes.{Attributes}
use Rattle.ug_types.specs.declared.route.NhKind.{NhKind}
use Rattle.ug_types.specs.declared.route.NhKind.TheVariants as kinds
use Rattle.ug_types.specs.declared.route.OutAttrs.{OutAttrs}
use Rattle.ug_types.specs.declared.route.PeerEnds.{PeerEnds}

-- the prefix that is one address
abbrev pub address_alone : IpAddress → IpPrefix
address_alone a = record { family = a.family; bits = a.bits; len = width_of a.family }

abbrev pub same_address : IpAddress → IpAddress → Bool
same_address a b = same_family a.family b.family && (a.bits == b.bits)

-- The raw one, where it is kept or a policy fixed it; the speaker's own address, where it is that; else the raw one where
-- it lies in the subnet of the link and isn't the peer's own address, and the speaker's own otherwise. That the last
-- rule is asked of every route is this project's profile.
abbrev pub next_hop : NhKind → IpAddress → PeerEnds → IpAddress
next_hop kinds.Fixed raw ends = raw
next_hop kinds.Keep raw ends = raw
next_hop kinds.Own raw ends = ends.local
next_hop kinds.Auto raw ends = if covers ends.subnet (address_alone raw) && not (same_address raw ends.address) then raw else ends.local

-- what goes out, with the next hop that the peer at these ends is told
abbrev pub told_to : PeerEnds → OutAttrs → Attributes
told_to ends o = record o.attrs { next_hop = next_hop o.nh_kind o.attrs.next_hop ends }
