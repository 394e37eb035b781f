-- How routes and path attributes are spelled in a message (RFC 4271 section 4.3, RFC 7911 section 3).
use Rattle.std.specs.Prelude.{ℕ, ◌+◌, Bool, List, [], ◌∷◌, ◌++◌, length, take, if◌then◌else◌}
use Rattle.std.specs.List.{flat_map}
use Rattle.std.specs.Int.{w32, w128, to_be_bytes}
use Rattle.ug_types.specs.declared.key.Key.{Key}
use Rattle.ug_types.specs.Ip.{bytes_for}
use Rattle.ug_types.specs.Attributes.{Attributes}
pub use Rattle.ug_message.specs.Attribute.{well_known, optional, optional_transitive}
unfoldable pub use Rattle.ug_message.specs.Attribute.{attribute}
pub use Rattle.ug_message.specs.Values.{numbers, four_bytes, sixteen_bytes, ipv6_unicast, where_present, where_some}
pub use Rattle.ug_message.specs.AttributeTable.{segment, segments, origin, as_path, next_hop, multi_exit_disc, local_pref, atomic_aggregate, aggregator, communities, originator_id, cluster_list, before_next_hop, after_next_hop}
unfoldable pub use Rattle.ug_message.specs.AttributeTable.{mp_reach_nlri, mp_unreach_nlri}

-- A route: under ADD-PATH its identifier in four bytes; the prefix's length in bits; and the fewest bytes that
-- hold the prefix. The bits past the length are zero.
unfoldable pub route : Bool → Key → List ℕ
route add_path key =
    (if add_path then to_be_bytes w32 key.id else []) ++ key.prefix.len ∷ take (bytes_for key.prefix.len) (to_be_bytes w128 key.prefix.bits)

abbrev pub routes : Bool → List Key → List ℕ
routes add_path keys = flat_map (route add_path) keys

-- the attributes one by one, by ascending type
unfoldable pub attributes : Attributes → List ℕ
attributes a = before_next_hop a ++ next_hop a ++ after_next_hop a

-- those of routes that stand in MP_REACH_NLRI with their next hop (RFC 4760 section 3): all but NEXT_HOP
unfoldable pub attributes_but_next_hop : Attributes → List ℕ
attributes_but_next_hop a = before_next_hop a ++ after_next_hop a

-- where the value of NEXT_HOP stands in it
unfoldable pub next_hop_place : Attributes → ℕ
next_hop_place a = length (before_next_hop a) + 3
