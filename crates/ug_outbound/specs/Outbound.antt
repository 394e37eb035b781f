-- What goes out of a path: a prefix of another family than the key's does not; then ten rules in their order, and then
-- the kind of next hop. The order of the rules is this project's profile.
use Rattle.std.specs.Prelude.{ℕ, ◌/◌, ◌^◌, Bool, true, false, ◌&&◌, ◌||◌, not, List, [], ◌∷◌, Option, Some, None, unwrap_or, if◌then◌else◌}
use Rattle.std.specs.Option.{option_map}
use Rattle.ug_types.specs.declared.family.Family.{Family}
use Rattle.ug_types.specs.declared.family.Family.TheVariants.{V4, V6}
use Rattle.ug_types.specs.Ip.{IpAddress, IpPrefix, same_family}
use Rattle.ug_types.specs.Attributes.{PathSegment, Attributes}
use Rattle.ug_types.specs.declared.route.Learned.{Learned}
use Rattle.ug_types.specs.declared.route.Learned.TheVariants as learned
use Rattle.ug_types.specs.declared.route.Path.{Path}
use Rattle.ug_types.specs.declared.route.NhKind.{NhKind}
use Rattle.ug_types.specs.declared.route.NhKind.TheVariants as kinds
use Rattle.ug_types.specs.declared.route.OutAttrs.{OutAttrs}
use Rattle.ug_policy.specs.Paths.{without_private, overridden, prepended}
use Rattle.ug_policy.specs.Named.{NamedList, value_named, is_permitted}
use Rattle.ug_policy.specs.Filters.{filter_permits}
use Rattle.ug_policy.specs.declared.mapped.Mapped.{Mapped}
use Rattle.ug_policy.specs.Rules.{MapRule}
use Rattle.ug_policy.specs.Maps.{holds, unmapped, map_result}
use Rattle.ug_outbound.specs.declared.settings.Local.{Local}
use Rattle.ug_outbound.specs.declared.kind.Kind.{Kind}
use Rattle.ug_outbound.specs.declared.kind.Kind.TheVariants.{External, Internal, Client}
use Rattle.ug_outbound.specs.declared.key.GroupKey.{GroupKey}
use Rattle.ug_outbound.specs.Tables.{Tables}

-- 1. The well-known communities (RFC 1997): NO_ADVERTISE keeps a path from every peer, NO_EXPORT and
-- NO_EXPORT_SUBCONFED from external ones.
abbrev pub communities_allow : Kind → List ℕ → Bool
communities_allow External ns = not (holds 4294967042 ns || holds 4294967041 ns || holds 4294967043 ns)
communities_allow Internal ns = not (holds 4294967042 ns)
communities_allow Client ns = not (holds 4294967042 ns)

-- 2. Route reflection (RFC 4456 sections 6 and 8). A path from an internal peer that is no client does not go to
-- another such. From one internal peer to another, the sender included, ORIGINATOR_ID becomes the sender's router id
-- where it is absent, and the cluster id stands in front of CLUSTER_LIST. In every other case both go.
abbrev pub reflection_allows : Kind → Learned → Bool
reflection_allows Internal (learned.Internal client router) = client
reflection_allows kind from = true

-- the number of an IPv4 address
abbrev pub number_of_address : IpAddress → ℕ
number_of_address a = a.bits / 2 ^ 96

abbrev pub with_reflection : Option IpAddress → List ℕ → Attributes → Attributes
with_reflection originator clusters a = record a { originator = originator; clusters = clusters }

abbrev pub reflected_from : Local → IpAddress → Attributes → Attributes
reflected_from local router a = with_reflection (Some (unwrap_or a.originator router)) (number_of_address local.cluster_id ∷ a.clusters) a

abbrev pub reflected : Local → Kind → Learned → Attributes → Attributes
reflected local External from a = with_reflection None [] a
reflected local Internal (learned.Internal client router) a = reflected_from local router a
reflected local Client (learned.Internal client router) a = reflected_from local router a
reflected local kind from a = with_reflection None [] a

-- 3. The prefix list, where there is one, permits the prefix (`is_permitted`), and so does the peer's own filter where it
-- has entries (`filter_permits`).

-- 4. The route map, where there is one, maps the attributes or gives none. A map that is not there gives none.
abbrev pub mapped_by_map : List NamedList → Option (List MapRule) → Attributes → IpPrefix → Option Mapped
mapped_by_map lists None a p = None
mapped_by_map lists (Some rules) a p = map_result lists rules a p

abbrev pub mapped : Tables → Option (List ℕ) → Attributes → IpPrefix → Option Mapped
mapped tables None a p = Some (unmapped a)
mapped tables (Some name) a p = mapped_by_map tables.lists (value_named tables.maps name) a p

-- Towards an IPv6 peer a next hop that the map sets, which is IPv4, is as if it were not set.
abbrev pub heeded : Family → IpAddress → Mapped → Mapped
heeded V4 raw m = m
heeded V6 raw m = record { attrs = record m.attrs { next_hop = raw }; set_next_hop = false; set_med = m.set_med }

abbrev pub mapped_towards : Family → Tables → Option (List ℕ) → Attributes → IpPrefix → Option Mapped
mapped_towards family tables name a p = option_map (heeded family a.next_hop) (mapped tables name a p)

-- 5. With `remove_private_as` each private AS number is removed (RFC 6996), and not only where all are private: this
-- project's profile.
abbrev pub privates_removed : Bool → List PathSegment → List PathSegment
privates_removed remove path = if remove then without_private path else path

-- 6. With `as_override` each occurrence of the peer's AS becomes the local one.
abbrev pub as_overridden : Option ℕ → ℕ → List PathSegment → List PathSegment
as_overridden None asn path = path
as_overridden (Some old) asn path = overridden old asn path

-- 7. Towards an external peer the local AS stands in front (RFC 4271 section 5.1.2).
abbrev pub prepended_towards : Kind → ℕ → List PathSegment → List PathSegment
prepended_towards External asn path = prepended asn path
prepended_towards Internal asn path = path
prepended_towards Client asn path = path

abbrev pub path_out : GroupKey → Local → List PathSegment → List PathSegment
path_out key local path = prepended_towards key.kind local.asn (as_overridden key.as_override local.asn (privates_removed key.remove_private_as path))

-- 8. LOCAL_PREF is for internal peers alone, and 100 where it is absent (RFC 4271 section 5.1.5).
abbrev pub local_pref_out : Kind → Option ℕ → Option ℕ
local_pref_out External pref = None
local_pref_out Internal pref = Some (unwrap_or pref 100)
local_pref_out Client pref = Some (unwrap_or pref 100)

abbrev pub is_local : Learned → Bool
is_local learned.Local = true
is_local learned.External = false
is_local (learned.Internal client router) = false

-- 9. MULTI_EXIT_DISC that was learned does not go to an external peer, unless the map set it (RFC 4271 section 5.1.4).
abbrev pub med_out : Kind → Bool → Option ℕ → Option ℕ
med_out External ours med = if ours then med else None
med_out Internal ours med = med
med_out Client ours med = med

-- 10. Without `send_community` no community goes out. They keep their order: this project's profile.
abbrev pub communities_out : Bool → List ℕ → List ℕ
communities_out send ns = if send then ns else []

-- Then the kind of next hop (RFC 4271 section 5.1.3). That `next_hop_self` holds for reflected routes too is this
-- project's profile.
abbrev pub default_next_hop : Kind → NhKind
default_next_hop External = kinds.Auto
default_next_hop Internal = kinds.Keep
default_next_hop Client = kinds.Keep

abbrev pub next_hop_kind : GroupKey → Learned → Bool → NhKind
next_hop_kind key from set = if set then kinds.Fixed else (if key.next_hop_self || is_local from then kinds.Own else default_next_hop key.kind)

-- the attributes after rules 5 to 10; `set_med` says whether the map set MULTI_EXIT_DISC
abbrev pub attributes_out : GroupKey → Local → Learned → Bool → Attributes → Attributes
attributes_out key local from set_med a = record {
  origin = a.origin;
  path = path_out key local a.path;
  next_hop = a.next_hop;
  med = med_out key.kind (is_local from || set_med) a.med;
  local_pref = local_pref_out key.kind a.local_pref;
  atomic = a.atomic;
  aggregator = a.aggregator;
  communities = communities_out key.send_community a.communities;
  originator = a.originator;
  clusters = a.clusters;
}

abbrev pub finished : GroupKey → Local → Learned → Mapped → OutAttrs
finished key local from m = record { attrs = attributes_out key local from m.set_med m.attrs; nh_kind = next_hop_kind key from m.set_next_hop }

-- the prefix is of the key's family, and rules 1 to 3 let the path go
abbrev pub is_let_out : GroupKey → Tables → IpPrefix → Path → Bool
is_let_out key tables p path =
    same_family key.family p.family
    && (communities_allow key.kind path.attrs.communities
    && (reflection_allows key.kind path.learned && (is_permitted tables.lists p key.list && filter_permits key.filter p)))

-- What goes out of a path, or that nothing does.
unfoldable pub out : GroupKey → Tables → Local → IpPrefix → Path → Option OutAttrs
out key tables local p path =
    if is_let_out key tables p path
    then option_map (finished key local path.learned) (mapped_towards key.family tables key.map (reflected local key.kind path.learned path.attrs) p)
    else None
