-- The table of path attributes, by ascending type. Each has a block: what its value is, as it is read and as it is
-- spelled, and its kind; and a row at the end. Whoever adds one adds its block and its row.
use Rattle.std.specs.Prelude.{ℕ, ◌+◌, ◌*◌, ◌%◌, nat_lt, true, ◌==◌, ◌||◌, not, List, [], ◌∷◌, ◌++◌, length, map, take, drop, slice_index, Option, Some, Result, Ok, Err, if◌then◌else◌}
use Rattle.std.specs.List.{flat_map}
use Rattle.ug_types.specs.declared.attrs.Aggregator.{Aggregator}
use Rattle.ug_types.specs.declared.family.Family.{Family}
use Rattle.ug_types.specs.declared.family.Family.TheVariants.{V4, V6}
use Rattle.ug_types.specs.Ip.{IpAddress}
use Rattle.ug_types.specs.Attributes.{PathSegment, Attributes}
use Rattle.ug_message.specs.Walking.{◌>>=◌, all_in}
use Rattle.ug_message.specs.Attribute.{well_known, optional, optional_transitive}
use Rattle.ug_message.specs.Values.{number, number_in, numbers, numbers_in, four_bytes, address_in, sixteen_bytes, ipv6_address_in, ipv6_unicast, is_ipv6_unicast, where_present, where_some}
use Rattle.ug_message.specs.Kind.{Kind, Placed, Reach, attribute_of, kind_among}

-- ---- 1 ORIGIN (RFC 4271 section 5.1.1): one byte, 0 IGP, 1 EGP or 2 INCOMPLETE

-- 5: there are three origins
abbrev pub origin_in : List ℕ → Result ℕ ℕ
origin_in bytes = if nat_lt 2 (slice_index bytes 0) then Err 5 else Ok (slice_index bytes 0)

abbrev pub origin_kind : Kind
origin_kind = record {
  type = 1;
  flags = well_known;
  is_length = λ len. len == 1;
  read = λ place value r. (origin_in value >>= (λ n. Ok (record r { origin = Some n })));
}

abbrev pub origin : Attributes → List ℕ
origin a = attribute_of origin_kind (a.origin ∷ [])

-- ---- 2 AS_PATH (RFC 4271 section 5.1.2, RFC 6793 section 4.1): segments, which say how long they are

-- 1 AS_SET or 2 AS_SEQUENCE, how many numbers, and the numbers
abbrev pub segment : PathSegment → List ℕ
segment s = (if s.is_set then 1 else 2) ∷ length s.numbers ∷ numbers s.numbers

abbrev pub segments : List PathSegment → List ℕ
segments path = flat_map segment path

abbrev pub segment_size : List ℕ → ℕ
segment_size bytes = 2 + 4 * slice_index bytes 1

-- 6: a segment is of another type, it has no number, or it passes the end
unfoldable pub segment_at : List ℕ → Result (PathSegment × ℕ) ℕ
segment_at bytes =
    if not ((slice_index bytes 0 == 1) || (slice_index bytes 0 == 2)) then Err 6
    else if slice_index bytes 1 == 0 then Err 6
    else if nat_lt (length bytes) (segment_size bytes) then Err 6
    else Ok (record { is_set = slice_index bytes 0 == 1; numbers = numbers_in (take (4 * slice_index bytes 1) (drop 2 bytes)) }, segment_size bytes)

abbrev pub path_in : List ℕ → Result (List PathSegment) ℕ
path_in bytes = all_in (λ place. segment_at) bytes

abbrev pub as_path_kind : Kind
as_path_kind = record {
  type = 2;
  flags = well_known;
  is_length = λ len. true;
  read = λ place value r. (path_in value >>= (λ path. Ok (record r { path = Some path })));
}

abbrev pub as_path : Attributes → List ℕ
as_path a = attribute_of as_path_kind (segments a.path)

-- ---- 3 NEXT_HOP (RFC 4271 section 5.1.3): an IPv4 address

abbrev pub next_hop_kind : Kind
next_hop_kind = record {
  type = 3;
  flags = well_known;
  is_length = λ len. len == 4;
  read = λ place value r. Ok (record r { next_hop = Some (address_in value) });
}

abbrev pub next_hop : Attributes → List ℕ
next_hop a = attribute_of next_hop_kind (four_bytes a.next_hop)

-- ---- 4 MULTI_EXIT_DISC (RFC 4271 section 5.1.4): a number

abbrev pub multi_exit_disc_kind : Kind
multi_exit_disc_kind = record {
  type = 4;
  flags = optional;
  is_length = λ len. len == 4;
  read = λ place value r. Ok (record r { med = Some (number_in value) });
}

abbrev pub multi_exit_disc : Attributes → List ℕ
multi_exit_disc a = where_present (λ n. attribute_of multi_exit_disc_kind (number n)) a.med

-- ---- 5 LOCAL_PREF (RFC 4271 section 5.1.5): a number

abbrev pub local_pref_kind : Kind
local_pref_kind = record {
  type = 5;
  flags = well_known;
  is_length = λ len. len == 4;
  read = λ place value r. Ok (record r { local_pref = Some (number_in value) });
}

abbrev pub local_pref : Attributes → List ℕ
local_pref a = where_present (λ n. attribute_of local_pref_kind (number n)) a.local_pref

-- ---- 6 ATOMIC_AGGREGATE (RFC 4271 section 5.1.6): no bytes

abbrev pub atomic_aggregate_kind : Kind
atomic_aggregate_kind = record {
  type = 6;
  flags = well_known;
  is_length = λ len. len == 0;
  read = λ place value r. Ok (record r { atomic = true });
}

abbrev pub atomic_aggregate : Attributes → List ℕ
atomic_aggregate a = if a.atomic then attribute_of atomic_aggregate_kind [] else []

-- ---- 7 AGGREGATOR (RFC 4271 section 5.1.7, RFC 6793 section 4.1): an AS number and an IPv4 address

abbrev pub aggregator_in : List ℕ → Aggregator
aggregator_in bytes = record { asn = number_in bytes; addr = address_in (drop 4 bytes) }

abbrev pub aggregator_kind : Kind
aggregator_kind = record {
  type = 7;
  flags = optional_transitive;
  is_length = λ len. len == 8;
  read = λ place value r. Ok (record r { aggregator = Some (aggregator_in value) });
}

abbrev pub aggregator : Attributes → List ℕ
aggregator a = where_present (λ (g : Aggregator). attribute_of aggregator_kind (number g.asn ++ four_bytes g.addr)) a.aggregator

-- ---- 8 COMMUNITIES (RFC 1997): four bytes each

abbrev pub communities_kind : Kind
communities_kind = record {
  type = 8;
  flags = optional_transitive;
  is_length = λ len. len % 4 == 0;
  read = λ place value r. Ok (record r { communities = numbers_in value });
}

abbrev pub communities : Attributes → List ℕ
communities a = where_some (λ ns. attribute_of communities_kind (numbers ns)) a.communities

-- ---- 9 ORIGINATOR_ID (RFC 4456 section 8): an IPv4 address

abbrev pub originator_id_kind : Kind
originator_id_kind = record {
  type = 9;
  flags = optional;
  is_length = λ len. len == 4;
  read = λ place value r. Ok (record r { originator = Some (address_in value) });
}

abbrev pub originator_id : Attributes → List ℕ
originator_id a = where_present (λ id. attribute_of originator_id_kind (four_bytes id)) a.originator

-- ---- 10 CLUSTER_LIST (RFC 4456 section 8): four bytes each

abbrev pub cluster_list_kind : Kind
cluster_list_kind = record {
  type = 10;
  flags = optional;
  is_length = λ len. len % 4 == 0;
  read = λ place value r. Ok (record r { clusters = numbers_in value });
}

abbrev pub cluster_list : Attributes → List ℕ
cluster_list a = where_some (λ ns. attribute_of cluster_list_kind (numbers ns)) a.clusters

-- ---- 14 MP_REACH_NLRI (RFC 4760 section 3): announced routes behind their family and their next hop

-- how many bytes stand before the routes, with a next hop of one address or of two
abbrev pub before_routes : List ℕ → ℕ
before_routes bytes = 5 + slice_index bytes 3

-- The family, the length of the next hop, the next hop, of which the first address counts, a reserved byte, and the
-- routes. 9: another family, a next hop of another length than 16 and 32, or no room for all of this.
unfoldable pub reach_in : ℕ → List ℕ → Result Reach ℕ
reach_in place bytes =
    if not (is_ipv6_unicast bytes) then Err 9
    else if not ((slice_index bytes 3 == 16) || (slice_index bytes 3 == 32)) then Err 9
    else if nat_lt (length bytes) (before_routes bytes) then Err 9
    else Ok (record { next_hop = ipv6_address_in (drop 4 bytes); routes = record { place = place + before_routes bytes; routes = drop (before_routes bytes) bytes } })

abbrev pub mp_reach_nlri_kind : Kind
mp_reach_nlri_kind = record {
  type = 14;
  flags = optional;
  is_length = λ len. true;
  read = λ place value r. (reach_in place value >>= (λ reach. Ok (record r { reach = Some reach })));
}

-- a next hop of one address
unfoldable pub mp_reach_nlri : IpAddress → List ℕ → List ℕ
mp_reach_nlri next_hop routes = attribute_of mp_reach_nlri_kind (ipv6_unicast ++ 16 ∷ (sixteen_bytes next_hop ++ 0 ∷ routes))

-- ---- 15 MP_UNREACH_NLRI (RFC 4760 section 4): withdrawn routes behind their family

-- 9: another family
unfoldable pub unreach_in : ℕ → List ℕ → Result Placed ℕ
unreach_in place bytes = if not (is_ipv6_unicast bytes) then Err 9 else Ok (record { place = place + 3; routes = drop 3 bytes })

abbrev pub mp_unreach_nlri_kind : Kind
mp_unreach_nlri_kind = record {
  type = 15;
  flags = optional;
  is_length = λ len. true;
  read = λ place value r. (unreach_in place value >>= (λ unreach. Ok (record r { unreach = Some unreach })));
}

unfoldable pub mp_unreach_nlri : List ℕ → List ℕ
mp_unreach_nlri routes = attribute_of mp_unreach_nlri_kind (ipv6_unicast ++ routes)

-- ---- the rows

-- an attribute of a path, as it is known and as it is spelled
pub record Row : Type 0 where
  pub kind : Kind
  pub spelled : Attributes → List ℕ

-- those before NEXT_HOP
abbrev pub first_rows : List Row
first_rows = record { kind = origin_kind; spelled = origin } ∷ record { kind = as_path_kind; spelled = as_path } ∷ []

-- those behind it
abbrev pub last_rows : List Row
last_rows =
    record { kind = multi_exit_disc_kind; spelled = multi_exit_disc }
    ∷ record { kind = local_pref_kind; spelled = local_pref }
    ∷ record { kind = atomic_aggregate_kind; spelled = atomic_aggregate }
    ∷ record { kind = aggregator_kind; spelled = aggregator }
    ∷ record { kind = communities_kind; spelled = communities }
    ∷ record { kind = originator_id_kind; spelled = originator_id }
    ∷ record { kind = cluster_list_kind; spelled = cluster_list }
    ∷ []

-- those that hold routes, which IPv6 routes alone have here
abbrev pub multiprotocol_kinds : Family → List Kind
multiprotocol_kinds V4 = []
multiprotocol_kinds V6 = mp_reach_nlri_kind ∷ mp_unreach_nlri_kind ∷ []

abbrev pub kinds_of : List Row → List Kind
kinds_of rows = map (λ (row : Row). row.kind) rows

-- the kinds that a message of the family can have
unfoldable pub kinds : Family → List Kind
kinds family = kinds_of first_rows ++ next_hop_kind ∷ (kinds_of last_rows ++ multiprotocol_kinds family)

-- the kind of that type, where it is known
abbrev pub kind_of : Family → ℕ → Option Kind
kind_of family type = kind_among (kinds family) type

-- the attributes of some rows one after the other, behind a text
abbrev pub spelled_behind : List ℕ → List Row → Attributes → List ℕ
spelled_behind text [] a = text
spelled_behind text (row ∷ rows) a = spelled_behind (text ++ row.spelled a) rows a

-- those before the value of NEXT_HOP, and those after it
abbrev pub before_next_hop : Attributes → List ℕ
before_next_hop a = spelled_behind [] first_rows a

abbrev pub after_next_hop : Attributes → List ℕ
after_next_hop a = spelled_behind [] last_rows a
