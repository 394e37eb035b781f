-- Path attributes as plain records (RFC 4271 section 5, RFC 1997, RFC 4456 section 8, RFC 6793).
use Rattle.std.specs.Prelude.{◌≡◌, ℕ, nat_lt, nat_le, Bool, true, false, ◌&&◌, not, List, [], length, map, sum_by, Option, Some, None, if◌then◌else◌}
use Rattle.std.specs.List.{list_all}
use Rattle.ug_types.specs.Ip.{IpAddress}
use Rattle.ug_types.specs.declared.attrs.Segment.{Segment}
use Rattle.ug_types.specs.declared.attrs.Aggregator.{Aggregator}
use Rattle.ug_types.specs.declared.attrs.AttrParts.{AttrParts}

-- a segment of AS_PATH
pub record PathSegment : Type 0 where
  pub is_set : Bool
  pub numbers : List ℕ

pub record Attributes : Type 0 where
  pub origin : ℕ
  pub path : List PathSegment
  pub next_hop : IpAddress
  pub med : Option ℕ
  pub local_pref : Option ℕ
  pub atomic : Bool
  pub aggregator : Option Aggregator
  pub communities : List ℕ
  pub originator : Option IpAddress
  pub clusters : List ℕ

abbrev pub segment_of : Segment → PathSegment
segment_of s = record { is_set = s.is_set; numbers = s.numbers.items }

abbrev pub attributes_of : AttrParts → Attributes
attributes_of p = record {
  origin = p.origin;
  path = map segment_of p.path.items;
  next_hop = p.next_hop;
  med = p.med;
  local_pref = p.local_pref;
  atomic = p.atomic;
  aggregator = p.aggregator;
  communities = p.communities.items;
  originator = p.originator;
  clusters = p.clusters.items;
}

-- ORIGIN, AS_PATH and NEXT_HOP, and no others
abbrev pub plain_attributes : ℕ → List PathSegment → IpAddress → Attributes
plain_attributes origin path next_hop = record {
  origin = origin;
  path = path;
  next_hop = next_hop;
  med = None;
  local_pref = None;
  atomic = false;
  aggregator = None;
  communities = [];
  originator = None;
  clusters = [];
}

-- how many AS numbers a path has
abbrev pub numbers_in : List PathSegment → ℕ
numbers_in path = sum_by (λ s. length s.numbers) path

-- a segment has 1 to 255 numbers, since its count is one byte and isn't 0
abbrev pub is_segment : PathSegment → Bool
is_segment s = nat_lt 0 (length s.numbers) && nat_le (length s.numbers) 255

-- a segment of any path can be written, and ORIGIN has a meaning
abbrev pub is_well_formed : Attributes → Bool
is_well_formed a = list_all is_segment a.path && nat_le a.origin 2

abbrev pub IsAttributes : Attributes → Type 0
IsAttributes a = is_well_formed a ≡ true

-- why attributes from within are refused, the lowest number first: 1 a path of over 300 numbers, 2 over 16
-- segments, 3 not well formed, 4 over 128 communities, 5 over 32 clusters
abbrev pub refusal_of : Attributes → Option ℕ
refusal_of a =
    if nat_lt 300 (numbers_in a.path) then Some 1
    else if nat_lt 16 (length a.path) then Some 2
    else if not (is_well_formed a) then Some 3
    else if nat_lt 128 (length a.communities) then Some 4
    else if nat_lt 32 (length a.clusters) then Some 5
    else None
