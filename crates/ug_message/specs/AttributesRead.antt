-- Reading the path attributes of one message, of either family, row by row of the table (RFC 4271 sections 5 and 6.3,
-- RFC 4760).
use Rattle.std.specs.Prelude.{ℕ, ◌+◌, nat_lt, Bool, true, false, ◌==◌, ◌&&◌, not, List, [], ◌∷◌, ◌++◌, length, option_map, Option, Some, None, Result, Ok, Err, if◌then◌else◌}
use Rattle.ug_types.specs.declared.family.Family.{Family}
use Rattle.ug_types.specs.declared.family.Family.TheVariants.{V4, V6}
use Rattle.ug_types.specs.Ip.{IpAddress}
use Rattle.ug_types.specs.Attributes.{PathSegment, Attributes}
use Rattle.ug_message.specs.Walking.{Fault, fault, at, ◌>>=◌, walk_all}
use Rattle.ug_message.specs.Attribute.{Attribute, optional, has, head_size, value_size, attribute_at}
use Rattle.ug_message.specs.Kind.{Kind, Placed, Reach, ReadSoFar, nothing_read, was_there, are_flags}
use Rattle.ug_message.specs.AttributeTable.{kind_of, mp_unreach_nlri_kind}

-- ---- one attribute

-- 3: the flags aren't the kind's; 4: no value of the kind has this length
unfoldable pub with_known : Kind → Attribute → ReadSoFar → Result ReadSoFar ℕ
with_known kind a r =
    if not (are_flags kind a.flags) then Err 3
    else if not (kind.is_length (length a.value)) then Err 4
    else kind.read a.place a.value r

-- 8: it is unknown, and not marked optional. Other unknown ones are passed over.
abbrev pub with_kind : Option Kind → Attribute → ReadSoFar → Result ReadSoFar ℕ
with_kind (Some kind) a r = with_known kind a r
with_kind None a r = if has a.flags optional then Ok r else Err 8

-- 2: the type was there before
unfoldable pub with_attribute : Family → Attribute → ReadSoFar → Result ReadSoFar ℕ
with_attribute family a r =
    if was_there a.type r then Err 2
    else with_kind (kind_of family a.type) a (record r { types = r.types ++ a.type ∷ [] })

-- ---- all of them

unfoldable pub one_attribute : Family → ℕ → ReadSoFar → List ℕ → Result (ReadSoFar × ℕ) ℕ
one_attribute family place r bytes = do
  a ← attribute_at place bytes
  next ← with_attribute family a r
  Ok (next, head_size bytes + value_size bytes)

abbrev pub attribute_step : Family → ℕ → ReadSoFar → List ℕ → Result (ReadSoFar × ℕ) Fault
attribute_step family place r bytes = at place (one_attribute family place r bytes)

-- ORIGIN, AS_PATH and a next hop are there, with which routes can be announced (RFC 4271 section 5)
abbrev pub with_mandatory : Option ℕ → Option (List PathSegment) → Option IpAddress → ReadSoFar → Option Attributes
with_mandatory (Some origin) (Some path) (Some next_hop) r =
    Some
    (record {
      origin = origin;
      path = path;
      next_hop = next_hop;
      med = r.med;
      local_pref = r.local_pref;
      atomic = r.atomic;
      aggregator = r.aggregator;
      communities = r.communities;
      originator = r.originator;
      clusters = r.clusters;
    })
with_mandatory None path next_hop r = None
with_mandatory (Some origin) None next_hop r = None
with_mandatory (Some origin) (Some path) None r = None

-- the next hop is that of NEXT_HOP, or of MP_REACH_NLRI
abbrev pub next_hop_in : Family → ReadSoFar → Option IpAddress
next_hop_in V4 r = r.next_hop
next_hop_in V6 r = option_map (λ (x : Reach). x.next_hop) r.reach

abbrev pub attributes_in : Family → ReadSoFar → Option Attributes
attributes_in family r = with_mandatory r.origin r.path (next_hop_in family r) r

-- 7: the three are needed, and one is missing
abbrev pub at_end : Bool → Option Attributes → Result (Option Attributes) Fault
at_end true None = Err (fault 7 0)
at_end true (Some a) = Ok (Some a)
at_end false found = Ok found

-- The attributes of IPv4 routes that the bytes spell, or the first fault: attribute by attribute, and 7 after all of
-- them.
unfoldable pub read_attributes : Bool → List ℕ → Result (Option Attributes) Fault
read_attributes need bytes = do
  r ← walk_all (attribute_step V4) nothing_read bytes
  at_end need (attributes_in V4 r)

-- what the attributes of an UPDATE say where routes stand among them
pub record Multiprotocol : Type 0 where
  pub attrs : Option Attributes
  pub withdrawn : Placed
  pub announced : Placed
  pub is_alone : Bool

abbrev pub nowhere : Placed
nowhere = record { place = 0; routes = [] }

abbrev pub option_or : {T : Type 0} → T → Option T → T
option_or other None = other
option_or other (Some x) = x

abbrev pub withdrawn_in : ReadSoFar → Placed
withdrawn_in r = option_or nowhere r.unreach

abbrev pub announced_in : ReadSoFar → Placed
announced_in r = option_or nowhere (option_map (λ (x : Reach). x.routes) r.reach)

abbrev pub has_routes : Placed → Bool
has_routes p = nat_lt 0 (length p.routes)

-- an empty MP_UNREACH_NLRI is all there is: End-of-RIB (RFC 4724 section 2)
abbrev pub is_alone_in : List ℕ → Placed → Bool
is_alone_in (type ∷ []) withdrawn = (type == mp_unreach_nlri_kind.type) && not (has_routes withdrawn)
is_alone_in [] withdrawn = false
is_alone_in (one ∷ other ∷ types) withdrawn = false

-- The same of IPv6 routes, whose mandatory attributes are needed where some are announced.
unfoldable pub read_multiprotocol : List ℕ → Result Multiprotocol Fault
read_multiprotocol bytes = do
  r ← walk_all (attribute_step V6) nothing_read bytes
  attrs ← at_end (has_routes (announced_in r)) (attributes_in V6 r)
  Ok (record { attrs = attrs; withdrawn = withdrawn_in r; announced = announced_in r; is_alone = is_alone_in r.types (withdrawn_in r) })
