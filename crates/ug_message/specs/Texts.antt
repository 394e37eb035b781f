-- The one text of each message, in a session of either family (RFC 4271 sections 4.1 and 4.3, RFC 7911, RFC 4760,
-- RFC 7313 section 3.2, RFC 8654).
use Rattle.std.specs.Prelude.{ℕ, ◌+◌, nat_le, Bool, ◌&&◌, List, [], ◌∷◌, ◌++◌, length, replicate, Option, Some, None, if◌then◌else◌}
use Rattle.std.specs.List.{list_all}
use Rattle.std.specs.Int.{w16, to_be_bytes}
use Rattle.ug_types.specs.declared.family.Family.{Family}
use Rattle.ug_types.specs.declared.family.Family.TheVariants.{V4, V6}
use Rattle.ug_types.specs.declared.capabilities.Capabilities.{Capabilities}
use Rattle.ug_types.specs.declared.key.Key.{Key}
use Rattle.ug_types.specs.Attributes.{Attributes}
use Rattle.ug_types.specs.Messages.{Message, Updates, Begins, Ends, Ignored}
use Rattle.ug_types.specs.Sessions.{message_limit}
use Rattle.ug_message.specs.Spelling.{routes, attributes, attributes_but_next_hop, mp_reach_nlri, mp_unreach_nlri}
use Rattle.ug_message.specs.Spellable.{is_key, can_be_spelled}

-- the marker, the length of the whole message, its type, and its body
unfoldable pub framed : ℕ → List ℕ → List ℕ
framed type body = replicate 16 255 ++ (to_be_bytes w16 (19 + length body) ++ type ∷ body)

-- a field behind its length in two bytes
abbrev pub field : List ℕ → List ℕ
field bytes = to_be_bytes w16 (length bytes) ++ bytes

-- The body of an UPDATE that withdraws routes. Those of IPv4 have a field of their own (RFC 4271 section 4.3), those of
-- IPv6 an attribute (RFC 4760 section 4).
abbrev pub withdrawing : Family → List ℕ → List ℕ
withdrawing V4 routes = field routes ++ field []
withdrawing V6 routes = field [] ++ field (mp_unreach_nlri routes)

-- The body of an UPDATE that announces routes. Those of IPv4 stand behind the attributes, those of IPv6 in the last of
-- them, with the next hop (RFC 4760 section 3).
abbrev pub announcing : Family → Attributes → List ℕ → List ℕ
announcing V4 attrs routes = field [] ++ (field (attributes attrs) ++ routes)
announcing V6 attrs routes = field [] ++ field (attributes_but_next_hop attrs ++ mp_reach_nlri attrs.next_hop routes)

-- an UPDATE that withdraws routes and announces none; with no routes it is End-of-RIB (RFC 4724 section 2)
unfoldable pub withdrawal : Capabilities → List Key → List ℕ
withdrawal c keys = framed 2 (withdrawing c.family (routes c.add_path keys))

-- an UPDATE that announces routes and withdraws none
unfoldable pub announcement : Capabilities → Attributes → List Key → List ℕ
announcement c attrs keys = framed 2 (announcing c.family attrs (routes c.add_path keys))

-- where its attributes stand, behind the header and two lengths
abbrev pub attributes_place : ℕ
attributes_place = 23

-- the number of the family (AFI)
abbrev pub afi : Family → ℕ
afi V4 = 1
afi V6 = 2

-- the begin and the end of a refresh: a ROUTE-REFRESH for unicast routes of the family whose reserved byte is 1 or 2
abbrev pub refresh_mark : Family → ℕ → List ℕ
refresh_mark family which = framed 5 (0 ∷ afi family ∷ which ∷ 1 ∷ [])

abbrev pub within : Capabilities → Bool → List ℕ → Option (List ℕ)
within c well_formed text = if well_formed then (if nat_le (length text) (message_limit c) then Some text else None) else None

-- An UPDATE withdraws or announces, and it has attributes exactly where it announces.
abbrev pub update : Capabilities → List Key → Option Attributes → List Key → Option (List ℕ)
update c withdrawn None [] = within c (list_all (is_key c) withdrawn) (withdrawal c withdrawn)
update c [] (Some attrs) (key ∷ keys) = within c (list_all (is_key c) (key ∷ keys) && can_be_spelled c.family attrs) (announcement c attrs (key ∷ keys))
update c (w ∷ withdrawn) (Some attrs) (key ∷ keys) = None
update c withdrawn None (key ∷ keys) = None
update c withdrawn (Some attrs) [] = None

-- The one text of a message, where its keys and attributes are well formed for the session, and it is within the limit.
unfoldable pub written : Capabilities → Message → Option (List ℕ)
written c (Updates u) = update c u.withdrawn u.attrs u.announced
written c Begins = Some (refresh_mark c.family 1)
written c Ends = Some (refresh_mark c.family 2)
written c Ignored = None
