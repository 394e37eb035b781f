-- Reading one whole message, in a session of either family (RFC 4271 sections 4.1, 4.3 and 6, RFC 7911, RFC 4760,
-- RFC 7313 section 3, RFC 8654).
use Rattle.std.specs.Prelude.{◌≡◌, ℕ, ◌+◌, ◌≤◌, nat_lt, nat_le, Bool, true, false, ◌==◌, ◌&&◌, ◌||◌, not, List, [], length, take, drop, slice_index, Option, Some, None, Result, Ok, Err, if◌then◌else◌}
use Rattle.std.specs.List.{list_all}
use Rattle.byteorder.specs.Endian.{big_number}
use Rattle.ug_types.specs.declared.key.Key.{Key}
use Rattle.ug_types.specs.Messages.{Changes, Message, Updates, Begins, Ends, Ignored}
use Rattle.ug_types.specs.declared.family.Family.{Family}
use Rattle.ug_types.specs.declared.family.Family.TheVariants.{V4, V6}
use Rattle.ug_types.specs.declared.capabilities.Capabilities.{Capabilities}
use Rattle.ug_types.specs.Sessions.{message_limit}
use Rattle.ug_message.specs.Texts.{afi}
use Rattle.ug_message.specs.RoutesRead.{route_at}
use Rattle.ug_message.specs.Walking.{Fault, fault, ◌>>=◌, walk, with_one}
use Rattle.ug_message.specs.Kind.{Placed}
use Rattle.ug_message.specs.AttributesRead.{Multiprotocol, has_routes, read_attributes, read_multiprotocol}

-- a length in two bytes
abbrev pub size_at : ℕ → List ℕ → ℕ
size_at place bytes = big_number 2 (drop place bytes)

-- ---- the header: sixteen bytes of marker, the length of the whole message, and its type

abbrev pub is_marked : List ℕ → Bool
is_marked bytes = list_all (λ b. b == 255) (take 16 bytes)

abbrev pub message_size : List ℕ → ℕ
message_size bytes = size_at 16 bytes

abbrev pub message_type : List ℕ → ℕ
message_type bytes = slice_index bytes 18

-- An UPDATE (2) has two lengths behind its header at least, and a ROUTE-REFRESH (5) four bytes.
unfoldable pub is_size : Capabilities → ℕ → ℕ → Bool
is_size c type size =
    nat_le 19 size && nat_le size (message_limit c) && (if type == 2 then nat_le 23 size else if type == 5 then size == 23 else true)

-- 1 a byte of the marker isn't ff; 2 the length isn't one of such a message; 3 neither an UPDATE nor a ROUTE-REFRESH
unfoldable pub header_fault : Capabilities → List ℕ → Option Fault
header_fault c bytes =
    if not (is_marked bytes) then Some (fault 1 0)
    else if not (is_size c (message_type bytes) (message_size bytes)) then Some (fault 2 16)
    else if not ((message_type bytes == 2) || (message_type bytes == 5)) then Some (fault 3 18)
    else None

-- ---- an UPDATE

pub record Parts : Type 0 where
  pub withdrawn : List ℕ
  pub attributes : List ℕ
  pub announced : List ℕ

-- The first length says where the withdrawn routes end, the second where the attributes do. 4, 5: that isn't within
-- the message.
unfoldable pub parts_in : List ℕ → Result Parts Fault
parts_in m =
    let withdrawn = size_at 19 m in
    let attributes = size_at (21 + withdrawn) m in
    if nat_lt (length m) (23 + withdrawn) then Err (fault 4 19)
    else if nat_lt (length m) (23 + withdrawn + attributes) then Err (fault 5 (21 + withdrawn))
    else Ok (record { withdrawn = take withdrawn (drop 21 m); attributes = take attributes (drop (23 + withdrawn) m); announced = drop (23 + withdrawn + attributes) m })

-- 6, at the length byte: the prefix has more bits than its family; 7, at the route: it is cut short
abbrev pub route_fault : Bool → ℕ → ℕ → Fault
route_fault add_path place number = if number == 1 then fault 6 (if add_path then place + 4 else place) else fault 7 place

abbrev pub route_read : Bool → ℕ → Result (Key × ℕ) ℕ → Result (Key × ℕ) Fault
route_read add_path place (Ok x) = Ok x
route_read add_path place (Err number) = Err (route_fault add_path place number)

abbrev pub one_route : Family → Bool → ℕ → List ℕ → Result (Key × ℕ) Fault
one_route family add_path place bytes = route_read add_path place (route_at family add_path bytes)

-- the routes that the bytes spell, the first of which stands at that place
abbrev pub routes_in : Family → Bool → ℕ → List ℕ → Result (List Key) Fault
routes_in family add_path place bytes = walk (with_one (one_route family add_path)) 0 place [] bytes

-- 11 to 19: a fault of the attributes, at the attribute; 17, that one is missing, at the length of them all
abbrev pub attribute_fault : ℕ → Fault → Fault
attribute_fault field f = fault (10 + f.number) (if f.number == 7 then field else field + 2 + f.place)

abbrev pub attributes_read : {T : Type 0} → ℕ → Result T Fault → Result T Fault
attributes_read field (Ok found) = Ok found
attributes_read field (Err f) = Err (attribute_fault field f)

abbrev pub withdraws : Parts → Bool
withdraws parts = nat_lt 0 (length parts.withdrawn)

abbrev pub announces : Parts → Bool
announces parts = nat_lt 0 (length parts.announced)

-- Where no route is announced the attributes are read, and have no effect.
unfoldable pub ipv4_changes : Bool → Parts → Result Changes Fault
ipv4_changes add_path parts = do
  withdrawn ← routes_in V4 add_path 21 parts.withdrawn
  attrs ← attributes_read (21 + length parts.withdrawn) (read_attributes (announces parts) parts.attributes)
  announced ← routes_in V4 add_path (23 + length parts.withdrawn + length parts.attributes) parts.announced
  Ok (record { withdrawn = withdrawn; attrs = if announces parts then attrs else None; announced = announced })

-- routes that stand among the attributes, which begin behind a header and two lengths
abbrev pub placed_routes : Bool → Placed → Result (List Key) Fault
placed_routes add_path p = routes_in V6 add_path (23 + p.place) p.routes

-- Routes of IPv6 stand among the attributes alone. 9, at the message: there are some before or behind them.
unfoldable pub ipv6_changes : Bool → Parts → Result Changes Fault
ipv6_changes add_path parts =
    if withdraws parts || announces parts then Err (fault 9 0)
    else do
      found ← attributes_read 21 (read_multiprotocol parts.attributes)
      withdrawn ← placed_routes add_path found.withdrawn
      announced ← placed_routes add_path found.announced
      Ok (record { withdrawn = withdrawn; attrs = if has_routes found.announced then found.attrs else None; announced = announced })

abbrev pub changes_in : Family → Bool → Parts → Result Changes Fault
changes_in V4 add_path parts = ipv4_changes add_path parts
changes_in V6 add_path parts = ipv6_changes add_path parts

unfoldable pub read_update : Capabilities → List ℕ → Result Changes Fault
read_update c m = parts_in m >>= changes_in c.family c.add_path

-- ---- a ROUTE-REFRESH: AFI, a byte that says what it is, SAFI. It marks the begin (1) or the end (2) of a refresh
-- for unicast routes of the session's family, and else it is ignored.
unfoldable pub read_refresh : Family → List ℕ → Message
read_refresh family m =
    if not ((size_at 19 m == afi family) && (slice_index m 22 == 1)) then Ignored
    else if slice_index m 21 == 1 then Begins
    else if slice_index m 21 == 2 then Ends
    else Ignored

-- ---- a whole message

unfoldable pub read_body : Capabilities → List ℕ → Result Message Fault
read_body c m = if message_type m == 5 then Ok (read_refresh c.family m) else (read_update c m >>= (λ u. Ok (Updates u)))

abbrev pub unless_faulty : Option Fault → Result Message Fault → Result Message Fault
unless_faulty (Some f) read = Err f
unless_faulty None read = read

-- what a message says, or its first fault
unfoldable pub read_message : Capabilities → List ℕ → Result Message Fault
read_message c m = unless_faulty (header_fault c m) (read_body c m)

-- ---- End-of-RIB (RFC 4724 section 2): an UPDATE of IPv4 routes that has nothing behind its header but two lengths of
-- nothing, or one of IPv6 routes whose one attribute is an empty MP_UNREACH_NLRI

abbrev pub is_alone : Result Multiprotocol Fault → Bool
is_alone (Ok found) = found.is_alone
is_alone (Err f) = false

abbrev pub ends_rib_of : Family → List ℕ → Bool
ends_rib_of V4 m = length m == 23
ends_rib_of V6 m = is_alone (parts_in m >>= (λ parts. read_multiprotocol parts.attributes))

unfoldable pub ends_rib : Family → List ℕ → Bool
ends_rib family m = (message_type m == 2) && ends_rib_of family m

-- The bytes are one message: a header, and as many bytes as it says.
pub record IsWhole (m : List ℕ) : Type 0 where
  pub has_header : 19 ≤ length m
  pub size : length m ≡ message_size m

-- The bytes are one message that says this.
pub record Spells (c : Capabilities) (m : List ℕ) (says : Message) : Type 0 where
  pub whole : IsWhole m
  pub read : read_message c m ≡ Ok says

-- The bytes are one message, and this is the first fault of it.
pub record HasFault (c : Capabilities) (m : List ℕ) (first : Fault) : Type 0 where
  pub whole : IsWhole m
  pub read : read_message c m ≡ Err first
