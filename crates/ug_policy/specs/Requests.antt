-- ROUTE-REFRESH messages of IPv4 unicast (RFC 4271 section 4.1, RFC 2918 section 3, RFC 7313 section 3.2).
use Rattle.std.specs.Prelude.{ℕ, ◌==◌, Bool, ◌&&◌, not, List, length, take, drop, slice_index, Option, Some, None, if◌then◌else◌}
use Rattle.std.specs.List.{list_all}
use Rattle.std.specs.Int.{w16, from_be_bytes}

-- sixteen bytes, all ones
abbrev pub has_marker : List ℕ → Bool
has_marker bytes = list_all (λ b. b == 255) (take 16 bytes)

-- two bytes behind the marker say how long the message is
abbrev pub length_field : List ℕ → ℕ
length_field bytes = from_be_bytes w16 (take 2 (drop 16 bytes))

abbrev pub type_field : List ℕ → ℕ
type_field bytes = slice_index bytes 18

-- address family 1, and behind a reserved byte subsequent family 1
abbrev pub is_ipv4_unicast : List ℕ → Bool
is_ipv4_unicast bytes = (from_be_bytes w16 (take 2 (drop 19 bytes)) == 1) && (slice_index bytes 22 == 1)

-- 1 and 2 mark the begin and the end of a refresh (RFC 7313)
abbrev pub reserved_field : List ℕ → ℕ
reserved_field bytes = slice_index bytes 21

-- Why 23 bytes or more are no ROUTE-REFRESH of IPv4 unicast, the lowest number first: 2 the marker, 3 the type isn't
-- 5, 4 another family.
abbrev pub kind_refusal : List ℕ → Option ℕ
kind_refusal bytes =
    if not (has_marker bytes) then Some 2
    else if not (type_field bytes == 5) then Some 3
    else if not (is_ipv4_unicast bytes) then Some 4
    else None

abbrev pub or_else : Option ℕ → Option ℕ → Option ℕ
or_else None other = other
or_else (Some number) other = Some number

-- Why bytes aren't a request for all routes: 1 they aren't 23, or their length field isn't; 2 to 4 as above; 5 the
-- reserved byte isn't 0. That a mark is refused with or without enhanced refresh is this project's profile.
abbrev pub refresh_refusal : List ℕ → Option ℕ
refresh_refusal bytes =
    if not ((length bytes == 23) && (length_field bytes == 23)) then Some 1
    else or_else (kind_refusal bytes) (if not (reserved_field bytes == 0) then Some 5 else None)
