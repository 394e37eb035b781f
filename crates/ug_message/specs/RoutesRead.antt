-- Which route bytes begin with (RFC 4271 section 4.3, RFC 4760 section 5, RFC 7911 section 3).
use Rattle.std.specs.Prelude.{ℕ, ◌+◌, nat_lt, Bool, true, false, List, [], ◌∷◌, length, take, drop, Result, Ok, Err, if◌then◌else◌}
use Rattle.byteorder.specs.Endian.{big_number}
use Rattle.ug_types.specs.declared.key.Key.{Key}
use Rattle.ug_types.specs.declared.family.Family.{Family}
use Rattle.ug_types.specs.Ip.{IpPrefix, width_of, cleared, bytes_for}

-- The prefix of a length and of the bytes that hold its bits, those that are missing of sixteen being zero. The bits
-- past the length are not heeded.
abbrev pub prefix_from : Family → ℕ → List ℕ → IpPrefix
prefix_from family len bytes = record { family = family; bits = cleared len (big_number 16 bytes); len = len }

-- A prefix and how many bytes it takes, or why there is none: 2 cut short before the length, 1 a length over the
-- family's width, 2 cut short after it.
abbrev pub prefix_at : Family → List ℕ → Result (IpPrefix × ℕ) ℕ
prefix_at family [] = Err 2
prefix_at family (len ∷ bytes) =
    if nat_lt (width_of family) len then Err 1
    else if nat_lt (length bytes) (bytes_for len) then Err 2
    else Ok (prefix_from family len (take (bytes_for len) bytes), 1 + bytes_for len)

-- a prefix behind the bytes of an identifier
abbrev pub behind : ℕ → ℕ → Result (IpPrefix × ℕ) ℕ → Result (Key × ℕ) ℕ
behind id taken (Ok x) = Ok (record { prefix = x.0; id = id }, taken + x.1)
behind id taken (Err number) = Err number

-- a route: under ADD-PATH four bytes of identifier come first
unfoldable pub route_at : Family → Bool → List ℕ → Result (Key × ℕ) ℕ
route_at family false bytes = behind 0 0 (prefix_at family bytes)
route_at family true bytes = if nat_lt (length bytes) 4 then Err 2 else behind (big_number 4 bytes) 4 (prefix_at family (drop 4 bytes))
