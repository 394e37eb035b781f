-- The parts of attributes' values, as they are spelled and as they are read: numbers, addresses, a family, and what
-- may be missing.
use Rattle.std.specs.Prelude.{ℕ, Bool, ◌==◌, ◌&&◌, List, [], ◌∷◌, take, slice_index, Option, Some, None}
use Rattle.std.specs.List.{flat_map}
use Rattle.std.specs.Int.{w32, w128, to_be_bytes}
use Rattle.byteorder.specs.Endian.{big_number}
use Rattle.ug_types.specs.declared.family.Family.TheVariants.{V6}
use Rattle.ug_types.specs.Ip.{IpAddress, ipv4}

-- a number of four bytes
abbrev pub number : ℕ → List ℕ
number n = to_be_bytes w32 n

abbrev pub number_in : List ℕ → ℕ
number_in bytes = big_number 4 bytes

-- numbers of four bytes each
abbrev pub numbers : List ℕ → List ℕ
numbers ns = flat_map (to_be_bytes w32) ns

abbrev pub numbers_in : List ℕ → List ℕ
numbers_in (a ∷ b ∷ c ∷ d ∷ bytes) = big_number 4 (a ∷ b ∷ c ∷ d ∷ []) ∷ numbers_in bytes
numbers_in _ = []

-- the four bytes of an IPv4 address
abbrev pub four_bytes : IpAddress → List ℕ
four_bytes a = take 4 (to_be_bytes w128 a.bits)

abbrev pub address_in : List ℕ → IpAddress
address_in bytes = ipv4 (number_in bytes)

-- the sixteen bytes of an IPv6 address
abbrev pub sixteen_bytes : IpAddress → List ℕ
sixteen_bytes a = to_be_bytes w128 a.bits

abbrev pub ipv6_address_in : List ℕ → IpAddress
ipv6_address_in bytes = record { family = V6; bits = big_number 16 bytes }

-- AFI 2, SAFI 1: IPv6 unicast (RFC 4760 section 3)
abbrev pub ipv6_unicast : List ℕ
ipv6_unicast = 0 ∷ 2 ∷ 1 ∷ []

abbrev pub is_ipv6_unicast : List ℕ → Bool
is_ipv6_unicast bytes = (slice_index bytes 0 == 0) && (slice_index bytes 1 == 2) && (slice_index bytes 2 == 1)

-- nothing where there is no value, and no attribute of an empty list
abbrev pub where_present : {T : Type 0} → (T → List ℕ) → Option T → List ℕ
where_present spelled None = []
where_present spelled (Some x) = spelled x

abbrev pub where_some : (List ℕ → List ℕ) → List ℕ → List ℕ
where_some spelled [] = []
where_some spelled (n ∷ ns) = spelled (n ∷ ns)
