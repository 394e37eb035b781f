-- Addresses and prefixes as numbers. Both are left aligned in 128 bits, so that one rule serves both families.
use Rattle.std.specs.Prelude.{◌≡◌, ℕ, ◌+◌, ◌-◌, ◌*◌, ◌/◌, ◌^◌, ◌≤◌, ◌==◌, nat_le, Bool, true, false, ◌&&◌, Option, Some, None, if◌then◌else◌}
use Rattle.ug_types.specs.declared.family.Family.{Family}
use Rattle.ug_types.specs.declared.family.Family.TheVariants.{V4, V6}

-- a prefix: the address, left aligned, and how many of its leading bits count (RFC 4271 section 4.3)
pub record IpPrefix : Type 0 where
  pub family : Family
  pub bits : ℕ
  pub len : ℕ

-- an address, left aligned
pub record IpAddress : Type 0 where
  pub family : Family
  pub bits : ℕ

-- how many bits an address of the family has
abbrev pub width_of : Family → ℕ
width_of V4 = 32
width_of V6 = 128

abbrev pub same_family : Family → Family → Bool
same_family V4 V4 = true
same_family V6 V6 = true
same_family V4 V6 = false
same_family V6 V4 = false

-- the bits with all past the first `len` cleared
abbrev pub cleared : ℕ → ℕ → ℕ
cleared len bits = bits / 2 ^ (128 - len) * 2 ^ (128 - len)

-- a length that the family has, and no bit set past it
pub record IsPrefix (family : Family) (bits len : ℕ) : Type 0 where
  pub short : len ≤ width_of family
  pub clear : cleared len bits ≡ bits

-- no bit set past the family's width
abbrev pub IsAddress : Family → ℕ → Type 0
IsAddress family bits = cleared (width_of family) bits ≡ bits

-- the prefix of that length that an address lies in, where the family has such a length
abbrev pub prefix_of : Family → ℕ → ℕ → Option IpPrefix
prefix_of family bits len = if nat_le len (width_of family) then Some (record { family = family; bits = cleared len bits; len = len }) else None

-- each address in the second lies in the first
abbrev pub covers : IpPrefix → IpPrefix → Bool
covers a b = same_family a.family b.family && nat_le a.len b.len && (cleared a.len b.bits == a.bits)

-- the IPv4 address of a number
abbrev pub ipv4 : ℕ → IpAddress
ipv4 number = record { family = V4; bits = number * 2 ^ 96 }

-- the fewest bytes that hold a prefix's bits
abbrev pub bytes_for : ℕ → ℕ
bytes_for len = (len + 7) / 8
