-- Addresses and prefixes as texts that are read. A text with a colon is one of IPv6.
use Rattle.std.specs.Prelude.{ℕ, zero, suc, ◌+◌, ◌-◌, ◌*◌, ◌^◌, nat_lt, ◌==◌, ◌&&◌, List, [], ◌∷◌, Option, Some, None, if◌then◌else◌}
use Rattle.std.specs.List.{list_any}
use Rattle.std.specs.Int.{w32, from_be_bytes}
use Rattle.ug_types.specs.Ip.{IpAddress, IpPrefix, prefix_of, ipv4}
use Rattle.ug_types.specs.declared.family.Family.{Family}
use Rattle.ug_types.specs.declared.family.Family.TheVariants.{V4, V6}
use Rattle.ug_types.specs.declared.attrs.Aggregator.{Aggregator}
use Rattle.ug_text.specs.Cutting.{◌>>=◌, cut_at, pieces, with_front}
use Rattle.ug_text.specs.Numbers.{hexadecimal_digit, digits_from, has_digits, number, any_number}

-- four numbers of one to three digits, each at most 255, with points between
unfoldable pub ipv4_number : List ℕ → Option ℕ
ipv4_number text = do
  first ← cut_at 46 text
  second ← cut_at 46 first.1
  third ← cut_at 46 second.1
  a ← number 3 255 first.0
  b ← number 3 255 second.0
  c ← number 3 255 third.0
  d ← number 3 255 third.1
  Some (from_be_bytes w32 (a ∷ b ∷ c ∷ d ∷ []))

abbrev pub ipv4_address : List ℕ → Option IpAddress
ipv4_address text = ipv4_number text >>= λ n. Some (ipv4 n)

-- ---- IPv6 (RFC 4291 section 2.2)

-- groups of sixteen bits: how many, and the number that they spell
pub record Groups : Type 0 where
  pub count : ℕ
  pub number : ℕ

abbrev pub no_groups : Groups
no_groups = record { count = 0; number = 0 }

-- a group more behind them, of at most eight
abbrev pub with_group : Groups → ℕ → Option Groups
with_group groups group = if nat_lt groups.count 8 then Some (record { count = groups.count + 1; number = groups.number * 65536 + group }) else None

-- one to four hexadecimal digits
abbrev pub group : List ℕ → Option ℕ
group text = if has_digits 4 text then digits_from hexadecimal_digit 16 0 text else None

-- behind some groups those that the texts spell, at most eight in all
unfoldable pub groups_from : Groups → List (List ℕ) → Option Groups
groups_from groups [] = Some groups
groups_from groups (text ∷ texts) = do
  next ← group text
  more ← with_group groups next
  groups_from more texts

-- groups with colons between, behind others; no text is no group
abbrev pub groups_in : Groups → List ℕ → Option Groups
groups_in groups [] = Some groups
groups_in groups (b ∷ text) = groups_from groups (pieces 58 (b ∷ text))

-- so many groups of zeros more
unfoldable pub with_zeros : ℕ → Groups → Option Groups
with_zeros zero groups = Some groups
with_zeros (suc n) groups = do
  more ← with_group groups 0
  with_zeros n more

abbrev pub where_eight : Groups → Option ℕ
where_eight groups = if groups.count == 8 then Some groups.number else None

-- what stands before the first two colons side by side, and what behind them
unfoldable pub cut_at_gap : List ℕ → Option (List ℕ × List ℕ)
cut_at_gap [] = None
cut_at_gap (b ∷ []) = None
cut_at_gap (b ∷ c ∷ bytes) = if (b == 58) && (c == 58) then Some ([], bytes) else with_front b (cut_at_gap (c ∷ bytes))

-- zeros behind some groups, and the groups of a text behind those
abbrev pub filled : ℕ → Groups → List ℕ → Option Groups
filled zeros front behind = with_zeros zeros front >>= λ groups. groups_in groups behind

abbrev pub number_of : Option Groups → Option ℕ
number_of None = None
number_of (Some groups) = Some groups.number

-- the groups before two colons, zeros in their place, at least one group, and the groups behind them: eight in all
unfoldable pub around_gap : List ℕ → List ℕ → Option ℕ
around_gap before behind = do
  front ← groups_in no_groups before
  back ← groups_in no_groups behind
  if nat_lt (front.count + back.count) 8 then number_of (filled (8 - (front.count + back.count)) front behind) else None

-- Eight groups, of which `::` may stand once for one or more that are zero.
unfoldable pub ipv6_number : List ℕ → Option ℕ
ipv6_number text = elim (cut_at_gap text) [ None ↦ groups_in no_groups text >>= where_eight | Some parts ↦ around_gap parts.0 parts.1 ]

-- ---- either family

abbrev pub family_of : List ℕ → Family
family_of text = if list_any (λ b. b == 58) text then V6 else V4

-- the bits of an address, left aligned
abbrev pub bits_in : Family → List ℕ → Option ℕ
bits_in V4 text = ipv4_number text >>= λ n. Some (n * 2 ^ 96)
bits_in V6 text = ipv6_number text

-- an address of the family
abbrev pub address_in : Family → List ℕ → Option IpAddress
address_in family text = bits_in family text >>= λ bits. Some (record { family = family; bits = bits })

-- a prefix's length: one or two digits, at most 32, or one to three, at most 128
abbrev pub length_in : Family → List ℕ → Option ℕ
length_in V4 text = number 2 32 text
length_in V6 text = number 3 128 text

-- an address of the family, a slash, and a length; bits past the length are cleared
unfoldable pub prefix_in : Family → List ℕ → Option IpPrefix
prefix_in family text = do
  parts ← cut_at 47 text
  bits ← bits_in family parts.0
  len ← length_in family parts.1
  prefix_of family bits len

-- a prefix of either family
abbrev pub prefix : List ℕ → Option IpPrefix
prefix text = prefix_in (family_of text) text

-- an AS number, a colon, and an IPv4 address
unfoldable pub aggregator : List ℕ → Option Aggregator
aggregator text = do
  parts ← cut_at 58 text
  asn ← any_number parts.0
  addr ← ipv4_address parts.1
  Some (record { asn = asn; addr = addr })
