-- Addresses, prefixes and path attributes as text, as rows are printed and event lines are read.
use Rattle.std.specs.Prelude.{ℕ, ◌*◌, ◌/◌, ◌%◌, ◌^◌, ◌==◌, List, [], ◌∷◌, ◌++◌, Option, Some, None, codes, if◌then◌else◌, false}
use Rattle.std.specs.List.{flat_map}
use Rattle.std.specs.Fmt.{decimal, digits, digit_glyph}
use Rattle.ug_types.specs.declared.family.Family.{Family}
use Rattle.ug_types.specs.declared.family.Family.TheVariants.{V4, V6}
use Rattle.ug_types.specs.declared.attrs.Aggregator.{Aggregator}
use Rattle.ug_types.specs.Ip.{IpAddress, IpPrefix}
use Rattle.ug_types.specs.Attributes.{PathSegment, Attributes}

-- four numbers with points between, the high eight bits first
unfoldable pub dotted : ℕ → List ℕ
dotted n = decimal (n / 16777216) ++ codes "." ++ decimal (n / 65536 % 256) ++ codes "." ++ decimal (n / 256 % 256) ++ codes "." ++ decimal (n % 256)

-- the leading 32 bits of an IPv4 address or prefix
abbrev pub leading : ℕ → ℕ
leading bits = bits / 2 ^ 96

-- a group of sixteen bits, with 16 k bits below it
abbrev pub group : ℕ → ℕ → ℕ
group k bits = bits / 2 ^ (16 * k) % 65536

-- the last hexadecimal digit, in lower case
abbrev pub last_digit : ℕ → List ℕ
last_digit n = digit_glyph false (n % 16) ∷ []

-- hexadecimal, in lower case, without leading zeros
unfoldable pub group_text : ℕ → ℕ → List ℕ
group_text k bits = digits 16 false (group k bits)

-- the lowest four groups, with colons between
unfoldable pub four_groups : ℕ → List ℕ
four_groups bits = group_text 3 bits ++ codes ":" ++ group_text 2 bits ++ codes ":" ++ group_text 1 bits ++ codes ":" ++ group_text 0 bits

-- the upper three of four groups, with five groups of 0 behind them
unfoldable pub three_groups : ℕ → List ℕ
three_groups bits = group_text 3 bits ++ codes ":" ++ group_text 2 bits ++ codes ":" ++ group_text 1 bits ++ codes ":0:0:0:0:0"

-- eight groups with colons between, the high sixteen bits first, and none left out (RFC 4291 section 2.2)
unfoldable pub grouped : ℕ → List ℕ
grouped bits = four_groups (bits / 2 ^ 64) ++ codes ":" ++ four_groups bits

-- an address of the family with these bits, left aligned
abbrev pub bits_text : Family → ℕ → List ℕ
bits_text V4 bits = dotted (leading bits)
bits_text V6 bits = grouped bits

abbrev pub address_text : IpAddress → List ℕ
address_text a = bits_text a.family a.bits

unfoldable pub prefix_text : IpPrefix → List ℕ
prefix_text p = bits_text p.family p.bits ++ codes "/" ++ decimal p.len

-- texts with a mark in front of each but the first
abbrev pub with_commas : (ℕ → List ℕ) → List ℕ → List ℕ
with_commas text [] = []
with_commas text (n ∷ ns) = text n ++ flat_map (λ m. codes "," ++ text m) ns

abbrev pub numbers_text : List ℕ → List ℕ
numbers_text ns = with_commas decimal ns

-- a community: its upper and its lower sixteen bits (RFC 1997)
unfoldable pub community_text : ℕ → List ℕ
community_text n = decimal (n / 65536) ++ codes ":" ++ decimal (n % 65536)

-- an AS_SEQUENCE as its numbers, an AS_SET in braces
unfoldable pub segment_text : PathSegment → List ℕ
segment_text s = if s.is_set then codes "{" ++ numbers_text s.numbers ++ codes "}" else numbers_text s.numbers

-- `-`, or the segments with semicolons between
unfoldable pub path_text : List PathSegment → List ℕ
path_text [] = codes "-"
path_text (s ∷ path) = segment_text s ++ flat_map (λ t. codes ";" ++ segment_text t) path

abbrev pub origin_word : ℕ → List ℕ
origin_word origin = if origin == 0 then codes "igp" else (if origin == 1 then codes "egp" else codes "incomplete")

abbrev pub where_present : {T : Type 0} → (T → List ℕ) → Option T → List ℕ
where_present text None = []
where_present text (Some x) = text x

abbrev pub where_some : (List ℕ → List ℕ) → List ℕ → List ℕ
where_some text [] = []
where_some text (n ∷ ns) = text (n ∷ ns)

-- what every path has
unfoldable pub required_text : Attributes → List ℕ
required_text a = codes " nh=" ++ address_text a.next_hop ++ codes " origin=" ++ origin_word a.origin ++ codes " as=" ++ path_text a.path

-- what a path may have, each where it is present
unfoldable pub numbers_where_present : Attributes → List ℕ
numbers_where_present a =
    where_present (λ n. codes " med=" ++ decimal n) a.med ++ where_present (λ n. codes " lp=" ++ decimal n) a.local_pref ++ (if a.atomic then codes " atomic" else [])

unfoldable pub lists_where_present : Attributes → List ℕ
lists_where_present a =
    where_present (λ (g : Aggregator). codes " agg=" ++ decimal g.asn ++ codes ":" ++ address_text g.addr) a.aggregator
    ++ where_some (λ ns. codes " comm=" ++ with_commas community_text ns) a.communities
    ++ where_present (λ r. codes " originator=" ++ address_text r) a.originator
    ++ where_some (λ ns. codes " clusters=" ++ with_commas dotted ns) a.clusters

-- the attributes of a path, each behind a space
unfoldable pub attributes_text : Attributes → List ℕ
attributes_text a = required_text a ++ numbers_where_present a ++ lists_where_present a
