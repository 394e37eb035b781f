-- Lists of numbers, AS paths and origins as texts that are read.
use Rattle.std.specs.Prelude.{ℕ, ◌-◌, nat_le, Bool, true, false, ◌&&◌, ◌==◌, List, [], length, slice_index, slice_range, Option, Some, None, codes, if◌then◌else◌}
use Rattle.ug_types.specs.Attributes.{PathSegment}
use Rattle.ug_types.specs.Bytes.{same_bytes}
use Rattle.ug_text.specs.declared.list_reader.Spelled.{Spelled}
use Rattle.ug_text.specs.declared.list_reader.Spelled.TheVariants.{Plain, Community, Address}
use Rattle.ug_text.specs.Cutting.{pieces, each}
use Rattle.ug_text.specs.Numbers.{any_number, community}
use Rattle.ug_text.specs.Addresses.{ipv4_number}

-- a number as it is spelled in a list
abbrev pub number_as : Spelled → List ℕ → Option ℕ
number_as Plain text = any_number text
number_as Community text = community text
number_as Address text = ipv4_number text

-- numbers with commas between
abbrev pub numbers_as : Spelled → List ℕ → Option (List ℕ)
numbers_as spelled text = each (number_as spelled) (pieces 44 text)

abbrev pub is_in_braces : List ℕ → Bool
is_in_braces text = nat_le 2 (length text) && (slice_index text 0 == 123) && (slice_index text (length text - 1) == 125)

abbrev pub segment_from : Bool → Option (List ℕ) → Option PathSegment
segment_from is_set None = None
segment_from is_set (Some numbers) = Some (record { is_set = is_set; numbers = numbers })

-- numbers in braces are an AS_SET, and numbers alone an AS_SEQUENCE
unfoldable pub segment : List ℕ → Option PathSegment
segment text =
    if is_in_braces text then segment_from true (numbers_as Plain (slice_range text 1 (length text - 1))) else segment_from false (numbers_as Plain text)

-- `-` is the empty path; else segments with semicolons between
unfoldable pub path : List ℕ → Option (List PathSegment)
path text = if same_bytes text (codes "-") then Some [] else each segment (pieces 59 text)

-- 0 IGP, 1 EGP, 2 INCOMPLETE
abbrev pub origin : List ℕ → Option ℕ
origin text =
    if same_bytes text (codes "igp") then Some 0 else (if same_bytes text (codes "egp") then Some 1 else (if same_bytes text (codes "incomplete") then Some 2 else None))
