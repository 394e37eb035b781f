-- AS_PATH as it is edited on its way out (RFC 4271 section 5.1.2, RFC 6996).
use Rattle.std.specs.Prelude.{◌≡◌, ℕ, nat_lt, nat_le, ◌==◌, Bool, true, false, ◌&&◌, ◌||◌, not, List, [], ◌∷◌, length, map, filter, if◌then◌else◌}
use Rattle.std.specs.List.{list_all}
use Rattle.ug_types.specs.Attributes.{PathSegment, is_segment}

-- numbers for private use (RFC 6996 section 5)
abbrev pub is_private : ℕ → Bool
is_private n = (nat_le 64512 n && nat_le n 65534) || (nat_le 4200000000 n && nat_le n 4294967294)

abbrev pub with_numbers : (List ℕ → List ℕ) → PathSegment → PathSegment
with_numbers edit s = record { is_set = s.is_set; numbers = edit s.numbers }

abbrev pub public_numbers : List ℕ → List ℕ
public_numbers ns = filter (λ n. not (is_private n)) ns

abbrev pub has_numbers : PathSegment → Bool
has_numbers s = nat_lt 0 (length s.numbers)

-- The path without private numbers, nor segments of which nothing is left. That each private number goes, and
-- not only where all are private, is this project's profile.
abbrev pub without_private : List PathSegment → List PathSegment
without_private path = filter has_numbers (map (with_numbers public_numbers) path)

-- the new number where the number is the old one
abbrev pub in_place_of : ℕ → ℕ → ℕ → ℕ
in_place_of old new n = if n == old then new else n

abbrev pub replaced : ℕ → ℕ → List ℕ → List ℕ
replaced old new ns = map (in_place_of old new) ns

-- the path with a new number in the place of each old one, wherever it stands
abbrev pub overridden : ℕ → ℕ → List PathSegment → List PathSegment
overridden old new path = map (with_numbers (replaced old new)) path

abbrev pub sequence : List ℕ → PathSegment
sequence ns = record { is_set = false; numbers = ns }

-- the first segment is an AS_SEQUENCE that takes one number more
abbrev pub begins_with_room : List PathSegment → Bool
begins_with_room [] = false
begins_with_room (s ∷ path) = not s.is_set && nat_lt (length s.numbers) 255

-- The path with a number in front: in the first segment where that is an AS_SEQUENCE with room, else in a new one
-- (RFC 4271 section 5.1.2).
abbrev pub prepended : ℕ → List PathSegment → List PathSegment
prepended asn [] = sequence (asn ∷ []) ∷ []
prepended asn (s ∷ path) = if begins_with_room (s ∷ path) then sequence (asn ∷ s.numbers) ∷ path else sequence (asn ∷ []) ∷ s ∷ path

-- each segment has the 1 to 255 numbers that it can be written with
abbrev pub AreSegments : List PathSegment → Type 0
AreSegments path = list_all is_segment path ≡ true
