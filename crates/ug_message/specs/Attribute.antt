-- A path attribute as such: its flags, its type, the length of its value, and the value (RFC 4271 section 4.3).
use Rattle.std.specs.Prelude.{ℕ, ◌+◌, nat_lt, Bool, ◌==◌, not, bit_and, List, ◌∷◌, ◌++◌, length, take, drop, slice_index, Result, Ok, Err, if◌then◌else◌}
use Rattle.std.specs.Int.{w16, to_be_bytes}
use Rattle.byteorder.specs.Endian.{big_number}

-- ---- its flags, of which the lower four bits say nothing but for the length

-- every router has to know it
abbrev pub well_known : ℕ
well_known = 64

-- a router may not know it, and then doesn't pass it on
abbrev pub optional : ℕ
optional = 128

-- a router may not know it, and passes it on all the same
abbrev pub optional_transitive : ℕ
optional_transitive = 192

-- set by a router that passed it on without knowing it
abbrev pub partial : ℕ
partial = 32

-- the length of the value has two bytes, and else one
abbrev pub extended : ℕ
extended = 16

-- a flag is set
abbrev pub has : ℕ → ℕ → Bool
has flags flag = not (bit_and flags flag == 0)

-- ---- as it is spelled

-- The length has two bytes, and the flags say so, exactly where the value has over 255 bytes.
unfoldable pub attribute : ℕ → ℕ → List ℕ → List ℕ
attribute flags type value =
    if nat_lt 255 (length value) then (flags + extended) ∷ type ∷ (to_be_bytes w16 (length value) ++ value) else flags ∷ type ∷ length value ∷ value

-- ---- as it is read

-- an attribute as it stands in a message: the place of its value is counted from the first byte of all attributes
pub record Attribute : Type 0 where
  pub flags : ℕ
  pub type : ℕ
  pub place : ℕ
  pub value : List ℕ

abbrev pub is_extended : List ℕ → Bool
is_extended bytes = has (slice_index bytes 0) extended

abbrev pub head_size : List ℕ → ℕ
head_size bytes = if is_extended bytes then 4 else 3

abbrev pub value_size : List ℕ → ℕ
value_size bytes = if is_extended bytes then big_number 2 (drop 2 bytes) else slice_index bytes 2

-- 1: the head or the value passes the end
unfoldable pub attribute_at : ℕ → List ℕ → Result Attribute ℕ
attribute_at place bytes =
    if nat_lt (length bytes) (head_size bytes) then Err 1
    else if nat_lt (length bytes) (head_size bytes + value_size bytes) then Err 1
    else Ok (record { flags = slice_index bytes 0; type = slice_index bytes 1; place = place + head_size bytes; value = take (value_size bytes) (drop (head_size bytes) bytes) })
