-- What stands for a text that is kept in few bytes.
use Rattle.std.specs.Prelude.{◌≡◌, ◌++◌, ℕ, ◌+◌, ◌-◌, ◌/◌, ◌%◌, ◌==◌, nat_lt, Bool, List, [], ◌∷◌, if◌then◌else◌, codes}
use Rattle.std.specs.List.{flat_map}
use Rattle.ug_pieces.specs.declared.piece.Piece.{Piece}
use Rattle.ug_pieces.specs.declared.short.Part.{Part}

-- the words that a code of its own stands for
abbrev pub word_text : ℕ → List ℕ
word_text c =
    if c == 248 then codes "climb "
    else if c == 249 then codes "\nclimb "
    else if c == 250 then codes " id=0 "
    else if c == 251 then codes " id="
    else if c == 252 then codes ".0/"
    else if c == 253 then codes "0/24 id=0 "
    else if c == 254 then codes ".0/24 id=0 "
    else c ∷ []

-- What a byte stands for: one of ASCII for itself, the next hundred for two digits, ten for a digit and a dot, ten for a digit
-- and an at sign, and some for words.
unfoldable pub code_text : ℕ → List ℕ
code_text c =
    if nat_lt c 128 then c ∷ []
    else if nat_lt c 228 then (48 + (c - 128) / 10) ∷ (48 + (c - 128) % 10) ∷ []
    else if nat_lt c 238 then (c - 180) ∷ 46 ∷ []
    else if nat_lt c 248 then (c - 190) ∷ 64 ∷ []
    else word_text c

-- what bytes stand for
abbrev pub codes_text : List ℕ → List ℕ
codes_text cs = flat_map code_text cs

-- what bytes that may be short stand for
abbrev pub bytes_text : Bool → List ℕ → List ℕ
bytes_text is_short bytes = if is_short then codes_text bytes else bytes

abbrev pub piece_text : Piece → List ℕ
piece_text p = bytes_text p.is_short p.bytes.items

abbrev pub pieces_text : List Piece → List ℕ
pieces_text ps = flat_map piece_text ps

abbrev pub part_text : Part → List ℕ
part_text p = pieces_text p.pieces.items

-- The text begins with what the byte stands for.
pub record IsFirst (c : ℕ) (text : List ℕ) : Type 0 where
  pub rest : List ℕ
  pub parts : text ≡ code_text c ++ rest
