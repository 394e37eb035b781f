-- Numbers as text.
use Rattle.std.specs.Prelude.{ℕ, ◌+◌, ◌-◌, ◌*◌, nat_lt, nat_le, Bool, ◌&&◌, List, [], ◌∷◌, length, Option, Some, None, if◌then◌else◌}
use Rattle.ug_text.specs.Cutting.{◌>>=◌, cut_at}

-- what a digit stands for: 0 to 9, and in hexadecimal a to f too, in either case
abbrev pub decimal_digit : ℕ → Option ℕ
decimal_digit b = if nat_le 48 b && nat_le b 57 then Some (b - 48) else None

abbrev pub hexadecimal_digit : ℕ → Option ℕ
hexadecimal_digit b =
    if nat_le 48 b && nat_le b 57 then Some (b - 48)
    else if nat_le 97 b && nat_le b 102 then Some (b - 87)
    else if nat_le 65 b && nat_le b 70 then Some (b - 55)
    else None

-- the number that digits of a base spell, behind those that spell `value`
unfoldable pub digits_from : (ℕ → Option ℕ) → ℕ → ℕ → List ℕ → Option ℕ
digits_from digit base value [] = Some value
digits_from digit base value (b ∷ bytes) = do
  d ← digit b
  digits_from digit base (value * base + d) bytes

abbrev pub at_most : ℕ → Option ℕ → Option ℕ
at_most most None = None
at_most most (Some n) = if nat_le n most then Some n else None

-- from one digit up to so many
abbrev pub has_digits : ℕ → List ℕ → Bool
has_digits digits text = nat_lt 0 (length text) && nat_le (length text) digits

-- a number of one decimal digit up to so many, and at most so large
abbrev pub number : ℕ → ℕ → List ℕ → Option ℕ
number digits most text = if has_digits digits text then at_most most (digits_from decimal_digit 10 0 text) else None

-- a number of one to ten digits, at most 4294967295
abbrev pub any_number : List ℕ → Option ℕ
any_number text = number 10 4294967295 text

abbrev pub where_positive : ℕ → Option ℕ
where_positive n = if nat_lt 0 n then Some n else None

-- one that isn't 0
abbrev pub positive_number : List ℕ → Option ℕ
positive_number text = any_number text >>= where_positive

-- `A:B`, the upper and the lower sixteen bits of a community (RFC 1997), each of one to five digits
unfoldable pub community : List ℕ → Option ℕ
community text = do
  halves ← cut_at 58 text
  upper ← number 5 65535 halves.0
  lower ← number 5 65535 halves.1
  Some (upper * 65536 + lower)
