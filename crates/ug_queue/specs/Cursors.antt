-- A list of members by rising number, each with its cursor.
use Rattle.std.specs.Prelude.{ℕ, suc, cond, nat_lt, List, [], ◌∷◌}

-- how many stand before the place of the member
abbrev pub lower_count : List (ℕ × ℕ) → ℕ → ℕ
lower_count [] m = 0
lower_count (e ∷ es) m = cond (nat_lt e.0 m) (suc (lower_count es m)) 0
