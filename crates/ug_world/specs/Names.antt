-- Things by name: that no two have one name, and the change of one.
use Rattle.std.specs.Prelude.{ℕ, Bool, true, ◌&&◌, not, List, [], ◌∷◌, if◌then◌else◌}
use Rattle.std.specs.List.{list_any}
use Rattle.ug_types.specs.Bytes.{same_bytes}

abbrev pub is_name_among : List (List ℕ) → List ℕ → Bool
is_name_among names name = list_any (λ (n : List ℕ). same_bytes n name) names

-- no name stands twice
abbrev pub are_distinct : List (List ℕ) → Bool
are_distinct [] = true
are_distinct (n ∷ names) = not (is_name_among names n) && are_distinct names

-- changed, where it has that name
abbrev pub where_named : {T : Type 0} → (T → List ℕ) → List ℕ → (T → T) → T → T
where_named name_of name change x = if same_bytes (name_of x) name then change x else x
