-- Subgroups that are level and of one class, and the marks of classes that were met.
use Rattle.std.specs.Prelude.{◌≡◌, ℕ, ◌<◌, ◌%◌, ◌==◌, ◌&&◌, Bool, true, false, List, slice_get, Some, get_or}
use Rattle.ug_group_rules.specs.Machine.{is_level}
use Rattle.ug_groups.specs.declared.entry.Entry.{Entry}
use Rattle.ug_groups.specs.Entries.{bare}

-- the mark of the class is set
abbrev pub is_marked : List Bool → ℕ → Bool
is_marked marks class = get_or marks (class % 256) false

abbrev pub is_level_of : ℕ → Entry → Bool
is_level_of class e = is_level (bare e).sub && (e.class == class)

-- of the first so many, each that is level has its mark
abbrev pub AreMarked : ℕ → List (ℕ × Entry) → List Bool → Type 0
AreMarked to rows marks = (j : ℕ) (r : ℕ × Entry) → j < to → slice_get rows j ≡ Some r → is_level (bare r.1).sub ≡ true → is_marked marks r.1.class ≡ true

-- of the first so many, none is level and of the class
abbrev pub IsUnlike : ℕ → List (ℕ × Entry) → ℕ → Type 0
IsUnlike to rows class = (j : ℕ) (r : ℕ × Entry) → j < to → slice_get rows j ≡ Some r → is_level_of class r.1 ≡ false

-- of the first so many, no two are level and of one class
abbrev pub AreUnlike : ℕ → List (ℕ × Entry) → Type 0
AreUnlike to rows = (j : ℕ) (r : ℕ × Entry) → j < to → slice_get rows j ≡ Some r → is_level (bare r.1).sub ≡ true → IsUnlike j rows r.1.class
