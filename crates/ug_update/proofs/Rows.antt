-- The kind that the rows of a table have for a type, where one row more stands below the others.
use Rattle.std.proofs.Common.{◌≡◌, ℕ, ◌==◌, Bool, true, false, List, [], ◌∷◌, ◌++◌, Option, Some, None, refl, ap, ◌∙◌, arith}
use Rattle.std.specs.Prelude.{if◌then◌else◌, is_some}
use Rattle.std.proofs.lemmas.Bool.Decides.{nat_tests}
use Rattle.ug_message.specs.Kind.{Kind, kind_among}

-- what the others have, or the last row
abbrev or_last : Option Kind → Kind → ℕ → Option Kind
or_last (Some found) last type = Some found
or_last None last type = if last.type == type then Some last else None

first_by : (b : Bool) (row last : Kind) (type : ℕ) (found others : Option Kind) → others ≡ or_last found last type → (if b then Some row else others) ≡ or_last (if b then Some row else found) last type
first_by true row last type found others e = refl
first_by false row last type found others e = e

among_last : (rows : List Kind) (last : Kind) (type : ℕ) → kind_among (rows ++ last ∷ []) type ≡ or_last (kind_among rows type) last type
among_last [] last type = refl
among_last (row ∷ rows) last type = first_by (row.type == type) row last type (kind_among rows type) (kind_among (rows ++ last ∷ []) type) (among_last rows last type)

above_by : (found : Option Kind) (last : Kind) (type : ℕ) → is_some found ≡ true → or_last found last type ≡ found
above_by None last type e = absurd cc
above_by (Some kind) last type e = refl

-- the others have it
pub above : (rows : List Kind) (last : Kind) (type : ℕ) → is_some (kind_among rows type) ≡ true → kind_among (rows ++ last ∷ []) type ≡ kind_among rows type
above rows last type e = among_last rows last type ∙ above_by (kind_among rows type) last type e

same_type : (n type : ℕ) → n ≡ type → (n == type) ≡ true
same_type n type e = grind (arith, nat_tests)

other_type : (n type : ℕ) → (n ≡ type → ⊥) → (n == type) ≡ false
other_type n type e = grind (arith, nat_tests)

last_by : (found : Option Kind) (last : Kind) (type : ℕ) (b : Bool) → is_some found ≡ false → (last.type == type) ≡ b → or_last found last type ≡ (if b then Some last else None)
last_by None last type b e is = ap (λ (x : Bool). if x then Some last else None) is
last_by (Some kind) last type b e is = absurd cc

-- the last row is it
pub last : (rows : List Kind) (row : Kind) (type : ℕ) → is_some (kind_among rows type) ≡ false → row.type ≡ type → kind_among (rows ++ row ∷ []) type ≡ Some row
last rows row type e is = among_last rows row type ∙ last_by (kind_among rows type) row type true e (same_type row.type type is)

-- none of them is it
pub none : (rows : List Kind) (row : Kind) (type : ℕ) → is_some (kind_among rows type) ≡ false → (row.type ≡ type → ⊥) → kind_among (rows ++ row ∷ []) type ≡ None
none rows row type e is = among_last rows row type ∙ last_by (kind_among rows type) row type false e (other_type row.type type is)

pub there : (found : Option Kind) → (found ≡ None → ⊥) → is_some found ≡ true
there None e = absurd (e refl)
there (Some kind) e = refl

pub ruleset row_steps = (above, last, none, there)
