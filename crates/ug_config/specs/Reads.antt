-- Reading a configuration step by step: the first fault decides.
use Rattle.std.specs.Prelude.{ℕ, ◌+◌, List, [], ◌∷◌, ◌++◌, Option, Some, None, Result, Ok, Err, codes}
use Rattle.std.specs.Fmt.{decimal}

-- why a configuration is refused: a number from 1 to 9, and the way to the field
pub record Refusal : Type 0 where
  pub number : ℕ
  pub field : List ℕ

-- what reading gives
abbrev pub Reads : Type 0 → Type 0
Reads A = Result A Refusal

abbrev pub no_document : ℕ
no_document = 1

abbrev pub missing : ℕ
missing = 2

abbrev pub malformed : ℕ
malformed = 3

abbrev pub unknown_field : ℕ
unknown_field = 4

abbrev pub refused : {A : Type 0} → ℕ → List ℕ → Reads A
refused number field = Err (record { number = number; field = field })

infixl 10 ◌>>=◌
abbrev pub ◌>>=◌ : {A B : Type 0} → Reads A → (A → Reads B) → Reads B
(Ok x) >>= f = f x
(Err refusal) >>= f = Err refusal

-- what could be read, or else a refusal
abbrev pub or_refused : {A : Type 0} → ℕ → List ℕ → Option A → Reads A
or_refused number field (Some x) = Ok x
or_refused number field None = refused number field

-- each in order
abbrev pub each_read : {X A : Type 0} → (X → Reads A) → List X → Reads (List A)
each_read read [] = Ok []
each_read read (x ∷ xs) = do
  first ← read x
  more ← each_read read xs
  Ok (first ∷ more)

-- the way into the table at a place of an array
abbrev pub way_into : List ℕ → ℕ → List ℕ
way_into array place = array ++ codes "." ++ decimal place ++ codes "."

-- the tables of an array in order, from a place on
abbrev pub each_table : {X A : Type 0} → (List ℕ → X → Reads A) → List ℕ → ℕ → List X → Reads (List A)
each_table read array place [] = Ok []
each_table read array place (x ∷ xs) = do
  first ← read (way_into array place) x
  more ← each_table read array (place + 1) xs
  Ok (first ∷ more)

-- behind those that were read the ones that are read then
abbrev pub behind_read : {A : Type 0} → List A → Reads (List A) → Reads (List A)
behind_read given (Ok more) = Ok (given ++ more)
behind_read given (Err refusal) = Err refusal

abbrev pub fault_of : {A : Type 0} → Reads A → Option Refusal
fault_of (Ok x) = None
fault_of (Err refusal) = Some refusal
