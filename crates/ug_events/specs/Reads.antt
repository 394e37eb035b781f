-- Reading step by step, from left to right: the first that can't be read decides.
use Rattle.std.specs.Prelude.{ℕ, List, [], ◌∷◌, ◌++◌, Option, Some, None, Result, Ok, Err}

-- why a line is refused: a number from 20 to 26, and for 26 the number of the message's own refusal
pub record Refusal : Type 0 where
  pub number : ℕ
  pub inner : Option ℕ

-- what reading gives
abbrev pub Reads : Type 0 → Type 0
Reads A = Result A Refusal

abbrev pub too_long : ℕ
too_long = 20

abbrev pub bad_verb : ℕ
bad_verb = 21

abbrev pub bad_words : ℕ
bad_words = 22

abbrev pub bad_prefix : ℕ
bad_prefix = 23

abbrev pub bad_attribute : ℕ
bad_attribute = 24

abbrev pub bad_name : ℕ
bad_name = 25

abbrev pub bad_message : ℕ
bad_message = 26

abbrev pub refused : {A : Type 0} → ℕ → Reads A
refused number = Err (record { number = number; inner = None })

infixl 10 ◌>>=◌
abbrev pub ◌>>=◌ : {A B : Type 0} → Reads A → (A → Reads B) → Reads B
(Ok x) >>= f = f x
(Err refusal) >>= f = Err refusal

-- what could be read, or else a refusal
abbrev pub or_refused : {A : Type 0} → ℕ → Option A → Reads A
or_refused number (Some x) = Ok x
or_refused number None = refused number

-- a message of the peer's own that is refused
abbrev pub inner_refused : {A : Type 0} → ℕ → Reads A
inner_refused inner = Err (record { number = bad_message; inner = Some inner })

-- each in order
abbrev pub each_read : {X A : Type 0} → (X → Reads A) → List X → Reads (List A)
each_read read [] = Ok []
each_read read (x ∷ xs) = do
  first ← read x
  more ← each_read read xs
  Ok (first ∷ more)

-- behind those that were read the ones that are read then
abbrev pub behind_read : {A : Type 0} → List A → Reads (List A) → Reads (List A)
behind_read given (Ok more) = Ok (given ++ more)
behind_read given (Err refusal) = Err refusal
