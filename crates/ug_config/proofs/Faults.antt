-- The first fault of some.
use Rattle.std.proofs.Common.{◌≡◌, ℕ, ◌+◌, List, ◌∷◌, Option, Some, None, refl}
use Rattle.std.specs.Option.{option_or}
use Rattle.ug_config.specs.declared.refusals.ConfigRefusal.{ConfigRefusal}
use Rattle.ug_config.specs.declared.refusals.ConfigRefusal.TheVariants as refusals
use Rattle.ug_config.specs.Reads.{Refusal}
use Rattle.ug_config.specs.Gives.{Tells}
use Rattle.ug_config.specs.Checks.{first_fault}

-- a fault that comes first is the fault
pub none_first : (e : ConfigRefusal) (a b : Option Refusal) → Tells e a → Tells e (option_or a b)
none_first refusals.NoMemory a b h = tt
none_first (refusals.Refused number field) None b h = absurd cc
none_first (refusals.Refused number field) (Some r) b h = h

-- where there is none at a place, the later places decide
pub passed : {A : Type 0} (fault : ℕ → A → Option Refusal) (place : ℕ) (x : A) (xs : List A) → fault place x ≡ None → first_fault fault (place + 1) xs ≡ first_fault fault place (x ∷ xs)
passed fault place x xs e = rw e refl

pub told_first : {A : Type 0} (fault : ℕ → A → Option Refusal) (place : ℕ) (x : A) (xs : List A) (e : ConfigRefusal) (whole : Option Refusal) → first_fault fault place (x ∷ xs) ≡ whole → Tells e (fault place x) → Tells e whole
told_first fault place x xs e whole same h = rw same at (none_first e (fault place x) (first_fault fault (place + 1) xs) h)
