-- What stands in a list in which the thing at one place is another.
use Rattle.std.proofs.Common.{◌≡◌, ℕ, suc, zero, List, [], ◌∷◌, slice_get, Option, Some, refl, ap}
use Rattle.std.specs.Option.{option_map}
use Rattle.ug_speaker.specs.Places.{change_at}

pub changed-here : {T : Type 0} (change : T → T) (p : ℕ) (xs : List T) → slice_get (change_at change p xs) p ≡ option_map change (slice_get xs p)
changed-here change p [] = refl
changed-here change zero (x ∷ xs) = refl
changed-here change (suc p) (x ∷ xs) = changed-here change p xs

pub changed-there : {T : Type 0} (change : T → T) (p q : ℕ) (xs : List T) → (q ≡ p → ⊥) → slice_get (change_at change p xs) q ≡ slice_get xs q
changed-there change p q [] apart = refl
changed-there change zero zero (x ∷ xs) apart = absurd (apart refl)
changed-there change zero (suc q) (x ∷ xs) apart = refl
changed-there change (suc p) zero (x ∷ xs) apart = refl
changed-there change (suc p) (suc q) (x ∷ xs) apart = changed-there change p q xs (λ e. apart (ap suc e))

-- what a seat keeps through a change that keeps it, every seat keeps
pub changed-keeps : {T X : Type 0} (shown : Option T → X) (change : T → T) (p q : ℕ) (xs : List T) → ((x : T) → shown (Some (change x)) ≡ shown (Some x)) → shown (slice_get (change_at change p xs) q) ≡ shown (slice_get xs q)
changed-keeps shown change p q [] keeps = refl
changed-keeps shown change zero zero (x ∷ xs) keeps = keeps x
changed-keeps shown change zero (suc q) (x ∷ xs) keeps = refl
changed-keeps shown change (suc p) zero (x ∷ xs) keeps = refl
changed-keeps shown change (suc p) (suc q) (x ∷ xs) keeps = changed-keeps shown change p q xs keeps
