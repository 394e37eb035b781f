-- What is known of the parts where the whole could be read.
use Rattle.std.proofs.Common.{◌≡◌, ℕ, ◌+◌, Bool, true, false, ◌&&◌, List, [], ◌∷◌, Option, Some, None, Ok, Err, refl, ap, subst}
use Rattle.std.specs.List.{list_all}
use Rattle.ug_text.specs.Cutting.{◌>>=◌ as ◌>=>◌}
use Rattle.ug_config.specs.Reads.{Reads, ◌>>=◌, each_table, way_into}

abbrev pub ok : {A : Type 0} → A → Reads A
ok x = Ok x

value_or : {A : Type 0} → A → Reads A → A
value_or d (Ok x) = x
value_or d (Err e) = d

pub ok_is : {A : Type 0} (x y : A) → ok x ≡ ok y → x ≡ y
unfolding value_or
ok_is x y e = ap (value_or x) e

some_or : {A : Type 0} → A → Option A → A
some_or d (Some x) = x
some_or d None = d

pub some_is : {A : Type 0} (x y : A) → Some x ≡ Some y → x ≡ y
unfolding some_or
some_is x y e = ap (some_or x) e

pub bound : {A B : Type 0} (r : Reads A) (f : A → Reads B) (y : B) → (r >>= f) ≡ ok y → (x : A) × (r ≡ ok x) × (f x ≡ ok y)
bound (Ok x) f y h = (x, refl, h)
bound (Err e) f y h = absurd cc

pub bound_option : {A B : Type 0} (o : Option A) (f : A → Option B) (y : B) → (o >=> f) ≡ Some y → (x : A) × (o ≡ Some x) × (f x ≡ Some y)
bound_option (Some x) f y h = (x, refl, h)
bound_option None f y h = absurd cc

pub both : (a b : Bool) → a ≡ true → b ≡ true → (a && b) ≡ true
both true true e f = refl
both true false e f = f
both false b e f = e

pub first_of : (a b : Bool) → (a && b) ≡ true → a ≡ true
first_of true b e = refl
first_of false b e = e

pub second_of : (a b : Bool) → (a && b) ≡ true → b ≡ true
second_of true b e = e
second_of false b e = absurd cc

-- what holds of each table that could be read holds of all
pub all_read : {X A : Type 0} (f : List ℕ → X → Reads A) (p : A → Bool) → ((way : List ℕ) (x : X) (a : A) → f way x ≡ ok a → p a ≡ true)
    → (array : List ℕ) (place : ℕ) (xs : List X) (read : List A) → each_table f array place xs ≡ ok read → list_all p read ≡ true
all_read f p good array place [] read h = subst (λ (r : List _). list_all p r ≡ true) (ok_is [] read h) refl
all_read f p good array place (x ∷ xs) read h =
    let first = bound (f (way_into array place) x) (λ a. each_table f array (place + 1) xs >>= λ more. Ok (a ∷ more)) read h in
    let more = bound (each_table f array (place + 1) xs) (λ more. Ok (first.0 ∷ more)) read first.2 in
    subst (λ (r : List _). list_all p r ≡ true) (ok_is (first.0 ∷ more.0) read more.2)
    (both (p first.0) (list_all p more.0) (good (way_into array place) x first.0 first.1) (all_read f p good array (place + 1) xs more.0 more.1))
