-- What stands at a place of a list, and what comes behind it.
use Rattle.std.proofs.Common.{◌≡◌, ℕ, ◌+◌, List, ◌∷◌, Some, map, drop, ap, ◌∙◌}
use Rattle.std.specs.Prelude.{slice_get}
use Rattle.std.specs.Option.{option_map}
use Rattle.std.proofs.lemmas.List.{drop_more}
use Rattle.std.proofs.lemmas.Option.{slice_get-map, slice_get_within, get_or_from_slice_get}

pub next_is : {A B : Type 0} (f : A → B) (xs : List A) (n : ℕ) (y : B) → option_map f (slice_get xs n) ≡ Some y → drop n (map f xs) ≡ y ∷ drop (n + 1) (map f xs)
next_is {A} {B} f xs n y e =
    let there = slice_get-map f xs n ∙ e in
    drop_more (map f xs) n y (slice_get_within (map f xs) n y there) ∙ ap (λ (z : B). z ∷ drop (n + 1) (map f xs)) (get_or_from_slice_get (map f xs) n y y there)
