-- Keys of paths in the order of their identifiers.
use Rattle.std.proofs.Common.{◌≡◌, ℕ, Bool, true, false, List, [], ◌∷◌, map, refl, sym, ◌∙◌, ap}
use Rattle.std.specs.Prelude.{nat_le, ◌||◌, find, Some, None, if◌then◌else◌}
use Rattle.std.specs.List.{list_any}
use Rattle.ug_types.specs.Ip.{IpPrefix}
use Rattle.ug_types.specs.declared.key.Key.{Key}
use Rattle.ug_types.specs.declared.route.Path.{Path}
use Rattle.ug_types.specs.Keys.{same_key}
use Rattle.ug_message.specs.Tables.{among}
use Rattle.ug_policy.specs.Order.{placed, ascending}
use Rattle.ug_policy.proofs.Sorting.{ascending_any}
use Rattle.ug_world.specs.Private.{own_keys}

module _ {A B : Type 0} (f : A → B) (number : B → ℕ) where
  abbrev own : A → ℕ
  own a = number (f a)

  placed_alike : (x : A) (ys : List A) → placed number (f x) (map f ys) ≡ map f (placed own x ys)
  placed_alike x [] = refl
  placed_alike x (y ∷ ys) = by (nat_le (own x) (own y)) (placed_alike x ys)
    where
      by : (b : Bool) → placed number (f x) (map f ys) ≡ map f (placed own x ys)
          → (if b then f x ∷ f y ∷ map f ys else f y ∷ placed number (f x) (map f ys)) ≡ map f (if b then x ∷ y ∷ ys else y ∷ placed own x ys)
      by true e = refl
      by false e = ap (λ zs. f y ∷ zs) e

  ascending_alike : (xs : List A) → ascending number (map f xs) ≡ map f (ascending own xs)
  ascending_alike [] = refl
  ascending_alike (x ∷ xs) = ap (placed number (f x)) (ascending_alike xs) ∙ placed_alike x (ascending own xs)

-- keys sorted are the keys of paths sorted
pub ascending_keys : (prefix : IpPrefix) (paths : List Path) → ascending (λ (key : Key). key.id) (own_keys prefix paths) ≡ own_keys prefix (ascending (λ (path : Path). path.id) paths)
ascending_keys prefix paths = ascending_alike (λ (path : Path). record { prefix = prefix; id = path.id }) (λ (key : Key). key.id) paths

-- ---- what is found among them

module _ {T : Type 0} (p : T → Bool) where
  none_any : (xs : List T) → find p xs ≡ None → list_any p xs ≡ false
  none_any [] e = refl
  none_any (x ∷ xs) e = by (p x) e (none_any xs)
    where
      by : (b : Bool) → (if b then Some x else find p xs) ≡ None → (find p xs ≡ None → list_any p xs ≡ false) → (b || list_any p xs) ≡ false
      by true e more = absurd cc
      by false e more = more e

  any_none : (xs : List T) → list_any p xs ≡ false → find p xs ≡ None
  any_none [] e = refl
  any_none (x ∷ xs) e = by (p x) e (any_none xs)
    where
      by : (b : Bool) → (b || list_any p xs) ≡ false → (list_any p xs ≡ false → find p xs ≡ None) → (if b then Some x else find p xs) ≡ None
      by true e more = absurd cc
      by false e more = more e

  -- what isn't found in order isn't found at all
  pub ascending_none : (number : T → ℕ) (xs : List T) → find p (ascending number xs) ≡ None → find p xs ≡ None
  ascending_none number xs e = any_none xs (sym (ascending_any number p xs) ∙ none_any (ascending number xs) e)

-- keys in order are the same keys
pub among_ascending : (prefix : IpPrefix) (paths : List Path) (key : Key) → among (own_keys prefix (ascending (λ (path : Path). path.id) paths)) key ≡ among (own_keys prefix paths) key
among_ascending prefix paths key = ap (λ (ks : List Key). among ks key) (sym (ascending_keys prefix paths)) ∙ ascending_any (λ (key : Key). key.id) (same_key key) (own_keys prefix paths)
