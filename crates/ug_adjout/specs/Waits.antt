-- The keys that wait for a packet, by their places in the list.
use Rattle.std.specs.Prelude.{ℕ, nat_eq, nat_le, List, [], ◌∷◌, map, Option, Some, None}
use Rattle.std.specs.Option.{option_eq}
use Rattle.std.specs.List.{filter}
use Rattle.ug_adjout.specs.declared.waiting.Waiting.{Waiting}

module _ {K : Type 0} where
  abbrev pub waiting_keys : List (ℕ × Waiting K) → List K
  waiting_keys es = map (λ e. e.1.key) es

  -- the keys that wait for this value, or for their withdrawal
  abbrev pub keys_for : Option ℕ → List (ℕ × Waiting K) → List K
  keys_for value es = waiting_keys (filter (λ e. option_eq nat_eq e.1.value value) es)

  -- what waits from this place on
  abbrev pub from_place : ℕ → List (ℕ × Waiting K) → List (ℕ × Waiting K)
  from_place place es = filter (λ e. nat_le place e.0) es

abbrev pub value_or : Option ℕ → Option ℕ → Option ℕ
value_or None other = other
value_or (Some v) other = Some v

-- the value of the first announcement
abbrev pub first_announced : {K : Type 0} → List (ℕ × Waiting K) → Option ℕ
first_announced [] = None
first_announced (e ∷ es) = value_or e.1.value (first_announced es)
