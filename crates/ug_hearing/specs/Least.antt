-- The lesser of two keys.
use Rattle.std.specs.Prelude.{◌≡◌, ◌≢◌, ◌⊎◌, true, List, [], Option, Some, None}
use Rattle.std.specs.declared.cmp.Ordering.TheVariants.{Greater}
use Rattle.ug_types.specs.declared.key.Key.{Key}
use Rattle.ug_types.specs.Orders.{key_cmp}
use Rattle.ug_message.specs.Tables.{among}

-- No key that is there is less than this.
abbrev pub IsUpTo : Key → Option Key → Type 0
IsUpTo k None = Unit {0}
IsUpTo k (Some q) = key_cmp k q ≢ Greater

abbrev pub IsLesser : Option Key → Option Key → Option Key → Type 0
IsLesser one other None = (one ≡ None) × (other ≡ None)
IsLesser one other (Some k) = ((one ≡ Some k) ⊎ (other ≡ Some k)) × IsUpTo k one × IsUpTo k other

-- The least of these keys, or none where there is none.
abbrev pub IsLeastOf : List Key → Option Key → Type 0
IsLeastOf keys None = keys ≡ []
IsLeastOf keys (Some k) = (among keys k ≡ true) × ((q : Key) → among keys q ≡ true → key_cmp k q ≢ Greater)
