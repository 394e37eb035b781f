-- How much a route map may add, and what stands first in AS_PATH.
use Rattle.std.specs.Prelude.{◌≡◌, ℕ, true, List, [], ◌∷◌, Option, Some, None}
use Rattle.ug_types.specs.Attributes.{PathSegment}
use Rattle.ug_policy.specs.Named.{value_named}
use Rattle.ug_policy.specs.Rules.{MapRule}
use Rattle.ug_policy.specs.Refusals.{has_few_sets}
use Rattle.ug_policy.specs.NamedMaps.{NamedMap}

abbrev pub FewSets : Option (List MapRule) → Type 0
FewSets None = Unit {0}
FewSets (Some rules) = has_few_sets rules ≡ true

-- the map of that name, where there is one, prepends few numbers and names few communities, as every route map does
abbrev pub SetsFew : List NamedMap → Option (List ℕ) → Type 0
SetsFew maps None = Unit {0}
SetsFew maps (Some name) = FewSets (value_named maps name)

abbrev pub first_of : List ℕ → Option ℕ
first_of [] = None
first_of (n ∷ ns) = Some n

-- the AS number that stands first in a path
abbrev pub first_number : List PathSegment → Option ℕ
first_number [] = None
first_number (s ∷ path) = first_of s.numbers
