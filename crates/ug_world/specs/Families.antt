-- Rows of one family, and of both.
use Rattle.std.specs.Prelude.{◌≡◌, List, [], ◌∷◌}
use Rattle.std.specs.List.Sorted.{IsStrictlySortedBy}
use Rattle.std.specs.Map.{keys_of}
use Rattle.ug_types.specs.declared.family.Family.{Family}
use Rattle.ug_types.specs.declared.family.Family.TheVariants.{V4, V6}
use Rattle.ug_types.specs.Ip.{IpPrefix}
use Rattle.ug_types.specs.Keys.{prefix_cmp}

-- rows of prefixes of that family
abbrev pub AreOf : {V : Type 0} → Family → List (IpPrefix × V) → Type 0
AreOf family [] = Unit {0}
AreOf family (row ∷ rows) = (row.0.family ≡ family) × AreOf family rows

-- the rows of IPv4 and those of IPv6, each in the order of their prefixes
pub record AreByFamily {V : Type 0} (first second : List (IpPrefix × V)) : Type 0 where
  pub v4 : AreOf V4 first
  pub v6 : AreOf V6 second
  pub v4_ordered : IsStrictlySortedBy prefix_cmp (keys_of first)
  pub v6_ordered : IsStrictlySortedBy prefix_cmp (keys_of second)
