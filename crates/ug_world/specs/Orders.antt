-- The order of prefixes, as a walk over them sees it.
use Rattle.std.specs.Prelude.{Option, Some, None}
use Rattle.std.specs.declared.cmp.Ordering.{Ordering}
use Rattle.std.specs.BTreeMap.Range.{IsLtBy, IsLeBy}
use Rattle.ug_types.specs.Ip.{IpPrefix}
use Rattle.ug_types.specs.Keys.{prefix_cmp}

-- a key that stands after another, or after none
abbrev pub IsAfterBy : {K : Type 0} → (K → K → Ordering) → Option K → K → Type 0
IsAfterBy cmp None q = Unit {0}
IsAfterBy cmp (Some k) q = IsLtBy cmp k q

abbrev pub IsAfter : Option IpPrefix → IpPrefix → Type 0
IsAfter from q = IsAfterBy prefix_cmp from q

-- a prefix does not stand after the other
abbrev pub IsNotAfter : IpPrefix → IpPrefix → Type 0
IsNotAfter p q = IsLeBy prefix_cmp p q
