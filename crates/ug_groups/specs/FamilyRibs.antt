-- An Adj-RIB-Out of either family.
use Rattle.std.specs.Prelude.{◌≡◌, ℕ, true, List}
use Rattle.std.specs.List.{AllByRecursion, IsDistinct}
use Rattle.std.specs.Ordering.{eq_by_cmp}
use Rattle.ug_adjout.specs.Tables.{has}
use Rattle.ug_pack.specs.Ready.{key_order}
use Rattle.ug_types.specs.declared.key.Key.{Key}
use Rattle.ug_types.specs.declared.family.Family.{Family}
use Rattle.ug_types.specs.declared.family.Family.TheVariants as families
use Rattle.ug_adjout.specs.Pending.{AdjRibOut}
use Rattle.ug_groups.specs.declared.table.Table.{Table}
use Rattle.ug_groups.specs.declared.table.Table.TheVariants.{V4, V6}

pub record FamilyRib : Type 0 where
  pub family : Family
  pub adj : AdjRibOut Key ℕ

abbrev pub rib_of : Table → FamilyRib
rib_of (V4 a) = record { family = families.V4; adj = a }
rib_of (V6 a) = record { family = families.V6; adj = a }

-- the keys wait, each is listed once, and they are of the family
pub record AreDue (o : FamilyRib) (keys : List Key) : Type 0 where
  pub waiting : AllByRecursion (λ (q : Key). has key_order o.adj.pending q ≡ true) keys
  pub own : AllByRecursion (λ (q : Key). q.prefix.family ≡ o.family) keys
  pub once : IsDistinct (eq_by_cmp key_order) keys
