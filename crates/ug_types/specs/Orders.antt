-- How values are ordered: by one part after the other, in the order in which they are declared. Lists are ordered
-- as words in a dictionary.
use Rattle.std.specs.Prelude.{ℕ, List}
use Rattle.std.specs.declared.cmp.Ordering.{Ordering}
use Rattle.std.specs.Ordering.{nat_cmp, ordering_then}
use Rattle.std.specs.Cmp.Lexicographic.{slice_cmp}
use Rattle.std.specs.Cmp.{IsTotalOrder, then_total, on_total, nat_cmp_total}
use Rattle.ug_types.specs.declared.key.Key.{Key}
use Rattle.ug_types.specs.Keys.{prefix_cmp, prefix_cmp_total}

-- keys order by prefix, and then by identifier
abbrev pub key_cmp : Key → Key → Ordering
key_cmp a b = ordering_then (prefix_cmp a.prefix b.prefix) (nat_cmp a.id b.id)

pub key_cmp_total : IsTotalOrder key_cmp
key_cmp_total = then_total (on_total (λ (k : Key). k.prefix) prefix_cmp_total) (on_total (λ (k : Key). k.id) nat_cmp_total)

-- names order as the lists of their bytes
abbrev pub name_cmp : List ℕ → List ℕ → Ordering
name_cmp = slice_cmp nat_cmp
