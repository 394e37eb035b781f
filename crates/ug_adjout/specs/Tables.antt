-- A table is the list of its rows in key order, and `cmp` is the order of its keys. Two keys that it calls equal are one.
use Rattle.std.specs.Prelude.{Bool, not, List, Option, Some, None}
use Rattle.std.specs.List.{filter, list_any}
use Rattle.std.specs.List.Sorted.{IsStrictlySortedBy}
use Rattle.std.specs.Map.{lookup, remove_entry, keys_of}
use Rattle.std.specs.BTreeMap.{insert_entry, is_at}
use Rattle.std.specs.BTreeSet.{insert_key}
use Rattle.std.specs.List.{fold}
use Rattle.std.specs.Ordering.{is_lt}
use Rattle.std.specs.declared.cmp.Ordering.{Ordering}

module _ {K : Type 0} (cmp : K → K → Ordering) where
  -- whether the key is among these
  abbrev pub has : List K → K → Bool
  has keys key = list_any (is_at (cmp key)) keys

  abbrev pub without : List K → K → List K
  without keys key = filter (λ q. not (is_at (cmp key) q)) keys

  -- the keys of both lists, in key order
  abbrev pub joined : List K → List K → List K
  joined keys more = fold (insert_key cmp) keys more

module _ {K V : Type 0} (cmp : K → K → Ordering) where
  -- the value at the key, where there is one
  abbrev pub value_at : List (K × V) → K → Option V
  value_at rows key = lookup (is_at (cmp key)) rows

  -- with this value at the key, or without the key
  abbrev pub with_value : List (K × V) → K → Option V → List (K × V)
  with_value rows key None = remove_entry (is_at (cmp key)) rows
  with_value rows key (Some value) = insert_entry cmp rows key value

  -- the rows behind this key, or all
  abbrev pub rows_after : Option K → List (K × V) → List (K × V)
  rows_after None rows = rows
  rows_after (Some key) rows = filter (λ e. is_lt (cmp key e.0)) rows

  -- the rows stand in key order, and no key twice
  abbrev pub IsTable : List (K × V) → Type 0
  IsTable rows = IsStrictlySortedBy cmp (keys_of rows)
