-- How a table is kept: the rows of each family in key order, each with its attributes and with how many refreshes had
-- begun when its route was last announced.
use Rattle.std.specs.Borrow.{Bor}
use Rattle.std.specs.Prelude.{◌≡◌, ℕ, ◌≤◌, nat_lt, Bool, not, List, [], ◌++◌, map, Option, Some, None, IsSome, if◌then◌else◌}
use Rattle.std.specs.List.{filter, AllByRecursion}
use Rattle.std.specs.List.Sorted.{IsStrictlySortedBy}
use Rattle.std.specs.Map.{lookup, keys_of}
use Rattle.std.specs.BTreeMap.Range.{IsLeBy}
use Rattle.ug_types.specs.declared.family.Family.{Family}
use Rattle.ug_types.specs.declared.family.Family.TheVariants.{V4, V6}
use Rattle.ug_types.specs.declared.key.Key.{Key}
use Rattle.ug_types.specs.Keys.{same_key}
use Rattle.ug_types.specs.Attributes.{Attributes}
use Rattle.ug_short_key.specs.Keys.{key_order}
use Rattle.ug_check.specs.declared.row.Row.{Row}
use Rattle.ug_check.specs.Rows.{Rows, IsAfter}

-- a row that is lent
abbrev pub row_lent : Key × Bor Row → Key × Row
row_lent row = (row.0, row.1.now)

-- a row as it is read
abbrev pub shown : Key × Row → Key × Attributes
shown e = (e.0, e.1.shared.value.attrs)

-- not announced since the last of so many refreshes began
abbrev pub is_stale : ℕ → Row → Bool
is_stale refreshes row = nat_lt row.shared.value.seen refreshes

abbrev pub fresh_rows : {K : Type 0} → ℕ → List (K × Row) → List (K × Row)
fresh_rows refreshes rows = filter (λ e. not (is_stale refreshes e.1)) rows

abbrev pub stale_keys : ℕ → List (Key × Row) → List Key
stale_keys refreshes rows = keys_of (filter (λ e. is_stale refreshes e.1) rows)

-- rows of both families: IPv4 stands before IPv6
abbrev pub rows_of : List (Key × Row) → List (Key × Row) → ℕ → Bool → Rows
rows_of v4 v6 refreshes refreshing = record { rows = map shown (v4 ++ v6); stale = if refreshing then stale_keys refreshes (v4 ++ v6) else []; refreshes = refreshes }

abbrev pub IsRowOf : Family → ℕ → Key × Row → Type 0
IsRowOf family refreshes e = (e.0.prefix.family ≡ family) × (e.1.shared.value.seen ≤ refreshes)

abbrev pub AreRowsOf : Family → ℕ → List (Key × Row) → Type 0
AreRowsOf family refreshes rows = AllByRecursion (IsRowOf family refreshes) rows

-- one key has this row now, or none, and every other what it had
abbrev pub IsChanged : Key → Option Row → List (Key × Row) → List (Key × Row) → Type 0
IsChanged key row old new = (q : Key) → lookup (same_key q) new ≡ (if same_key q key then row else lookup (same_key q) old)

-- the least row above a key, or the first one; or there is none
abbrev pub IsFirstAfter : List (Key × Row) → Option Key → Option (Key × Row) → Type 0
IsFirstAfter rows from None = (q : Key) → IsAfter key_order from q → lookup (same_key q) rows ≡ None
IsFirstAfter rows from (Some row) =
    (lookup (same_key row.0) rows ≡ Some row.1) × IsAfter key_order from row.0 × ((q : Key) → IsAfter key_order from q → IsSome (lookup (same_key q) rows) → IsLeBy key_order row.0 q)

-- the rows of each family are of that family, in key order, and none was announced after more refreshes than there were
pub record IsStored (v4 v6 : List (Key × Row)) (refreshes : ℕ) : Type 0 where
  pub all_v4 : AllByRecursion (IsRowOf V4 refreshes) v4
  pub all_v6 : AllByRecursion (IsRowOf V6 refreshes) v6
  pub v4_ascend : IsStrictlySortedBy key_order (keys_of v4)
  pub v6_ascend : IsStrictlySortedBy key_order (keys_of v6)
