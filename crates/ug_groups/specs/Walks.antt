-- The keys of two tables, in order.
use Rattle.std.specs.Prelude.{◌≡◌, Bool, true, false, ◌⊎◌, List, Option, Some, None, IsSome, if◌then◌else◌}
use Rattle.std.specs.Ordering.{is_lt}
use Rattle.ug_types.specs.declared.key.Key.{Key}
use Rattle.ug_adjout.specs.Tables.{value_at}
use Rattle.ug_pack.specs.Ready.{key_order}
use Rattle.ug_intern.specs.Pools.{Pooled}
use Rattle.ug_queue.specs.Spread.{value_of}
use Rattle.ug_adjout.specs.Tables.{has}
use Rattle.ug_adjout.specs.Desiring.{with_each_desired}
use Rattle.ug_group_rules.specs.Packets.{same_out}
use Rattle.ug_groups.specs.declared.entry.Entry.{Entry}
use Rattle.ug_groups.specs.Rows.{with_row, with_sub}
use Rattle.ug_groups.specs.Entries.{Entries, row_in, rows_in}
use Rattle.std.specs.List.Sorted.{IsStrictlySortedBy}
use Rattle.ug_types.specs.declared.route.OutAttrs.{OutAttrs}
use Rattle.std.specs.Prelude.{ℕ}

-- the key is behind this one
abbrev pub is_behind : Option Key → Key → Bool
is_behind None q = true
is_behind (Some k) q = is_lt (key_order k q)

module _ {V : Type 0} where
  -- the first key of the table behind `at`
  abbrev pub IsFirst : List (Key × V) → Option Key → Option Key → Type 0
  IsFirst rows at None = (q : Key) → is_behind at q ≡ true → value_at key_order rows q ≡ None
  IsFirst rows at (Some k) = (is_behind at k ≡ true) × IsSome (value_at key_order rows k) × ((q : Key) → is_behind at q ≡ true → is_lt (key_order q k) ≡ true → value_at key_order rows q ≡ None)

  -- the first key of both tables behind `at`
  abbrev pub IsNext : List (Key × V) → List (Key × V) → Option Key → Option Key → Type 0
  IsNext rows more at None = (q : Key) → is_behind at q ≡ true → (value_at key_order rows q ≡ None) × (value_at key_order more q ≡ None)
  IsNext rows more at (Some k) =
      (is_behind at k ≡ true) × (IsSome (value_at key_order rows k) ⊎ IsSome (value_at key_order more k))
      × ((q : Key) → is_behind at q ≡ true → is_lt (key_order q k) ≡ true → (value_at key_order rows q ≡ None) × (value_at key_order more q ≡ None))

abbrev pub least : Option Key → Option Key → Option Key
least None b = b
least (Some k) None = Some k
least (Some k) (Some q) = if is_lt (key_order q k) then Some q else Some k

-- what the one desires
abbrev pub desired_in : Pooled OutAttrs → Entry → List (Key × OutAttrs)
desired_in pool e = (row_in pool e).sub.out.desired

-- Each of some keys, in order, is desired as the other desires it, and no other key differs.
pub record IsWalked (p q : Pooled OutAttrs) (xs ys : Entries) (g from : ℕ) : Type 0 where
  pub mine : Entry
  pub other : Entry
  pub mine_there : value_of g xs ≡ Some mine
  pub other_there : value_of from xs ≡ Some other
  pub done : List Key
  pub sorted : IsStrictlySortedBy key_order done
  pub whole : (k : Key) → has key_order done k ≡ false → value_at key_order (desired_in p other) k ≡ value_at key_order (desired_in p mine) k
  pub rows : rows_in q ys ≡ with_row g (with_sub (λ x. record x { out = with_each_desired key_order same_out (value_at key_order (desired_in p other)) x.out done })) (rows_in p xs)
