-- How the subgroups are kept: those that are there by number, each with the class of its key, over one pool of the attributes
-- that their tables hold.
use Rattle.std.specs.Prelude.{◌≡◌, ℕ, ◌+◌, ◌<◌, ◌≤◌, ◌^◌, ◌==◌, ◌&&◌, Bool, List, [], ◌∷◌, ◌++◌, map, length, true, Option, Some, None, IsSome, slice_set}
use Rattle.std.specs.Option.{option_map}
use Rattle.ug_types.specs.declared.key.Key.{Key}
use Rattle.ug_types.specs.declared.route.OutAttrs.{OutAttrs}
use Rattle.ug_outbound.specs.declared.key.GroupKey.{GroupKey}
use Rattle.ug_intern.specs.Pools.{Pooled, held, uses_of}
use Rattle.ug_queue.specs.Spread.{value_of}
use Rattle.std.specs.Map.{keys_of}
use Rattle.ug_queue.specs.Queues.{empty_queue, shed, without_members, with_members}
use Rattle.ug_adjout.specs.Pending.{AdjRibOut, nothing_out}
use Rattle.ug_group_rules.specs.declared.phase.Phase.TheVariants.{Quiet}
use Rattle.ug_group_rules.specs.Packets.{same_group}
use Rattle.ug_group_rules.specs.Machine.{is_level}
use Rattle.ug_groups.specs.Values.{value_in}
use Rattle.ug_groups.specs.Holders.{holds, one_at, IsMoved}
use Rattle.ug_groups.specs.Standings.{seen}
use Rattle.ug_groups.specs.Subgroups.{part_of}
use Rattle.ug_groups.specs.declared.entry.Entry.{Entry}
use Rattle.ug_groups.specs.Rows.{Row, Rows}

abbrev pub Entries : Type 0
Entries = List (Option Entry)

abbrev pub key_of : Entry → GroupKey
key_of e = e.subgroup.point.key

abbrev pub adj_of : Entry → AdjRibOut Key ℕ
adj_of e = e.subgroup.point.adj

-- ---- what its ids stand for

abbrev pub row_in : Pooled OutAttrs → Entry → Row
row_in pool e = record { sub = seen pool e.subgroup.point; queue = e.subgroup.queue }

abbrev pub rows_in : Pooled OutAttrs → Entries → Rows
rows_in pool xs = map (option_map (row_in pool)) xs

-- its row without the values: tests that look at none are the same whatever the ids stand for
abbrev pub bare : Entry → Row
bare e = row_in (record { slots = [] }) e

-- whether they may merge, by their classes
abbrev pub may_merge_entries : Entry → Entry → Bool
may_merge_entries e f = is_level (bare e).sub && (is_level (bare f).sub && (e.class == f.class)) && (length f.subgroup.queue.packets == 0)

-- ---- the account

-- so many holders of the id it is
abbrev pub held_by : ℕ → Option Entry → ℕ
held_by id None = 0
held_by id (Some e) = holds (adj_of e) id

-- so many holders of the id they are together
abbrev pub total : ℕ → Entries → ℕ
total id [] = 0
total id (x ∷ xs) = held_by id x + total id xs

-- its tables are no longer than memory is large
abbrev pub IsSmall : Entry → Type 0
IsSmall e = (length (adj_of e).formatted < 2 ^ 64) × (length (adj_of e).desired < 2 ^ 64)

-- Two have one class exactly where their keys are equal, and classes from `next` on are free.
pub record AreClassed (next : ℕ) (xs : Entries) : Type 0 where
  pub alike : (g h : ℕ) (a b : Entry) → value_of g xs ≡ Some a → value_of h xs ≡ Some b → (a.class == b.class) ≡ same_group (key_of a) (key_of b)
  pub used : (g : ℕ) (e : Entry) → value_of g xs ≡ Some e → e.class < next

-- it is the class of the subgroups of this key
pub record IsClass (next : ℕ) (xs : Entries) (key : GroupKey) (class : ℕ) : Type 0 where
  pub bound : class ≤ next
  pub alike : (g : ℕ) (e : Entry) → value_of g xs ≡ Some e → (e.class == class) ≡ same_group (key_of e) key

-- The pool counts the holders of all tables, and one id in hand.
pub record IsKept (next : ℕ) (hand : Option ℕ) (pool : Pooled OutAttrs) (xs : Entries) : Type 0 where
  pub counted : (id : ℕ) → uses_of (held pool id) ≡ total id xs + one_at id hand
  pub small : (g : ℕ) (e : Entry) → value_of g xs ≡ Some e → IsSmall e
  pub classed : AreClassed next xs
  pub short : length xs ≤ 2 ^ 32

abbrev pub AreKept : Pooled OutAttrs → Entries → Type 0
AreKept pool xs = (next : ℕ) × (hand : Option ℕ) × IsKept next hand pool xs

-- One of them was changed so, and no other.
pub record IsDone (p q : Pooled OutAttrs) (xs ys : Entries) (g : ℕ) (change : Row → Row) : Type 0 where
  pub was : Entry
  pub now : Entry
  pub there : value_of g xs ≡ Some was
  pub changed : ys ≡ slice_set xs g (Some now)
  pub class : now.class ≡ was.class
  pub key : key_of now ≡ key_of was
  pub small : IsSmall was → IsSmall now
  pub moved : IsMoved p q (adj_of was) (adj_of now)
  pub row : row_in q now ≡ change (row_in p was)

-- One more is there, with a class of its key.
pub record IsAdded (next : ℕ) (xs ys : Entries) (key : GroupKey) (limit : ℕ) : Type 0 where
  pub now : Entry
  pub more : ys ≡ xs ++ Some now ∷ []
  pub class : IsClass next xs key now.class
  pub short : length xs < 2 ^ 32
  pub fresh : now.subgroup ≡ record { point = record { key = key; adj = nothing_out; ending = true; fresh = true; phase = Quiet; stuck = 0 }; queue = empty_queue limit }

-- It has another key, and the class of it.
pub record IsRekeyed (next : ℕ) (xs ys : Entries) (g : ℕ) (key : GroupKey) : Type 0 where
  pub was : Entry
  pub now : Entry
  pub there : value_of g xs ≡ Some was
  pub changed : ys ≡ slice_set xs g (Some now)
  pub class : IsClass next xs key now.class
  pub point : now.subgroup.point ≡ record was.subgroup.point { key = key }
  pub queue : now.subgroup.queue ≡ was.subgroup.queue

-- It is gone, and the pool counts its ids no more.
pub record IsGone (p q : Pooled OutAttrs) (xs ys : Entries) (g : ℕ) : Type 0 where
  pub was : Entry
  pub there : value_of g xs ≡ Some was
  pub gone : ys ≡ slice_set xs g None
  pub uses : (id : ℕ) → uses_of (held q id) + holds (adj_of was) id ≡ uses_of (held p id)
  pub values : (id : ℕ) → IsSome (held q id) → value_in q id ≡ value_in p id

-- Some members have left it, for one more of the same class.
pub record IsSplit (p q : Pooled OutAttrs) (xs ys : Entries) (g : ℕ) (members : List ℕ) : Type 0 where
  pub was : Entry
  pub rest : Entry
  pub part : Entry
  pub there : value_of g xs ≡ Some was
  pub more : ys ≡ slice_set xs g (Some rest) ++ Some part ∷ []
  pub rest_class : rest.class ≡ was.class
  pub part_class : part.class ≡ was.class
  pub rest_is : rest.subgroup ≡ record was.subgroup { queue = shed (without_members was.subgroup.queue members) }
  pub point : part.subgroup.point ≡ record was.subgroup.point { stuck = 0 }
  pub queue : part.subgroup.queue ≡ part_of was.subgroup.queue members
  pub uses : (id : ℕ) → uses_of (held q id) ≡ uses_of (held p id) + holds (adj_of was) id
  pub values : (id : ℕ) → value_in q id ≡ value_in p id
  pub short : length xs < 2 ^ 32

-- The members of the second one are at the end of the first one's queue, and the second is gone.
pub record IsMerged (p q : Pooled OutAttrs) (xs ys : Entries) (g h : ℕ) : Type 0 where
  pub was : Entry
  pub now : Entry
  pub other : Entry
  pub there : value_of g xs ≡ Some was
  pub with_it : value_of h xs ≡ Some other
  pub changed : ys ≡ slice_set (slice_set xs h None) g (Some now)
  pub class : now.class ≡ was.class
  pub now_is : now.subgroup ≡ record was.subgroup { queue = with_members was.subgroup.queue (keys_of other.subgroup.queue.places) }
  pub uses : (id : ℕ) → uses_of (held q id) + holds (adj_of other) id ≡ uses_of (held p id)
  pub values : (id : ℕ) → IsSome (held q id) → value_in q id ≡ value_in p id
