-- The subgroups of a machine by number, each with its queue: none where one is gone.
use Rattle.std.specs.Prelude.{◌≡◌, ℕ, ◌+◌, ◌==◌, nat_lt, nat_le, Bool, true, false, ◌&&◌, ◌||◌, not, List, [], ◌∷◌, ◌++◌, map, length, slice_get, Option, Some, None, if◌then◌else◌}
use Rattle.std.specs.Map.{keys_of}
use Rattle.std.specs.List.Sorted.{IsStrictlySortedBy}
use Rattle.std.specs.Option.{option_map}
use Rattle.std.specs.Ordering.{nat_cmp}
use Rattle.ug_outbound.specs.declared.key.GroupKey.{GroupKey}
use Rattle.ug_adjout.specs.Pending.{IsExact, nothing_out}
use Rattle.ug_adjout.specs.Desiring.{with_all_desired as all_desired_of, AreForcedShown}
use Rattle.ug_pack.specs.Ready.{key_order}
use Rattle.ug_speaker.specs.Places.{change_at}
use Rattle.ug_queue.specs.Queues.{Queued, empty_queue, with_packet, with_member, with_members, without_member, without_members, standing, shed, passed, IsMember}
use Rattle.ug_queue.specs.Rests.{IsInside}
use Rattle.ug_group_rules.specs.declared.phase.Phase.TheVariants.{Quiet}
use Rattle.ug_group_rules.specs.Packets.{Packet, same_group, same_out}
use Rattle.ug_group_rules.specs.Machine.{Subgroup, there, says_next, formatted, owes, is_pending, is_level, unstuck}
use Rattle.ug_group_rules.specs.Evaluations.{keys_from}
use Rattle.ug_groups.specs.Subgroups.{part_of}

-- a subgroup, and the queue that its members take from
pub record Row : Type 0 where
  pub sub : Subgroup
  pub queue : Queued Packet

abbrev pub Rows : Type 0
Rows = List (Option Row)

-- the row of that number, where it is there
abbrev pub row_at : ℕ → Rows → Option Row
row_at g rows = there (slice_get rows g)

-- the row of that number is there, and it is so of it
abbrev pub HasRow : ℕ → Rows → (Row → Type 0) → Type 0
HasRow g rows P = (r : Row) × (row_at g rows ≡ Some r) × P r

-- a row is there, and passes the test
abbrev pub any_at : (Row → Bool) → Option Row → Bool
any_at test None = false
any_at test (Some r) = test r

-- it is a member of that one's queue
abbrev pub Sits : ℕ → ℕ → Rows → Type 0
Sits m g rows = HasRow g rows (λ r. IsMember r.queue m)

-- the subgroups without their queues, as the machine has them
abbrev pub sub_of : Row → Subgroup
sub_of r = r.sub

abbrev pub subs_of : Rows → List (Option Subgroup)
subs_of rows = map (option_map sub_of) rows

-- their keys, each once
abbrev pub keys_in : Rows → List GroupKey
keys_in rows = keys_from [] (subs_of rows)

-- ---- changes

abbrev pub with_sub : (Subgroup → Subgroup) → Row → Row
with_sub change r = record { sub = change r.sub; queue = r.queue }

abbrev pub with_queue : (Queued Packet → Queued Packet) → Row → Row
with_queue change r = record { sub = r.sub; queue = change r.queue }

-- the one of that number is changed
abbrev pub with_row : ℕ → (Row → Row) → Rows → Rows
with_row g change rows = change_at (option_map change) g rows

-- it is gone
abbrev pub without_row : ℕ → Rows → Rows
without_row g rows = change_at (λ _. None) g rows

-- one more, under the next number
abbrev pub with_next : Row → Rows → Rows
with_next r rows = rows ++ Some r ∷ []

-- each is changed
abbrev pub each_row : (Row → Row) → Rows → Rows
each_row change rows = map (option_map change) rows

-- it is changed, if it has that key
abbrev pub of_key : GroupKey → (Subgroup → Subgroup) → Row → Row
of_key key change r = if same_group r.sub.key key then with_sub change r else r

-- nothing was formatted, and nothing is desired
abbrev pub empty_row : GroupKey → ℕ → Row
empty_row key limit = record { sub = record { key = key; out = nothing_out; ending = true; fresh = true; phase = Quiet; stuck = 0 }; queue = empty_queue limit }

abbrev pub joined_row : ℕ → Row → Row
joined_row m r = with_queue (λ q. with_member q m (length q.packets)) r

abbrev pub left_row : ℕ → Row → Row
left_row m r = with_queue (λ q. shed (without_member q m)) r

-- a packet is formatted, under that number
abbrev pub formatted_row : ℕ → Row → Row
formatted_row made r = record { sub = formatted r.sub; queue = with_packet r.queue (record { made = made; says = says_next r.sub }) }

abbrev pub rekeyed_row : GroupKey → Row → Row
rekeyed_row key r = with_sub (λ x. record x { key = key }) r

-- its table is that of another: what this one has to be told differs key by key
abbrev pub tabled_row : Row → Row → Row
tabled_row from r = with_sub (λ x. record x { out = all_desired_of key_order same_out from.sub.out.desired x.out }) r

-- members leave together,
abbrev pub rest_row : List ℕ → Row → Row
rest_row members r = with_queue (λ q. shed (without_members q members)) r

-- and this is the row of those who left
abbrev pub part_row : List ℕ → Row → Row
part_row members r = record { sub = unstuck r.sub; queue = part_of r.queue members }

-- the members of the other stand at the end of its queue
abbrev pub absorbing_row : Row → Row → Row
absorbing_row other r = with_queue (λ q. with_members q (keys_of other.queue.places)) r

-- ---- tests

abbrev pub is_full_row : Row → Bool
is_full_row r = nat_le r.queue.limit (length r.queue.packets)

-- a full queue with keys pending has stood through one event more
abbrev pub counted_row : Row → Row
counted_row r = with_sub (λ x. record x { stuck = if is_full_row r && is_pending x then x.stuck + 1 else 0 }) r

abbrev pub may_format_row : Row → Bool
may_format_row r = owes r.sub && not (is_full_row r)

abbrev pub may_merge_rows : Row → Row → Bool
may_merge_rows r s = is_level r.sub && (is_level s.sub && same_group r.sub.key s.sub.key) && (length s.queue.packets == 0)

-- some members stand at the front, and others behind it
abbrev pub is_parted_row : Row → Bool
is_parted_row r = nat_lt 0 (standing r.queue.places 0) && nat_lt (standing r.queue.places 0) (length r.queue.places)

abbrev pub must_part_row : ℕ → Row → Bool
must_part_row after r = (is_pending r.sub && nat_le after r.sub.stuck) && (is_full_row r && is_parted_row r)

-- some row passes the test, with its number, the first of which is `g`
abbrev pub any_row : (ℕ → Row → Bool) → ℕ → Rows → Bool
any_row test g [] = false
any_row test g (None ∷ rows) = any_row test (g + 1) rows
any_row test g (Some r ∷ rows) = test g r || any_row test (g + 1) rows

abbrev pub some_row : (Row → Bool) → Rows → Bool
some_row test rows = any_row (λ g r. test r) 0 rows

-- its queue holds a packet
abbrev pub has_packets : Row → Bool
has_packets r = nat_lt 0 (length r.queue.packets)

-- two of them may merge
abbrev pub some_merge : Rows → Bool
some_merge rows = any_row (λ g r. any_row (λ h s. not (g == h) && may_merge_rows r s) 0 rows) 0 rows

-- ---- what is so of each row

-- Its pending list is exact and each forced key stands in a table; its queue holds what some member has still to take,
-- no member stands past its end, and it is not over its limit.
pub record IsRow (r : Row) : Type 0 where
  pub exact : IsExact key_order same_out r.sub.out
  pub shown : AreForcedShown key_order r.sub.out
  pub needed : passed r.queue ≡ 0
  pub inside : (m : ℕ) → IsInside r.queue m
  pub sorted : IsStrictlySortedBy nat_cmp (keys_of r.queue.places)
  pub bounded : nat_le (length r.queue.packets) r.queue.limit ≡ true
