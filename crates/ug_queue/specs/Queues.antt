-- A queue of packets and the members that take from it. A member's place is the number of packets in front of its cursor.
use Rattle.std.specs.Prelude.{◌≡◌, ℕ, ◌+◌, ◌-◌, ◌==◌, min, Bool, cond, List, [], ◌∷◌, ◌++◌, length, drop, Option, Some, None, IsSome}
use Rattle.std.specs.Map.{lookup, remove_entry, values_of}
use Rattle.std.specs.List.{sum_by}
use Rattle.std.specs.Ordering.{nat_cmp}
use Rattle.std.specs.BTreeMap.{insert_entry, is_at}

-- the packets in order; the members by rising number, each with its place; and how many packets make the queue full
pub record Queued (P : Type 0) : Type 0 where
  pub packets : List P
  pub places : List (ℕ × ℕ)
  pub limit : ℕ

-- whether a number is that of the member
abbrev pub is_member : ℕ → ℕ → Bool
is_member m = is_at (nat_cmp m)

module _ {P : Type 0} where
  -- where the member stands, if it is one
  abbrev pub place_of : Queued P → ℕ → Option ℕ
  place_of q m = lookup (is_member m) q.places

  abbrev pub IsMember : Queued P → ℕ → Type 0
  IsMember q m = IsSome (place_of q m)

  -- the packets from a place on
  abbrev pub from_place : List P → Option ℕ → List P
  from_place packets None = []
  from_place packets (Some place) = drop place packets

  -- the packets that the member has still to take; none for who is no member
  abbrev pub rest_of : Queued P → ℕ → List P
  rest_of q m = from_place q.packets (place_of q m)

-- the members, each with f of its place
abbrev pub mapped : (ℕ → ℕ) → List (ℕ × ℕ) → List (ℕ × ℕ)
mapped f [] = []
mapped f (e ∷ es) = (e.0, f e.1) ∷ mapped f es

-- how many members stand at the place
abbrev pub standing : List (ℕ × ℕ) → ℕ → ℕ
standing places i = sum_by (λ p. cond (p == i) 1 0) (values_of places)

-- the least of the members' places, and at most n
abbrev pub least_place : ℕ → List (ℕ × ℕ) → ℕ
least_place n [] = n
least_place n (e ∷ es) = min e.1 (least_place n es)

-- the members listed, all at the front
abbrev pub seat_all : List (ℕ × ℕ) → List ℕ → List (ℕ × ℕ)
seat_all places [] = places
seat_all places (m ∷ ms) = seat_all (insert_entry nat_cmp places m 0) ms

-- no member is listed twice, and none stands there already
abbrev pub AreNew : List (ℕ × ℕ) → List ℕ → Type 0
AreNew places [] = Unit {0}
AreNew places (m ∷ ms) = (lookup (is_member m) places ≡ None) × AreNew (insert_entry nat_cmp places m 0) ms

module _ {P : Type 0} where
  -- how many packets every member's cursor has passed: all, where there is no member
  abbrev pub passed : Queued P → ℕ
  passed q = least_place (length q.packets) q.places

  -- without the first d packets
  abbrev pub without_first : ℕ → Queued P → Queued P
  without_first d q = record { packets = drop d q.packets; places = mapped (λ p. p - d) q.places; limit = q.limit }

  -- without the packets that every member's cursor has passed
  abbrev pub shed : Queued P → Queued P
  shed q = without_first (passed q) q

  abbrev pub empty_queue : ℕ → Queued P
  empty_queue limit = record { packets = []; places = []; limit = limit }

  abbrev pub with_packet : Queued P → P → Queued P
  with_packet q packet = record { packets = q.packets ++ packet ∷ []; places = q.places; limit = q.limit }

  -- with the member at that place
  abbrev pub with_member : Queued P → ℕ → ℕ → Queued P
  with_member q m place = record { packets = q.packets; places = insert_entry nat_cmp q.places m place; limit = q.limit }

  -- with the member's cursor behind the next packet
  abbrev pub one_on : Queued P → ℕ → Option ℕ → Queued P
  one_on q m None = q
  one_on q m (Some place) = with_member q m (place + 1)

  abbrev pub past_next : Queued P → ℕ → Queued P
  past_next q m = one_on q m (place_of q m)

  abbrev pub without_member : Queued P → ℕ → Queued P
  without_member q m = record { packets = q.packets; places = remove_entry (is_member m) q.places; limit = q.limit }

  -- with these members, whose cursors are at the end
  abbrev pub with_members : Queued P → List ℕ → Queued P
  with_members q [] = q
  with_members q (m ∷ ms) = with_members (with_member q m (length q.packets)) ms

  -- none of them is a member, and each is listed once
  abbrev pub AreNewcomers : Queued P → List ℕ → Type 0
  AreNewcomers q [] = Unit {0}
  AreNewcomers q (m ∷ ms) = (place_of q m ≡ None) × AreNewcomers (with_member q m (length q.packets)) ms

  -- without these members
  abbrev pub without_members : Queued P → List ℕ → Queued P
  without_members q [] = q
  without_members q (m ∷ ms) = without_members (without_member q m) ms

  -- each of them is a member, and is listed once
  abbrev pub AreMembers : Queued P → List ℕ → Type 0
  AreMembers q [] = Unit {0}
  AreMembers q (m ∷ ms) = IsMember q m × AreMembers (without_member q m) ms
