-- A queue as its members see it: each with the packets from its cursor on. The queue is the longest of these.
use Rattle.std.specs.Prelude.{◌≡◌, ℕ, ◌==◌, ◌<◌, ◌≤◌, false, [], ◌∷◌, ◌++◌, length, drop, Some, None, IfSome}
use Rattle.std.specs.Map.{keys_of}
use Rattle.std.specs.List.Sorted.{IsStrictlySortedBy}
use Rattle.std.specs.Ordering.{nat_cmp}
use Rattle.ug_queue.specs.Queues.{Queued, place_of, IsMember, rest_of, passed, shed, with_packet, with_member, without_member, past_next}

module _ {P : Type 0} where
  -- the member stands at most at the end
  abbrev pub IsInside : Queued P → ℕ → Type 0
  IsInside q m = IfSome (place_of q m) (λ place. place ≤ length q.packets)

-- how a packet at the end, and the packets that go, change what members have still to take
pub record RestLaws (P : Type 0) : Type 0 where
  -- a packet at the end is at the end of each member's rest
  pub appended : (q : Queued P) (packet : P) (m : ℕ) → IsMember q m → IsInside q m → rest_of (with_packet q packet) m ≡ rest_of q m ++ packet ∷ []
  -- packets that every member has passed are in nobody's rest
  pub kept : (q : Queued P) (m : ℕ) → rest_of (shed q) m ≡ rest_of q m
  -- what is left is some member's rest
  pub longest : (q : Queued P) → IsStrictlySortedBy nat_cmp (keys_of q.places) → passed q ≡ 0 → 0 < length q.packets → (m : ℕ) × (rest_of q m ≡ q.packets)

-- how members that come, take packets and go change what each has still to take
pub record MemberLaws (P : Type 0) : Type 0 where
  -- who joins is a member, and has nothing left to take
  pub joined : (q : Queued P) (m place : ℕ) → place_of (with_member q m place) m ≡ Some place
  pub joined_rest : (q : Queued P) (m : ℕ) → rest_of (with_member q m (length q.packets)) m ≡ []
  -- who takes its next packet has those behind it left
  pub advanced_rest : (q : Queued P) (m : ℕ) → rest_of (past_next q m) m ≡ drop 1 (rest_of q m)
  -- who goes is no member any more
  pub left : (q : Queued P) (m : ℕ) → IsStrictlySortedBy nat_cmp (keys_of q.places) → place_of (without_member q m) m ≡ None
  -- every other member stands where it did
  pub beside_joined : (q : Queued P) (m place n : ℕ) → (n == m) ≡ false → place_of (with_member q m place) n ≡ place_of q n
  pub beside_advanced : (q : Queued P) (m n : ℕ) → (n == m) ≡ false → place_of (past_next q m) n ≡ place_of q n
  pub beside_left : (q : Queued P) (m n : ℕ) → (n == m) ≡ false → place_of (without_member q m) n ≡ place_of q n
