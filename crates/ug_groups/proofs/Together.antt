-- Members that stand at the front, listed by rising number, may leave together.
use Rattle.std.proofs.Common.{◌≡◌, ℕ, ◌+◌, ◌<◌, List, [], ◌∷◌, ◌++◌, length, get_or, Some, refl, sym, subst, ◌∙◌, arith}
use Rattle.std.specs.Prelude.{IsSome}
use Rattle.std.specs.List.{AllByRecursion}
use Rattle.ug_queue.specs.Queues.{Queued, place_of, IsMember}
use Rattle.ug_queue.proofs.Members.{new_behind}
use Rattle.ug_group_rules.specs.Packets.{Packet}
use Rattle.ug_groups.specs.Subgroups.{StandTogether, AreFront}

pub no_front : (q : Queued Packet) (up : ℕ) → AreFront q up []
no_front q up = record { front = tt; below = tt; once = tt }

all_end : (P : ℕ → Type 0) (ms : List ℕ) (m : ℕ) → AllByRecursion P ms → P m → AllByRecursion P (ms ++ m ∷ [])
all_end P [] m all here = (here, tt)
all_end P (a ∷ ms) m all here = (all.0, all_end P ms m all.1 here)

further : (up : ℕ) (ms : List ℕ) → AllByRecursion (λ m. m < up) ms → AllByRecursion (λ m. m < up + 1) ms
further up [] all = tt
further up (m ∷ ms) all = ((let lt = all.0 in omega (arith, lt)), further up ms all.1)

pub still_front : (q : Queued Packet) (up : ℕ) (ms : List ℕ) → AreFront q up ms → AreFront q (up + 1) ms
still_front q up ms so = record { front = so.front; below = further up ms so.below; once = so.once }

pub more_front : (q : Queued Packet) (up : ℕ) (ms : List ℕ) → AreFront q up ms → place_of q up ≡ Some 0 → AreFront q (up + 1) (ms ++ up ∷ [])
more_front q up ms so here = record {
  front = all_end (λ m. place_of q m ≡ Some 0) ms up so.front here;
  below = all_end (λ m. m < up + 1) ms up (further up ms so.below) (omega arith);
  once = new_behind [] ms up so.once so.below refl;
}

beside : (q : Queued Packet) (m : ℕ) (ms : List ℕ) → place_of q m ≡ Some 0 → AllByRecursion (λ n. place_of q n ≡ Some 0) ms → AllByRecursion (λ n. place_of q n ≡ place_of q m) ms
beside q m [] here all = tt
beside q m (n ∷ ms) here all = (all.0 ∙ sym here, beside q m ms here all.1)

pub front_together : (q : Queued Packet) (up : ℕ) (ms : List ℕ) → AreFront q up ms → 0 < length ms → StandTogether q ms
front_together q up [] so some = absurd (omega (arith, some))
front_together q up (m ∷ ms) so some = record {
  some = some;
  first = subst (λ o. IsSome {T = ℕ} o) (sym so.front.0) refl;
  beside = (refl, beside q m ms so.front.0 so.front.1);
  once = so.once;
}

pub one_together : (q : Queued Packet) (m : ℕ) → IsMember q m → StandTogether q (m ∷ [])
one_together q m member = record { some = omega arith; first = member; beside = (refl, tt); once = (refl, tt) }

-- ---- and then each is a member

each_there : (q : Queued Packet) (first : ℕ) (ms : List ℕ) → IsMember q first → AllByRecursion (λ n. place_of q n ≡ place_of q first) ms → AllByRecursion (IsMember q) ms
each_there q first [] member all = tt
each_there q first (m ∷ ms) member all = (subst (λ o. IsSome {T = ℕ} o) (sym all.0) member, each_there q first ms member all.1)

pub together_members : (q : Queued Packet) (ms : List ℕ) → StandTogether q ms → AllByRecursion (IsMember q) ms
together_members q ms so = each_there q (get_or ms 0 0) ms so.first so.beside
