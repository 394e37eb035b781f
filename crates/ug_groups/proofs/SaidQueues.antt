-- Queues whose packets are seen as the machine's definitions have them.
use Rattle.std.proofs.Common.{◌≡◌, ℕ, ◌<◌, suc, zero, List, [], ◌∷◌, ◌++◌, length, drop, map, slice_get, Option, Some, None, refl, sym, ap, subst, ◌∙◌, arith}
use Rattle.std.specs.List.{AllByRecursion}
use Rattle.std.specs.Option.{option_map}
use Rattle.ug_queue.specs.Queues.{Queued, place_of, from_place, rest_of, least_place, passed, without_first, shed, with_packet, one_on, past_next, with_member, with_members, AreNewcomers, without_member, without_members, AreMembers}
use Rattle.ug_group_rules.specs.Packets.{Packet}
use Rattle.ug_groups.specs.Packets.{Packed, said}
use Rattle.ug_groups.specs.Subgroups.{said_queue}

pub length-said : (ps : List Packed) → length (map said ps) ≡ length ps
length-said [] = refl
length-said (p ∷ ps) = ap suc (length-said ps)

pub map-drop : (n : ℕ) (ps : List Packed) → map said (drop n ps) ≡ drop n (map said ps)
map-drop zero ps = refl
map-drop (suc n) [] = refl
map-drop (suc n) (p ∷ ps) = map-drop n ps

map-end : (ps : List Packed) (p : Packed) → map said (ps ++ p ∷ []) ≡ map said ps ++ said p ∷ []
map-end [] p = refl
map-end (q ∷ ps) p = ap (λ l. said q ∷ l) (map-end ps p)

pub shed_said : (q : Queued Packed) → said_queue (shed q) ≡ shed (said_queue q)
shed_said q =
    let same : passed q ≡ passed (said_queue q) = ap (λ n. least_place n q.places) (sym (length-said q.packets)) in
    ap (λ (l : List Packet). record { packets = l; places = (without_first (passed q) q).places; limit = q.limit }) (map-drop (passed q) q.packets) ∙ ap (λ d. without_first d (said_queue q)) same

pub next_said : (q : Queued Packed) (m : ℕ) → said_queue (past_next q m) ≡ past_next (said_queue q) m
next_said q m = by (place_of q m)
  where
    by : (o : Option ℕ) → said_queue (one_on q m o) ≡ one_on (said_queue q) m o
    by None = refl
    by (Some place) = refl

pub packet_said : (q : Queued Packed) (p : Packed) → said_queue (with_packet q p) ≡ with_packet (said_queue q) (said p)
packet_said q p = ap (λ (l : List Packet). record { packets = l; places = q.places; limit = q.limit }) (map-end q.packets p)

pub rest_said : (q : Queued Packed) (m : ℕ) → rest_of (said_queue q) m ≡ map said (rest_of q m)
rest_said q m = by (place_of q m)
  where
    by : (o : Option ℕ) → from_place (map said q.packets) o ≡ map said (from_place q.packets o)
    by None = refl
    by (Some place) = sym (map-drop place q.packets)

-- ---- members that come and go

pub with_said : (q : Queued Packed) (ms : List ℕ) → said_queue (with_members q ms) ≡ with_members (said_queue q) ms
with_said q [] = refl
with_said q (m ∷ ms) = with_said (with_member q m (length q.packets)) ms ∙ ap (λ n. with_members (with_member (said_queue q) m n) ms) (sym (length-said q.packets))

pub newcomers_said : (q : Queued Packed) (ms : List ℕ) → AreNewcomers (said_queue q) ms → AreNewcomers q ms
newcomers_said q [] new = tt
newcomers_said q (m ∷ ms) new =
    (new.0, newcomers_said (with_member q m (length q.packets)) ms (subst (λ n. AreNewcomers (with_member (said_queue q) m n) ms) (length-said q.packets) new.1))

pub with_packets : (q : Queued Packed) (ms : List ℕ) → (with_members q ms).packets ≡ q.packets
with_packets q [] = refl
with_packets q (m ∷ ms) = with_packets (with_member q m (length q.packets)) ms

pub without_said : (q : Queued Packed) (ms : List ℕ) → said_queue (without_members q ms) ≡ without_members (said_queue q) ms
without_said q [] = refl
without_said q (m ∷ ms) = without_said (without_member q m) ms

pub members_said : (q : Queued Packed) (ms : List ℕ) → AreMembers (said_queue q) ms → AreMembers q ms
members_said q [] all = tt
members_said q (m ∷ ms) all = (all.0, members_said (without_member q m) ms all.1)

pub without_packets : (q : Queued Packed) (ms : List ℕ) → (without_members q ms).packets ≡ q.packets
without_packets q [] = refl
without_packets q (m ∷ ms) = without_packets (without_member q m) ms

-- ---- what is so of all packets

module _ (P : Packed → Type 0) where
  pub all_dropped : (n : ℕ) (ps : List Packed) → AllByRecursion P ps → AllByRecursion P (drop n ps)
  all_dropped zero ps all = all
  all_dropped (suc n) [] all = tt
  all_dropped (suc n) (p ∷ ps) all = all_dropped n ps all.1

  pub all_end : (ps : List Packed) (p : Packed) → AllByRecursion P ps → P p → AllByRecursion P (ps ++ p ∷ [])
  all_end [] p all here = (here, tt)
  all_end (q ∷ ps) p all here = (all.0, all_end ps p all.1 here)

  some_same : (p q : Packed) → Some p ≡ Some q → p ≡ q
  some_same p q e = cc

  first_of : (ps : List Packed) (p : Packed) → AllByRecursion P ps → slice_get ps 0 ≡ Some p → P p
  first_of [] p all e = absurd cc
  first_of (q ∷ ps) p all e = subst P (some_same q p e) all.0

  pub first_left : (q : Queued Packed) (m : ℕ) (p : Packed) → AllByRecursion P q.packets → slice_get (rest_of q m) 0 ≡ Some p → P p
  first_left q m p all e = first_of (rest_of q m) p (by (place_of q m)) e
    where
      by : (o : Option ℕ) → AllByRecursion P (from_place q.packets o)
      by None = tt
      by (Some place) = all_dropped place q.packets all

first_said : (ps : List Packed) (o : Option Packed) → slice_get ps 0 ≡ o → slice_get (map said ps) 0 ≡ option_map said o
first_said [] o e = ap (option_map said) e
first_said (p ∷ ps) o e = ap (option_map said) e

pub next_left : (q : Queued Packed) (m : ℕ) (o : Option Packed) → o ≡ slice_get (rest_of q m) 0 → slice_get (rest_of (said_queue q) m) 0 ≡ option_map said o
next_left q m o e = ap (λ l. slice_get l 0) (rest_said q m) ∙ first_said (rest_of q m) o (sym e)

none_left : {T : Type 0} (xs : List T) → slice_get xs 0 ≡ None → xs ≡ []
none_left [] e = refl
none_left (x ∷ xs) e = absurd cc

pub nothing_left : (q : Queued Packed) (m : ℕ) → slice_get (rest_of q m) 0 ≡ None → rest_of (said_queue q) m ≡ []
nothing_left q m e = none_left (rest_of (said_queue q) m) (next_left q m None (sym e))

pub some_left : (q : Queued Packed) (m : ℕ) (p : Packed) → slice_get (rest_of q m) 0 ≡ Some p → 0 < length (rest_of q m)
some_left q m p e = by (rest_of q m) e
  where
    by : (ps : List Packed) → slice_get ps 0 ≡ Some p → 0 < length ps
    by [] e = absurd cc
    by (p ∷ ps) e = omega arith

pub all_rest : (P : Packed → Type 0) (q : Queued Packed) (m : ℕ) → AllByRecursion P q.packets → AllByRecursion P (rest_of q m)
all_rest P q m all = by (place_of q m)
  where
    by : (o : Option ℕ) → AllByRecursion P (from_place q.packets o)
    by None = tt
    by (Some place) = all_dropped P place q.packets all
