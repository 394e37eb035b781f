-- What a world keeps, it keeps.
use Rattle.std.proofs.Common.{◌≡◌, ℕ, ◌+◌, ◌≤◌, Bool, true, false, ◌&&◌, List, [], ◌∷◌, map, refl, ap, ◌∙◌, arith}
use Rattle.std.specs.Prelude.{nat_le, if◌then◌else◌}
use Rattle.std.proofs.lemmas.Bool.Decides.{nat_tests}
use Rattle.ug_types.specs.Bytes.{same_bytes}
use Rattle.ug_policy.specs.Named.{NamedList}
use Rattle.ug_outbound.specs.declared.policy.Policy.{Policy}
use Rattle.ug_world.specs.declared.peer_state.PeerState.{PeerState}
use Rattle.ug_world.specs.After.{changed_peer}
use Rattle.ug_world.specs.Names.{are_distinct}
use Rattle.ug_world.specs.Kept.{name_of, are_sessions_within, is_no_policy, IsWorld}

first_of : (a b : Bool) → (a && b) ≡ true → a ≡ true
first_of true b e = refl
first_of false b e = e

second_of : (a b : Bool) → (a && b) ≡ true → b ≡ true
second_of true b e = e
second_of false b e = absurd cc

both : (a b : Bool) → a ≡ true → b ≡ true → (a && b) ≡ true
both true b e f = f
both false b e f = e

raised : (n v w : ℕ) → v ≤ w → nat_le n v ≡ true → nat_le n w ≡ true
raised n v w le e = grind (arith, nat_tests)

pub sessions_up_to : (v w : ℕ) (xs : List PeerState) → v ≤ w → are_sessions_within v xs ≡ true → are_sessions_within w xs ≡ true
sessions_up_to v w [] le e = refl
sessions_up_to v w (s ∷ xs) le e =
    both (nat_le s.sessions w) (are_sessions_within w xs) (raised s.sessions v w le (first_of (nat_le s.sessions v) (are_sessions_within v xs) e))
    (sessions_up_to v w xs le (second_of (nat_le s.sessions v) (are_sessions_within v xs) e))

one_more : (n m v : ℕ) → m ≤ n + 1 → nat_le n v ≡ true → nat_le m (v + 1) ≡ true
one_more n m v le e = grind (arith, nat_tests)

sessions_next : (v : ℕ) (name : List ℕ) (change : PeerState → PeerState) (xs : List PeerState) → ((s : PeerState) → (change s).sessions ≤ s.sessions + 1)
    → are_sessions_within v xs ≡ true → are_sessions_within (v + 1) (map (changed_peer name change) xs) ≡ true
sessions_next v name change [] few e = refl
sessions_next v name change (s ∷ xs) few e =
    both (nat_le (changed_peer name change s).sessions (v + 1)) (are_sessions_within (v + 1) (map (changed_peer name change) xs))
    (one (same_bytes s.peer.name name) (first_of (nat_le s.sessions v) (are_sessions_within v xs) e))
    (sessions_next v name change xs few (second_of (nat_le s.sessions v) (are_sessions_within v xs) e))
  where
    one : (b : Bool) → nat_le s.sessions v ≡ true → nat_le (if b then change s else s).sessions (v + 1) ≡ true
    one true h = one_more s.sessions (change s).sessions v (few s) h
    one false h = one_more s.sessions s.sessions v (omega arith) h

module _ (none : Policy) (version : ℕ) (peers : List PeerState) (lists : List NamedList) (world : IsWorld none version peers lists) where
  pub plain : is_no_policy none ≡ true
  plain = first_of (is_no_policy none) (are_sessions_within version peers && are_distinct (map name_of lists)) world

  pub within : are_sessions_within version peers ≡ true
  within = first_of (are_sessions_within version peers) (are_distinct (map name_of lists)) (second_of (is_no_policy none) (are_sessions_within version peers && are_distinct (map name_of lists)) world)

  pub distinct : are_distinct (map name_of lists) ≡ true
  distinct = second_of (are_sessions_within version peers) (are_distinct (map name_of lists)) (second_of (is_no_policy none) (are_sessions_within version peers && are_distinct (map name_of lists)) world)

  pub world_with_peer : (name : List ℕ) (change : PeerState → PeerState) (new : List PeerState) → new ≡ map (changed_peer name change) peers → ((s : PeerState) → (change s).sessions ≤ s.sessions + 1)
      → IsWorld none (version + 1) new lists
  world_with_peer name change new is few =
      both (is_no_policy none) (are_sessions_within (version + 1) new && are_distinct (map name_of lists)) plain
      (both (are_sessions_within (version + 1) new) (are_distinct (map name_of lists))
      (ap (are_sessions_within (version + 1)) is ∙ sessions_next version name change peers few within) distinct)

  pub world_later : IsWorld none (version + 1) peers lists
  world_later =
      both (is_no_policy none) (are_sessions_within (version + 1) peers && are_distinct (map name_of lists)) plain
      (both (are_sessions_within (version + 1) peers) (are_distinct (map name_of lists)) (sessions_up_to version (version + 1) peers (omega arith) within) distinct)

  pub world_with_lists : (new : List NamedList) → map name_of new ≡ map name_of lists → IsWorld none (version + 1) peers new
  world_with_lists new is =
      both (is_no_policy none) (are_sessions_within (version + 1) peers && are_distinct (map name_of new)) plain
      (both (are_sessions_within (version + 1) peers) (are_distinct (map name_of new)) (sessions_up_to version (version + 1) peers (omega arith) within) (ap are_distinct is ∙ distinct))
