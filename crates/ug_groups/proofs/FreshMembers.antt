-- The system before any job, and what is left where memory ran out.
use Rattle.std.proofs.Common.{◌≡◌, ℕ, zero, suc, ◌+◌, ◌≤◌, Bool, true, false, List, [], ◌∷◌, ◌++◌, length, map, take, slice_get, Option, Some, None, refl, sym, ap, subst, ◌∙◌, arith}
use Rattle.std.specs.Prelude.{◌&&◌, nat_le, if◌then◌else◌}
use Rattle.std.specs.Option.{option_map}
use Rattle.std.proofs.lemmas.List.{length-map, take_all}
use Rattle.ug_types.specs.Bytes.{same_bytes}
use Rattle.ug_events.specs.Events.{Happening, ComesUp, GoesDown, HasPaths, HasNone, HasPolicy, HasEntries, AsksAgain, SendsRequest, SendsList}
use Rattle.ug_world.specs.declared.peer_state.PeerState.{PeerState}
use Rattle.ug_world.specs.World.{World}
use Rattle.ug_world.specs.After.{after, come_up, gone_down, with_policy, refiltered, with_orf, changed_peer}
use Rattle.ug_world.specs.Good.{IsGoodWorld}
use Rattle.ug_world.specs.Kept.{ArePeers, peer_name}
use Rattle.ug_world.specs.Names.{are_distinct}
use Rattle.ug_world.proofs.Starting.{fresh_peers_good}
use Rattle.ug_speaker.specs.Owes.{IsOpening}
use Rattle.ug_speaker.specs.Counts.{sessions_had}
use Rattle.ug_speaker.proofs.Worlds.{good-first}
use Rattle.ug_group_rules.specs.Rules.{rest_due}
use Rattle.ug_group_rules.specs.Machine as machine
use Rattle.ug_group_rules.specs.Machine.{fresh_member, start}
use Rattle.ug_groups.specs.Rows.{Rows}
use Rattle.ug_groups.specs.declared.member.Member.{Member}
use Rattle.ug_groups.specs.Members.{member_of, members_from, system, sub_in, sub_at, is_sub, seat_in}
use Rattle.ug_groups.specs.Kept.{IsKept}
use Rattle.ug_groups.specs.Fresh.{IsFresh, AreFresh}

-- ---- one peer more

pub fresh_push : (peers : List PeerState) (members : List Member) (p n : ℕ) (m : Member) → option_map (λ (s : PeerState). s.sessions) (slice_get peers p) ≡ Some n → AreFresh (take p peers) members → IsFresh n m → AreFresh (take (p + 1) peers) (members ++ m ∷ [])
fresh_push [] members p n m had are is = absurd cc
fresh_push (s ∷ peers) [] zero n m had are is = let same : s.sessions ≡ n = cc in (subst (λ (k : ℕ). IsFresh k m) (sym same) is, tt)
fresh_push (s ∷ peers) (x ∷ members) zero n m had are is = absurd are
fresh_push (s ∷ peers) [] (suc p) n m had are is = absurd are
fresh_push (s ∷ peers) (x ∷ members) (suc p) n m had are is =
    let e : suc p + 1 ≡ suc (p + 1) = omega arith in
    rw e (are.0, fresh_push peers members p n m had are.1 is)

pub fresh_end : (peers : List PeerState) (members : List Member) (p : ℕ) → length peers ≤ p → AreFresh (take p peers) members → AreFresh peers members
fresh_end peers members p past are = subst (λ (l : List PeerState). AreFresh l members) (take_all p peers past) are

-- ---- the first system

first-member : (rows : Rows) (p n : ℕ) (m : Member) → IsFresh n m → member_of rows p m ≡ fresh_member
first-member rows p n m is = λ i. record { begun = is.begun i; unlost = is.unlost i; handed = is.handed i; seat = option_map (seat_in rows p) (is.sub i) }

first-members : (rows : Rows) (k : ℕ) (peers : List PeerState) (members : List Member) → AreFresh peers members → members_from rows k members ≡ map (λ (s : PeerState). fresh_member) peers
first-members rows k [] [] are = refl
first-members rows k [] (m ∷ members) are = absurd are
first-members rows k (s ∷ peers) [] are = absurd are
first-members rows k (s ∷ peers) (m ∷ members) are =
    ap (λ (x : machine.Member). x ∷ members_from rows (k + 1) members) (first-member rows k s.sessions m are.0)
    ∙ ap (λ (l : List machine.Member). fresh_member ∷ l) (first-members rows (k + 1) peers members are.1)

fresh-at : (peers : List PeerState) (members : List Member) (p : ℕ) (m : Member) → AreFresh peers members → slice_get members p ≡ Some m → IsFresh (sessions_had (slice_get peers p)) m
fresh-at peers [] p m are is = absurd cc
fresh-at [] (x ∷ members) p m are is = absurd are
fresh-at (s ∷ peers) (x ∷ members) zero m are is = let same : x ≡ m = cc in subst (IsFresh s.sessions) same are.0
fresh-at (s ∷ peers) (x ∷ members) (suc p) m are is = fresh-at peers members p m are.1 is

fresh-length : (peers : List PeerState) (members : List Member) → AreFresh peers members → length members ≡ length peers
fresh-length [] [] are = refl
fresh-length [] (m ∷ members) are = absurd are
fresh-length (s ∷ peers) [] are = absurd are
fresh-length (s ∷ peers) (m ∷ members) are = ap suc (fresh-length peers members are.1)

none-seated : (peers : List PeerState) (members : List Member) (p : ℕ) → AreFresh peers members → sub_at p members ≡ None
none-seated peers members p are = by (slice_get members p) refl
  where
    by : (o : Option Member) → slice_get members p ≡ o → sub_in o ≡ None
    by None is = refl
    by (Some m) is = (fresh-at peers members p m are is).sub

pub first-kept : (w : World) (members : List Member) → IsOpening w → AreFresh w.peers members → IsKept w false 0 [] members
first-kept w members opening are = record {
  good = good-first w opening;
  peers = fresh_peers_good opening.parts opening.good w.peers (ap (λ (v : World). v.peers) opening.first);
  all = λ open_. fresh-length w.peers members are;
  within = let same = fresh-length w.peers members are in omega (arith, same);
  seated = λ p g. sym (ap (is_sub g) (none-seated w.peers members p are));
  inhabited = λ g r is. absurd cc;
  tabled = λ g r is. absurd cc;
  own = λ p g s r peer sits is. absurd cc;
  room = λ p m is.
      let it = fresh-at w.peers members p m are is in
      let none = ap (λ (l : List ℕ). length l) it.unlost in
      record { spare = let spare = it.spare in omega (arith, spare); few = omega (arith, none) };
  counted = λ p m is.
      let it = fresh-at w.peers members p m are is in
      let none : rest_due (member_of [] p m).seat ≡ 0 = ap (λ (o : Option ℕ). rest_due (option_map (seat_in [] p) o)) it.sub in
      let handed = it.handed in omega (arith, none, handed);
}

pub first-view : (w : World) (members : List Member) → AreFresh w.peers members → system w false 0 [] members ≡ start w
first-view w members are = ap (λ (l : List machine.Member). record { world = w; closed = false; made = 0; subgroups = []; members = l }) (first-members [] 0 w.peers members are)

-- ---- without memory

pub spent-kept : (w : World) (made : ℕ) → IsGoodWorld w → ArePeers w.peers → IsKept w true made [] []
spent-kept w made good peers = record {
  good = good;
  peers = peers;
  all = λ closed. absurd cc;
  within = omega arith;
  seated = λ p g. refl;
  inhabited = λ g r is. absurd cc;
  tabled = λ g r is. absurd cc;
  own = λ p g s r peer sits is. absurd cc;
  room = λ p m is. absurd cc;
  counted = λ p m is. absurd cc;
}

-- an event leaves the peers' names
changed-name : (name : List ℕ) (change : PeerState → PeerState) → ((s : PeerState) → peer_name (change s) ≡ peer_name s) → (s : PeerState) → peer_name (changed_peer name change s) ≡ peer_name s
changed-name name change keeps s = by (same_bytes s.peer.name name)
  where
    by : (b : Bool) → peer_name (if b then change s else s) ≡ peer_name s
    by true = keeps s
    by false = refl

changed-names : (name : List ℕ) (change : PeerState → PeerState) → ((s : PeerState) → peer_name (change s) ≡ peer_name s) → (peers : List PeerState) → map peer_name (map (changed_peer name change) peers) ≡ map peer_name peers
changed-names name change keeps [] = refl
changed-names name change keeps (s ∷ peers) =
    ap (λ (x : List ℕ). x ∷ map peer_name (map (changed_peer name change) peers)) (changed-name name change keeps s) ∙ ap (λ (l : List (List ℕ)). peer_name s ∷ l) (changed-names name change keeps peers)

changed-peers : (name : List ℕ) (change : PeerState → PeerState) → ((s : PeerState) → peer_name (change s) ≡ peer_name s) → (peers : List PeerState) → ArePeers peers → ArePeers (map (changed_peer name change) peers)
changed-peers name change keeps peers are =
    ap (λ (l : List (List ℕ)). are_distinct l && nat_le (length (map (changed_peer name change) peers)) 64) (changed-names name change keeps peers)
    ∙ ap (λ (n : ℕ). are_distinct (map peer_name peers) && nat_le n 64) (length-map peers (changed_peer name change)) ∙ are

pub peers-after : (e : Happening) (w : World) → ArePeers w.peers → ArePeers (after w e).peers
unfolding after
peers-after (ComesUp name) w are = changed-peers name come_up (λ s. refl) w.peers are
peers-after (GoesDown name) w are = changed-peers name gone_down (λ s. refl) w.peers are
peers-after (AsksAgain name) w are = changed-peers name refiltered (λ s. refl) w.peers are
peers-after (SendsRequest name) w are = changed-peers name refiltered (λ s. refl) w.peers are
peers-after (SendsList name request) w are = changed-peers name (with_orf request) (λ s. refl) w.peers are
peers-after (HasPolicy name policy) w are = changed-peers name (with_policy policy) (λ s. refl) w.peers are
peers-after (HasEntries name entries) w are = are
peers-after (HasPaths prefix paths) w are = are
peers-after (HasNone prefix) w are = are

-- the parts that are left
pub spent-by : (w : World) (closed : Bool) (made : ℕ) (rows : Rows) (members : List Member) (new : Rows) (now : List Member) → IsKept w closed made rows members → new ≡ [] → now ≡ [] → IsKept w true made new now
spent-by w closed made rows members new now kept none_left nobody =
    subst (λ (l : Rows). IsKept w true made l now) (sym none_left) (subst (λ (l : List Member). IsKept w true made [] l) (sym nobody) (spent-kept w made kept.good kept.peers))
