-- The keys of the subgroups are those of the live peers.
use Rattle.std.proofs.Common.{◌≡◌, ℕ, ◌+◌, ◌≤◌, zero, suc, Bool, true, false, cond, List, [], ◌∷◌, ◌++◌, length, map, slice_get, Option, Some, None, refl, sym, ◌∙◌, ap, subst, arith}
use Rattle.std.specs.Prelude.{◌||◌, ◌&&◌, not, filter}
use Rattle.std.proofs.lemmas.Map.Made.{length-le_from_is_member}
use Rattle.ug_types.specs.Messages.{Message}
use Rattle.ug_board.specs.History.{replay}
use Rattle.ug_board.specs.Deeds.{Deed, when}
use Rattle.ug_outbound.specs.declared.key.GroupKey.{GroupKey}
use Rattle.ug_world.specs.declared.peer_state.PeerState.{PeerState}
use Rattle.ug_world.specs.World.{World, key_in}
use Rattle.ug_speaker.specs.Told.{deeds_to, is_lost, is_live as is_live_in}
use Rattle.ug_speaker.proofs.Bools.{both_so}
use Rattle.ug_group_rules.specs.Packets.{same_group}
use Rattle.ug_group_rules.specs.Machine.{Subgroup, Seat, Member, System}
use Rattle.ug_group_rules.specs.Evaluations.{has_key, live_keys}
use Rattle.ug_group_rules.specs.Rules.{group_rules, group_speech}
use Rattle.ug_group_rules.specs.PeerKeys.{keys_of_live, peer_keys, up_keys}
use Rattle.ug_group_rules.proofs.Groups.{group-same}
use Rattle.ug_group_rules.proofs.Keys.{laws, or-so, live-met, live-found, unique-met, unique-distinct}
use Rattle.ug_group_rules.proofs.Seated.{is_live, IsPlaced, IsPlacedAt, IsSystem, member-of}
use Rattle.ug_group_rules.proofs.SubgroupMembers.{AreHeld}
use Rattle.ug_group_rules.proofs.Histories.{GroupEntry}

same_tests : (a b : Bool) → (a ≡ true → b ≡ true) → (b ≡ true → a ≡ true) → a ≡ b
same_tests true b there back = sym (there refl)
same_tests false true there back = absurd (let e = back refl in cc)
same_tests false false there back = refl

-- ---- lists of peers

module _ (w opening : World) (h : List GroupEntry) where
  abbrev Live : ℕ → PeerState → Bool
  Live p s = is_live_in group_rules group_speech p s opening h

  listed : (p : ℕ) (peers : List PeerState) (i : ℕ) (s : PeerState) → slice_get peers i ≡ Some s → Live (p + i) s ≡ true → has_key (keys_of_live w p peers opening h) (key_in w s) ≡ true
  listed p [] i s is live = absurd cc
  listed p (x ∷ peers) zero s is live = by
    where
      same : x ≡ s
      same = cc

      here : Live p x ≡ true
      here = let number : p + 0 ≡ p = omega arith in ap (Live p) same ∙ subst (λ (k : ℕ). Live k s ≡ true) number live

      by : has_key (when (Live p x) (key_in w x ∷ []) ++ keys_of_live w (p + 1) peers opening h) (key_in w s) ≡ true
      by =
          ap (λ (b : Bool). has_key (when b (key_in w x ∷ []) ++ keys_of_live w (p + 1) peers opening h) (key_in w s)) here
          ∙ ap (λ (b : Bool). b || has_key (keys_of_live w (p + 1) peers opening h) (key_in w s)) (ap (λ (y : PeerState). same_group (key_in w s) (key_in w y)) same ∙ laws.refl (key_in w s))
  listed p (x ∷ peers) (suc i) s is live = by (Live p x) (let number : p + suc i ≡ p + 1 + i = omega arith in listed (p + 1) peers i s is (subst (λ (k : ℕ). Live k s ≡ true) number live))
    where
      by : (b : Bool) → has_key (keys_of_live w (p + 1) peers opening h) (key_in w s) ≡ true → has_key (when b (key_in w x ∷ []) ++ keys_of_live w (p + 1) peers opening h) (key_in w s) ≡ true
      by true rest = or-so (same_group (key_in w s) (key_in w x)) (has_key (keys_of_live w (p + 1) peers opening h) (key_in w s)) rest
      by false rest = rest

  record IsListed (p : ℕ) (peers : List PeerState) (k : GroupKey) : Type 0 where
    place : ℕ
    peer : PeerState
    is : slice_get peers place ≡ Some peer
    live : Live (p + place) peer ≡ true
    same : key_in w peer ≡ k

  listed_behind : (p : ℕ) (x : PeerState) (peers : List PeerState) (k : GroupKey) → IsListed (p + 1) peers k → IsListed p (x ∷ peers) k
  listed_behind p x peers k found = let number : p + 1 + found.place ≡ p + suc found.place = omega arith in
      record { place = suc found.place; peer = found.peer; is = found.is; live = subst (λ (j : ℕ). Live j found.peer ≡ true) number found.live; same = found.same }

  unlisted : (p : ℕ) (peers : List PeerState) (k : GroupKey) → has_key (keys_of_live w p peers opening h) k ≡ true → IsListed p peers k
  unlisted p [] k is = absurd cc
  unlisted p (x ∷ peers) k is = by (Live p x) refl (same_group k (key_in w x)) refl is (λ there. unlisted (p + 1) peers k there)
    where
      by : (b : Bool) → Live p x ≡ b → (c : Bool) → same_group k (key_in w x) ≡ c → has_key (when b (key_in w x ∷ []) ++ keys_of_live w (p + 1) peers opening h) k ≡ true
          → (has_key (keys_of_live w (p + 1) peers opening h) k ≡ true → IsListed (p + 1) peers k) → IsListed p (x ∷ peers) k
      by true live true e is rest =
          let number : p ≡ p + 0 = omega arith in record { place = 0; peer = x; is = refl; live = subst (λ (j : ℕ). Live j x ≡ true) number live; same = sym (group-same k (key_in w x) e) }
      by true live false e is rest = listed_behind p x peers k (rest (ap (λ (b : Bool). b || has_key (keys_of_live w (p + 1) peers opening h) k) (sym e) ∙ is))
      by false live c e is rest = listed_behind p x peers k (rest is)

-- ---- peers that are up

up_listed : (w : World) (peers : List PeerState) (i : ℕ) (s : PeerState) → slice_get peers i ≡ Some s → s.up ≡ true → has_key (map (key_in w) (filter (λ (x : PeerState). x.up) peers)) (key_in w s) ≡ true
up_listed w [] i s is up = absurd cc
up_listed w (x ∷ peers) zero s is up =
    let same : x ≡ s = cc in
    ap (λ (b : Bool). has_key (map (key_in w) (cond b (x ∷ filter (λ (y : PeerState). y.up) peers) (filter (λ (y : PeerState). y.up) peers))) (key_in w s)) (ap (λ (y : PeerState). y.up) same ∙ up)
    ∙ ap (λ (b : Bool). b || has_key (map (key_in w) (filter (λ (y : PeerState). y.up) peers)) (key_in w s)) (ap (λ (y : PeerState). same_group (key_in w s) (key_in w y)) same ∙ laws.refl (key_in w s))
up_listed w (x ∷ peers) (suc i) s is up = by x.up (up_listed w peers i s is up)
  where
    by : (b : Bool) → has_key (map (key_in w) (filter (λ (y : PeerState). y.up) peers)) (key_in w s) ≡ true
        → has_key (map (key_in w) (cond b (x ∷ filter (λ (y : PeerState). y.up) peers) (filter (λ (y : PeerState). y.up) peers))) (key_in w s) ≡ true
    by true rest = or-so (same_group (key_in w s) (key_in w x)) (has_key (map (key_in w) (filter (λ (y : PeerState). y.up) peers)) (key_in w s)) rest
    by false rest = rest

-- ---- in a history

-- a live peer of this key
pub record IsLivePeer (opening : World) (h : List GroupEntry) (k : GroupKey) : Type 0 where
  pub place : ℕ
  pub peer : PeerState
  pub is : slice_get (replay group_rules opening h).world.peers place ≡ Some peer
  pub live : is_live_in group_rules group_speech place peer opening h ≡ true
  pub same : key_in (replay group_rules opening h).world peer ≡ k

module _ (opening : World) (h : List GroupEntry) (worlds : List World) (system : IsSystem worlds (λ p. deeds_to group_rules group_speech p opening h) (replay group_rules opening h)) where
  abbrev here : System
  here = replay group_rules opening h

  abbrev deeds_at : ℕ → List (Deed Message)
  deeds_at p = deeds_to group_rules group_speech p opening h

  live_is : (p : ℕ) (s : PeerState) (m : Member) → IsPlaced p worlds (deeds_at p) s m here.subgroups (key_in here.world s) → is_live_in group_rules group_speech p s opening h ≡ is_live s m
  live_is p s m placed = ap (λ (b : Bool). s.up && not b) (placed.counted.lost s.sessions)

  pub keys-live : (p : ℕ) (s : PeerState) → slice_get here.world.peers p ≡ Some s → is_live_in group_rules group_speech p s opening h ≡ true → has_key (live_keys here) (key_in here.world s) ≡ true
  keys-live p s is live = let found = member-of p worlds (deeds_at p) here s is (system.placed p) in by found.0 found.2 found.0.seat refl
    where
      by : (m : Member) → IsPlaced p worlds (deeds_at p) s m here.subgroups (key_in here.world s) → (o : Option Seat) → m.seat ≡ o → has_key (live_keys here) (key_in here.world s) ≡ true
      by m placed None at = let dead = placed.empty at in let alive = sym (live_is p s m placed) ∙ live in absurd cc
      by m placed (Some t) at =
          let sat = placed.sat t at in
          subst (λ (k : GroupKey). has_key (live_keys here) k ≡ true) sat.key_is (live-met here t.sub sat.subgroup sat.there)

  module _ (held : AreHeld here) where
    seated_peer : (g : ℕ) (x : Subgroup) → slice_get here.subgroups g ≡ Some (Some x) → (p : ℕ) (m : Member) (t : Seat) → slice_get here.members p ≡ Some m → m.seat ≡ Some t → t.sub ≡ g
        → (o : Option PeerState) (u : Option Member) → slice_get here.world.peers p ≡ o → u ≡ Some m → IsPlacedAt p worlds (deeds_at p) here.world here.subgroups o u → IsLivePeer opening h x.key
    seated_peer g x there p m t is at sub None None peer same placed = absurd cc
    seated_peer g x there p m t is at sub None (Some n) peer same placed = absurd placed
    seated_peer g x there p m t is at sub (Some s) None peer same placed = absurd placed
    seated_peer g x there p m t is at sub (Some s) (Some n) peer same placed =
        let one : n ≡ m = cc in
        let here_placed : IsPlaced p worlds (deeds_at p) s m here.subgroups (key_in here.world s) = subst (λ (v : Member). IsPlaced p worlds (deeds_at p) s v here.subgroups (key_in here.world s)) one placed in
        let sat = here_placed.sat t at in
        let both : Some (Some sat.subgroup) ≡ Some (Some x) = sym sat.there ∙ ap (slice_get here.subgroups) sub ∙ there in
        let group : sat.subgroup ≡ x = cc in
        record { place = p; peer = s; is = peer; live = live_is p s m here_placed ∙ sat.live; same = sym sat.key_is ∙ ap (λ (y : Subgroup). y.key) group }

    pub keys-held : (k : GroupKey) → has_key (live_keys here) k ≡ true → IsLivePeer opening h k
    keys-held k is =
        let found = live-found here k is in
        let sat = held found.place found.subgroup found.is in
        subst (λ (j : GroupKey). IsLivePeer opening h j) found.same
        (seated_peer found.place found.subgroup found.is sat.place sat.member sat.seat sat.is sat.at sat.there (slice_get here.world.peers sat.place) (slice_get here.members sat.place) refl sat.is (system.placed sat.place))

    keys_there : (k : GroupKey) → has_key (live_keys here) k ≡ true → has_key (keys_of_live here.world 0 here.world.peers opening h) k ≡ true
    keys_there k is =
        let found = keys-held k is in
        let number : found.place ≡ 0 + found.place = omega arith in
        subst (λ (j : GroupKey). has_key (keys_of_live here.world 0 here.world.peers opening h) j ≡ true) found.same
        (listed here.world opening h 0 here.world.peers found.place found.peer found.is (subst (λ (j : ℕ). is_live_in group_rules group_speech j found.peer opening h ≡ true) number found.live))

    keys_back : (k : GroupKey) → has_key (keys_of_live here.world 0 here.world.peers opening h) k ≡ true → has_key (live_keys here) k ≡ true
    keys_back k is =
        let found = unlisted here.world opening h 0 here.world.peers k is in
        let number : 0 + found.place ≡ found.place = omega arith in
        subst (λ (j : GroupKey). has_key (live_keys here) j ≡ true) found.same
        (keys-live found.place found.peer found.is (subst (λ (j : ℕ). is_live_in group_rules group_speech j found.peer opening h ≡ true) number found.live))

    pub keys-same : (k : GroupKey) → has_key (live_keys here) k ≡ has_key (peer_keys opening h) k
    keys-same k =
        same_tests (has_key (live_keys here) k) (has_key (keys_of_live here.world 0 here.world.peers opening h) k) (keys_there k) (keys_back k)
        ∙ sym (unique-met (keys_of_live here.world 0 here.world.peers opening h) k)

    keys_up : (k : GroupKey) → has_key (peer_keys opening h) k ≡ true → has_key (up_keys here.world) k ≡ true
    keys_up k is =
        let found = keys-held k (keys-same k ∙ is) in
        let up = (both_so found.peer.up (not (is_lost group_rules group_speech found.place found.peer.sessions opening h)) found.live).0 in
        subst (λ (j : GroupKey). has_key (up_keys here.world) j ≡ true) found.same
        (unique-met (map (key_in here.world) (filter (λ (s : PeerState). s.up) here.world.peers)) (key_in here.world found.peer) ∙ up_listed here.world here.world.peers found.place found.peer found.is up)

    -- no more keys are those of live peers than those of peers that are up
    pub keys-fewer : length (peer_keys opening h) ≤ length (up_keys here.world)
    keys-fewer = length-le_from_is_member laws (peer_keys opening h) (up_keys here.world) (unique-distinct (keys_of_live here.world 0 here.world.peers opening h)) keys_up
