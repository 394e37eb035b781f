-- What an event evaluates, by the keys of the live peers.
use Rattle.std.proofs.Common.{◌≡◌, ℕ, ◌≤◌, ◌*◌, Bool, true, false, List, [], ◌∷◌, ◌++◌, length, slice_get, Option, Some, None, refl, sym, ◌∙◌, ap, subst}
use Rattle.std.specs.Prelude.{◌==◌, not, if◌then◌else◌}
use Rattle.std.specs.List.{list_any, sum_by}
use Rattle.std.specs.Option.{option_map}
use Rattle.std.proofs.lemmas.List.{append-nil}
use Rattle.ug_types.specs.Bytes.{same_bytes}
use Rattle.ug_types.specs.Messages.{Message}
use Rattle.ug_board.specs.History.{replay, job_entry}
use Rattle.ug_board.specs.Deeds.{Deed, losses}
use Rattle.ug_outbound.specs.declared.key.GroupKey.{GroupKey}
use Rattle.ug_outbound.specs.Keys.{group_key_of}
use Rattle.ug_events.specs.Events.{Happening, ComesUp, GoesDown, HasPaths, HasNone, HasPolicy, HasEntries, AsksAgain, SendsRequest, SendsList}
use Rattle.ug_world.specs.declared.peer_state.PeerState.{PeerState}
use Rattle.ug_world.specs.World.{World, Routes, key_in, policy_named}
use Rattle.ug_world.specs.After.{after, gone_down, refiltered, with_orf, changed_peer}
use Rattle.ug_speaker.specs.Told.{worlds_of, deeds_to, is_lost, is_live as is_live_in}
use Rattle.ug_speaker.specs.Owes.{IsCourse}
use Rattle.ug_speaker.proofs.Bools.{both_so, both}
use Rattle.ug_speaker.proofs.Peers.{peer_after, peers-after}
use Rattle.ug_group_rules.specs.Packets.{same_group}
use Rattle.ug_group_rules.specs.Machine.{System, Take, take_event}
use Rattle.ug_group_rules.specs.Evaluations.{has_key, live_keys, paths_touched, all_heeded, evaluations_for, evaluations}
use Rattle.ug_group_rules.specs.Rules.{group_rules, group_speech}
use Rattle.ug_group_rules.specs.PeerKeys.{keys_of_live, peer_keys, up_keys, new_keys, pairs_with_all, pairs_asked, paths_at_most, sets_filter}
use Rattle.ug_group_rules.proofs.Keys.{laws, live-distinct, unique-distinct, sum-same}
use Rattle.ug_group_rules.proofs.Pairs.{AreKnown, new-none, pairs-of, pairs-few}
use Rattle.ug_group_rules.proofs.Seated.{IsSystem}
use Rattle.ug_group_rules.proofs.SubgroupMembers.{AreHeld}
use Rattle.ug_group_rules.proofs.SubgroupMembersTurns.{held-event}
use Rattle.ug_group_rules.proofs.SubgroupMembersSteps.{are-held}
use Rattle.ug_group_rules.proofs.WorldStays.{world-event}
use Rattle.ug_group_rules.proofs.Histories.{GroupEntry}
use Rattle.ug_group_rules.proofs.Courses.{system}
use Rattle.ug_group_rules.proofs.Marks.{replayed, nothing-told, system-later}
use Rattle.ug_group_rules.proofs.LiveKeys.{keys-live, keys-held, keys-same, keys-fewer}

-- ---- which peers keep their keys

-- of a world an event changes neither what is the speaker's own nor the policies
key_kept : (e : Happening) (w : World) (s : PeerState) → key_in (after w e) s ≡ key_in w s
unfolding after
key_kept (ComesUp name) w s = refl
key_kept (GoesDown name) w s = refl
key_kept (AsksAgain name) w s = refl
key_kept (SendsRequest name) w s = refl
key_kept (SendsList name request) w s = refl
key_kept (HasPolicy name policy) w s = refl
key_kept (HasEntries name entries) w s = refl
key_kept (HasPaths prefix paths) w s = refl
key_kept (HasNone prefix) w s = refl

-- who is up was up in the same session, with the same key
abbrev KeepsKey : World → PeerState → PeerState → Type 0
KeepsKey w s s' = s'.up ≡ true → (s.up ≡ true) × (s'.sessions ≡ s.sessions) × (key_in w s' ≡ key_in w s)

keeps_down : (name : List ℕ) (w : World) (s : PeerState) → KeepsKey w s (changed_peer name gone_down s)
keeps_down name w s = by (same_bytes s.peer.name name)
  where
    by : (b : Bool) → KeepsKey w s (if b then gone_down s else s)
    by true up = absurd cc
    by false up = (up, refl, refl)

keeps_filter : (name : List ℕ) (change : PeerState → PeerState) (w : World) (s : PeerState) → (change s).up ≡ s.up → (change s).sessions ≡ s.sessions → (change s).peer ≡ s.peer → (changed_peer name change s).filter ≡ s.filter
    → KeepsKey w s (changed_peer name change s)
keeps_filter name change w s up sessions peer filter = by (same_bytes s.peer.name name) filter
  where
    by : (b : Bool) → (if b then change s else s).filter ≡ s.filter → KeepsKey w s (if b then change s else s)
    by true same now = (sym up ∙ now, sessions, λ i. group_key_of w.local (peer i) (policy_named w.policies (peer i).policy) (same i))
    by false same now = (now, refl, refl)

keeps_set : (e : Happening) (w : World) (s : PeerState) → sets_filter e ≡ true → (peer_after e s).filter ≡ s.filter → KeepsKey w s (peer_after e s)
keeps_set (AsksAgain name) w s sets same = keeps_filter name refiltered w s refl refl refl same
keeps_set (SendsRequest name) w s sets same = keeps_filter name refiltered w s refl refl refl same
keeps_set (SendsList name request) w s sets same = keeps_filter name (with_orf request) w s refl refl refl same
keeps_set (ComesUp name) w s sets same = absurd cc
keeps_set (GoesDown name) w s sets same = absurd cc
keeps_set (HasPolicy name policy) w s sets same = absurd cc
keeps_set (HasEntries name entries) w s sets same = absurd cc
keeps_set (HasPaths prefix paths) w s sets same = absurd cc
keeps_set (HasNone prefix) w s sets same = absurd cc

-- ---- behind an event

module _ (opening : World) (h : List GroupEntry) (course : IsCourse group_rules group_speech opening h) (pass : ℕ) (e : Happening) (legal : group_rules.legal (Take e) (replay group_rules opening h) ≡ true) where
  abbrev here : System
  here = replay group_rules opening h

  abbrev later : List GroupEntry
  later = h ++ job_entry group_rules pass (Take e) here ∷ []

  abbrev now : World
  now = after here.world e

  replays : replay group_rules opening later ≡ take_event e here
  replays = replayed opening h course pass (Take e) legal

  world_is : (replay group_rules opening later).world ≡ now
  world_is = ap (λ (s : System). s.world) replays ∙ world-event e here

  held_later : AreHeld (replay group_rules opening later)
  held_later =
      subst (λ (s : System). AreHeld s) (sym replays)
      (held-event e (worlds_of group_rules group_speech opening h) (λ p. deeds_to group_rules group_speech p opening h) here (system opening h course) (are-held opening h course))

  same_here : (k : GroupKey) → has_key (live_keys here) k ≡ has_key (peer_keys opening h) k
  same_here = keys-same opening h (worlds_of group_rules group_speech opening h) (system opening h course) (are-held opening h course)

  after_system : (worlds : List World) × IsSystem worlds (λ p. deeds_to group_rules group_speech p opening later) (replay group_rules opening later)
  after_system = system-later opening h course pass (Take e) legal

  same_later : (k : GroupKey) → has_key (live_keys (replay group_rules opening later)) k ≡ has_key (peer_keys opening later) k
  same_later = keys-same opening later after_system.0 after_system.1 held_later

  lost_still : (p n : ℕ) → is_lost group_rules group_speech p n opening later ≡ is_lost group_rules group_speech p n opening h
  lost_still p n =
      ap (λ (ds : List (Deed Message)). list_any (λ (m : ℕ). m == n) (losses ds))
      (nothing-told opening h course pass (Take e) legal p ∙ append-nil (deeds_to group_rules group_speech p opening h))

  -- where peers keep their keys, none is new
  known : ((p : ℕ) (s : PeerState) → slice_get here.world.peers p ≡ Some s → KeepsKey here.world s (peer_after e s)) → (k : GroupKey) → has_key (peer_keys opening later) k ≡ true → has_key (peer_keys opening h) k ≡ true
  known keeps k is =
      let found = keys-held opening later after_system.0 after_system.1 held_later k (same_later k ∙ is) in
      let there : slice_get now.peers found.place ≡ Some found.peer = sym (ap (λ (w : World). slice_get w.peers found.place) world_is) ∙ found.is in
      let key : key_in here.world found.peer ≡ k = sym (key_kept e here.world found.peer) ∙ ap (λ (w : World). key_in w found.peer) (sym world_is) ∙ found.same in
      by found.place found.peer found.live key (slice_get here.world.peers found.place) refl (sym (peers-after e here.world found.place) ∙ there)
    where
      by : (p : ℕ) (s' : PeerState) → is_live_in group_rules group_speech p s' opening later ≡ true → key_in here.world s' ≡ k → (o : Option PeerState) → slice_get here.world.peers p ≡ o → option_map (peer_after e) o ≡ Some s'
          → has_key (peer_keys opening h) k ≡ true
      by p s' live key None at next = absurd cc
      by p s' live key (Some s) at next =
          let same : peer_after e s ≡ s' = cc in
          let parts = both_so s'.up (not (is_lost group_rules group_speech p s'.sessions opening later)) live in
          let kept : KeepsKey here.world s s' = subst (λ (x : PeerState). KeepsKey here.world s x) same (keeps p s at) in
          let stays = kept parts.0 in
          let not_lost : not (is_lost group_rules group_speech p s.sessions opening h) ≡ true =
          ap not (sym (lost_still p s.sessions)) ∙ ap (λ (n : ℕ). not (is_lost group_rules group_speech p n opening later)) (sym stays.1) ∙ parts.1
          in
          let alive = both s.up (not (is_lost group_rules group_speech p s.sessions opening h)) stays.0 not_lost in
          sym (same_here k)
          ∙ subst (λ (j : GroupKey). has_key (live_keys here) j ≡ true) (sym stays.2 ∙ key)
          (keys-live opening h (worlds_of group_rules group_speech opening h) (system opening h course) p s at alive)

-- what is so of the events that put no key in the place of another
are_known : (opening : World) (h : List GroupEntry) (course : IsCourse group_rules group_speech opening h) (pass : ℕ) (e : Happening) (legal : group_rules.legal (Take e) (replay group_rules opening h) ≡ true)
    → AreKnown e (peer_keys opening h) (peer_keys opening (h ++ job_entry group_rules pass (Take e) (replay group_rules opening h) ∷ []))
are_known opening h course pass (HasPaths prefix paths) legal = known opening h course pass (HasPaths prefix paths) legal (λ p s is up. (up, refl, refl))
are_known opening h course pass (HasNone prefix) legal = known opening h course pass (HasNone prefix) legal (λ p s is up. (up, refl, refl))
are_known opening h course pass (GoesDown name) legal = known opening h course pass (GoesDown name) legal (λ p s is. keeps_down name (replay group_rules opening h).world s)
are_known opening h course pass (ComesUp name) legal = tt
are_known opening h course pass (HasPolicy name policy) legal = tt
are_known opening h course pass (HasEntries name entries) legal = known opening h course pass (HasEntries name entries) legal (λ p s is up. (up, refl, refl))
are_known opening h course pass (AsksAgain name) legal = tt
are_known opening h course pass (SendsRequest name) legal = tt
are_known opening h course pass (SendsList name request) legal = tt

module _ (opening : World) (h : List GroupEntry) (course : IsCourse group_rules group_speech opening h) (pass : ℕ) (e : Happening) (legal : group_rules.legal (Take e) (replay group_rules opening h) ≡ true) where
  abbrev state : System
  state = replay group_rules opening h

  abbrev more : List GroupEntry
  more = h ++ job_entry group_rules pass (Take e) state ∷ []

  abbrev world : World
  world = after state.world e

  known_here : AreKnown e (peer_keys opening h) (peer_keys opening more)
  known_here = are_known opening h course pass e legal

  -- an event evaluates what it asks
  pub evaluates : evaluations e state ≡ pairs_asked e (peer_keys opening h) (peer_keys opening more) world
  evaluates =
      ap (λ (f : GroupKey → ℕ). sum_by f (live_keys (take_event e state)))
      (λ i key. if same_here opening h course pass e legal key i then paths_touched e key (world-event e state i) else all_heeded key.add_path (world-event e state i).routes)
      ∙ sum-same (evaluations_for e (peer_keys opening h) world) (live_keys (take_event e state)) (peer_keys opening more) (live-distinct (take_event e state)) (unique-distinct (keys_of_live (replay group_rules opening more).world 0 (replay group_rules opening more).world.peers opening more))
      (λ k. ap (λ (s : System). has_key (live_keys s) k) (sym (replays opening h course pass e legal)) ∙ same_later opening h course pass e legal k)
      ∙ pairs-of (peer_keys opening h) (peer_keys opening more) world e known_here

  pub evaluates-few : evaluations e state ≤ length (up_keys world) * paths_at_most e world.routes
  evaluates-few =
      let later_system = after_system opening h course pass e legal in
      let fewer : length (peer_keys opening more) ≤ length (up_keys world) =
      subst (λ (w : World). length (peer_keys opening more) ≤ length (up_keys w)) (world_is opening h course pass e legal) (keys-fewer opening more later_system.0 later_system.1 (held_later opening h course pass e legal))
      in
      subst (λ (n : ℕ). n ≤ length (up_keys world) * paths_at_most e world.routes) (sym evaluates) (pairs-few (peer_keys opening h) (peer_keys opening more) (up_keys world) fewer e world known_here)

  -- a request that puts no other filter in force evaluates nothing
  none_set : (d : Happening) (w : World) → sets_filter d ≡ true → new_keys (peer_keys opening h) (peer_keys opening more) ≡ [] → pairs_asked d (peer_keys opening h) (peer_keys opening more) w ≡ 0
  none_set (AsksAgain name) w sets none = ap (pairs_with_all w.routes) none
  none_set (SendsRequest name) w sets none = ap (pairs_with_all w.routes) none
  none_set (SendsList name request) w sets none = ap (pairs_with_all w.routes) none
  none_set (ComesUp name) w sets none = absurd cc
  none_set (GoesDown name) w sets none = absurd cc
  none_set (HasPolicy name policy) w sets none = absurd cc
  none_set (HasEntries name entries) w sets none = absurd cc
  none_set (HasPaths prefix paths) w sets none = absurd cc
  none_set (HasNone prefix) w sets none = absurd cc

  pub evaluates-none : sets_filter e ≡ true → ((p : ℕ) (s s' : PeerState) → slice_get state.world.peers p ≡ Some s → slice_get world.peers p ≡ Some s' → s'.filter ≡ s.filter) → evaluations e state ≡ 0
  evaluates-none sets same =
      let none =
      new-none (peer_keys opening h) (peer_keys opening more)
      (known opening h course pass e legal (λ p s is. keeps_set e state.world s sets (same p s (peer_after e s) is (peers-after e state.world p ∙ ap (option_map (peer_after e)) is))))
      in
      evaluates ∙ none_set e world sets none

-- ---- the keys of a course

module _ (opening : World) (h : List GroupEntry) (course : IsCourse group_rules group_speech opening h) where
  abbrev worlds : List World
  worlds = worlds_of group_rules group_speech opening h

  pub keys-told : (p : ℕ) (s : PeerState) → slice_get (replay group_rules opening h).world.peers p ≡ Some s → is_live_in group_rules group_speech p s opening h ≡ true
      → has_key (live_keys (replay group_rules opening h)) (key_in (replay group_rules opening h).world s) ≡ true
  keys-told = keys-live opening h worlds (system opening h course)

  pub keys-of-live : (k : GroupKey) → has_key (live_keys (replay group_rules opening h)) k ≡ true
      → (p : ℕ) × (s : PeerState) × (slice_get (replay group_rules opening h).world.peers p ≡ Some s) × (is_live_in group_rules group_speech p s opening h ≡ true) × (same_group (key_in (replay group_rules opening h).world s) k ≡ true)
  keys-of-live k is =
      let found = keys-held opening h worlds (system opening h course) (are-held opening h course) k is in
      (found.place, found.peer, found.is, found.live, ap (λ (j : GroupKey). same_group j k) found.same ∙ laws.refl k)
