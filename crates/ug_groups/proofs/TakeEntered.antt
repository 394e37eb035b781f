-- The machine when an event was entered: the world is the one after it, and each subgroup desires what its key should have there.
use Rattle.std.proofs.Common.{◌≡◌, ℕ, ◌+◌, ◌<◌, ◌≤◌, Bool, false, ◌&&◌, List, [], ◌∷◌, length, map, slice_get, Option, Some, None, refl, sym, ap, subst, ◌∙◌}
use Rattle.std.specs.Prelude.{nat_le}
use Rattle.std.specs.Option.{option_map}
use Rattle.std.proofs.lemmas.List.{length-map}
use Rattle.std.proofs.lemmas.Option.{slice_get-map}
use Rattle.ug_outbound.specs.declared.key.GroupKey.{GroupKey}
use Rattle.ug_outbound.specs.declared.settings.Local.{Local}
use Rattle.ug_events.specs.Events.{Happening, ComesUp, GoesDown, HasPaths, HasNone, HasPolicy, HasEntries, AsksAgain, SendsRequest, SendsList, IsEvent}
use Rattle.ug_world.specs.declared.peer_state.PeerState.{PeerState}
use Rattle.ug_world.specs.World.{World, key_in}
use Rattle.ug_world.specs.After.{after}
use Rattle.ug_world.specs.Names.{are_distinct}
use Rattle.ug_world.specs.Good.{IsGoodWorld}
use Rattle.ug_world.specs.Kept.{peer_name, ArePeers}
use Rattle.ug_world.proofs.GoodWorlds.{good-after}
use Rattle.ug_speaker.proofs.Peers.{peer_after, peers-after, next-of}
use Rattle.ug_group_rules.specs.Machine as machine
use Rattle.ug_group_rules.specs.Machine.{Subgroup, in_world, retabled}
use Rattle.ug_group_rules.specs.Rules.{rest_due}
use Rattle.ug_group_rules.specs.Evaluations.{keys_from, paths_touched}
use Rattle.ug_groups.specs.Rows.{Row, Rows, row_at, any_at, sub_of, subs_of, keys_in, each_row}
use Rattle.ug_groups.specs.Entered.{retabled_row, entering}
use Rattle.ug_groups.specs.declared.member.Member.{Member}
use Rattle.ug_groups.specs.Members.{rest_in, member_of, members_from, system, is_queued, stands}
use Rattle.ug_groups.specs.Kept.{IsTabled, IsOwn, HaveRoom, AreCounted, IsKept}
use Rattle.ug_groups.specs.Turns.{named_by, IsBeside}
use Rattle.ug_groups.proofs.ListFacts.{same-lists}
use Rattle.ug_groups.proofs.RowsAt.{each-at, each-cases}
use Rattle.ug_groups.proofs.MemberViews.{same-member, none-changed}
use Rattle.ug_groups.proofs.EvaluatedTurns.{keys-retabled, sum-none}
use Rattle.ug_groups.proofs.TakeNames.{touches-none}

-- ---- what an event leaves of the world

pub local-after : (e : Happening) (w : World) → (after w e).local ≡ w.local
unfolding after
local-after (ComesUp name) w = refl
local-after (GoesDown name) w = refl
local-after (AsksAgain name) w = refl
local-after (SendsRequest name) w = refl
local-after (SendsList name request) w = refl
local-after (HasPolicy name policy) w = refl
local-after (HasEntries name entries) w = refl
local-after (HasPaths prefix paths) w = refl
local-after (HasNone prefix) w = refl

pub key-after : (e : Happening) (w : World) (s : PeerState) → key_in w s ≡ key_in (after w e) s
unfolding after
key-after (ComesUp name) w s = refl
key-after (GoesDown name) w s = refl
key-after (AsksAgain name) w s = refl
key-after (SendsRequest name) w s = refl
key-after (SendsList name request) w s = refl
key-after (HasPolicy name policy) w s = refl
key-after (HasEntries name entries) w s = refl
key-after (HasPaths prefix paths) w s = refl
key-after (HasNone prefix) w s = refl

names-after : (e : Happening) (w : World) → map peer_name (after w e).peers ≡ map peer_name w.peers
names-after e w =
    same-lists (map peer_name (after w e).peers) (map peer_name w.peers)
    (λ p. slice_get-map peer_name (after w e).peers p ∙ ap (option_map peer_name) (peers-after e w p) ∙ by (slice_get w.peers p) ∙ sym (slice_get-map peer_name w.peers p))
  where
    by : (o : Option PeerState) → option_map peer_name (option_map (peer_after e) o) ≡ option_map peer_name o
    by None = refl
    by (Some s) = ap (λ (n : List ℕ). Some n) (next-of e s).named

pub count-after : (e : Happening) (w : World) → length (after w e).peers ≡ length w.peers
count-after e w = sym (length-map (after w e).peers peer_name) ∙ ap (λ (l : List (List ℕ)). length l) (names-after e w) ∙ length-map w.peers peer_name

peers-kept : (e : Happening) (w : World) → ArePeers w.peers → ArePeers (after w e).peers
peers-kept e w kept =
    ap (λ (names : List (List ℕ)). are_distinct names && nat_le (length (after w e).peers) 64) (names-after e w)
    ∙ ap (λ (n : ℕ). are_distinct (map peer_name w.peers) && nat_le n 64) (count-after e w) ∙ kept

-- ---- each subgroup is retabled

module _ (w : World) (rows : Rows) (members : List Member) where
  abbrev pub entered : Rows
  entered = each_row (retabled_row w) rows

  rest-entered : (q g : ℕ) → rest_in q (row_at g entered) ≡ rest_in q (row_at g rows)
  rest-entered q g = ap (rest_in q) (each-at g (retabled_row w) rows) ∙ by (row_at g rows)
    where
      by : (o : Option Row) → rest_in q (option_map (retabled_row w) o) ≡ rest_in q o
      by None = refl
      by (Some r) = refl

  member-entered : (q : ℕ) (m : Member) → member_of entered q m ≡ member_of rows q m
  member-entered q m = same-member rows entered q m (λ g sub. rest-entered q g)

  subs-entered : subs_of entered ≡ map (option_map (retabled w)) (subs_of rows)
  subs-entered = by rows
    where
      one : (o : Option Row) → option_map sub_of (option_map (retabled_row w) o) ≡ option_map (retabled w) (option_map sub_of o)
      one None = refl
      one (Some r) = refl

      by : (l : Rows) → subs_of (each_row (retabled_row w) l) ≡ map (option_map (retabled w)) (subs_of l)
      by [] = refl
      by (x ∷ l) = λ i. one x i ∷ by l i

  pub keys-entered : keys_in entered ≡ keys_in rows
  keys-entered = ap (keys_from []) subs-entered ∙ keys-retabled w [] (subs_of rows)

  pub entered-view : (old : World) (closed : Bool) (made : ℕ) → system w closed made entered members ≡ in_world w (system old closed made rows members)
  entered-view old closed made =
      ap (λ (l : List (Option Subgroup)). record { world = w; closed = closed; made = made; subgroups = l; members = members_from entered 0 members }) subs-entered
      ∙ ap (λ (l : List machine.Member). record { world = w; closed = closed; made = made; subgroups = map (option_map (retabled w)) (subs_of rows); members = l }) (none-changed rows entered members (λ q m at. member-entered q m))

  stands-entered : (q g : ℕ) → stands q g entered ≡ stands q g rows
  stands-entered q g = ap (any_at (is_queued q)) (each-at g (retabled_row w) rows) ∙ by (row_at g rows)
    where
      by : (o : Option Row) → any_at (is_queued q) (option_map (retabled_row w) o) ≡ any_at (is_queued q) o
      by None = refl
      by (Some r) = refl

  pub counted-entered : (made : ℕ) → AreCounted made rows members → AreCounted made entered members
  counted-entered made all q m at = subst (λ (x : machine.Member). m.handed + rest_due x.seat ≤ made) (sym (member-entered q m)) (all q m at)

  module _ (p : ℕ) (e : Happening) (old : World) (made : ℕ) (is : w ≡ after old e) (kept : IsKept old false made rows members) (form : IsEvent e) (others : (q : ℕ) → (q ≡ p → ⊥) → slice_get w.peers q ≡ slice_get old.peers q) (room : HaveRoom w members) where
    -- what is kept but for the peer at that place
    pub entered-beside : IsBeside p w entered members
    entered-beside = record {
      good = subst (λ (v : World). IsGoodWorld v) (sym is) (good-after old e kept.good form);
      peers = subst (λ (v : World). ArePeers v.peers) (sym is) (peers-kept e old kept.peers);
      all = kept.all refl ∙ sym (count-after e old) ∙ ap (λ (v : World). length v.peers) (sym is);
      seated = λ q g. stands-entered q g ∙ kept.seated q g;
      inhabited = λ g r at. let found = each-cases g (retabled_row w) rows r at in subst (λ (x : Row). 0 < length x.queue.places) (sym found.2) (kept.inhabited g found.0 found.1);
      tabled = λ g r at.
          let found = each-cases g (retabled_row w) rows r at in
          subst (IsTabled w) (sym found.2)
          (record { desires = refl; limit = (kept.tabled g found.0 found.1).limit ∙ ap (λ (l : Local). l.queue_limit) (sym (local-after e old)) ∙ ap (λ (v : World). v.local.queue_limit) (sym is) });
      own = λ q g s r differs peer sits at.
          let found = each-cases g (retabled_row w) rows r at in
          let was = kept.own q g s found.0 (sym (others q differs) ∙ peer) sits found.1 in
          subst (IsOwn w s) (sym found.2) (record { up = was.up; key = was.key ∙ key-after e old s ∙ ap (λ (v : World). key_in v s) (sym is) });
      room = room;
    }

-- what an event that is about a peer asks of the paths that it touches: nothing
pub entering-none : (e : Happening) (name : List ℕ) (w : World) (rows : Rows) → named_by e ≡ Some name → entering e w rows ≡ 0
entering-none e name w rows named = sum-none (λ (key : GroupKey). paths_touched e key (after w e)) (keys_in rows) (λ k is. touches-none e name named k (after w e))
