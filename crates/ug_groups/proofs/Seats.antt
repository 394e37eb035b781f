-- Who sits in a subgroup.
use Rattle.std.proofs.Common.{◌≡◌, ℕ, zero, suc, Bool, true, false, List, [], ◌∷◌, slice_get, Option, Some, None, refl, sym, ap, subst, ◌∙◌}
use Rattle.std.specs.Prelude.{◌&&◌}
use Rattle.std.specs.List.{list_all}
use Rattle.std.specs.Option.{option_map}
use Rattle.std.proofs.lemmas.Bool.{eq-eqb}
use Rattle.ug_types.specs.declared.route.PeerEnds.{PeerEnds}
use Rattle.ug_types.specs.declared.family.Family.TheVariants.{V4}
use Rattle.ug_message.specs.Spellable.{is_address}
use Rattle.ug_outbound.specs.declared.peer.Peer.{Peer}
use Rattle.ug_outbound.specs.declared.key.GroupKey.{GroupKey}
use Rattle.ug_outbound.specs.Keys.{ends_of}
use Rattle.ug_world.specs.declared.peer_state.PeerState.{PeerState}
use Rattle.ug_world.specs.World.{World}
use Rattle.ug_world.specs.Good.{is_peer_in_range}
use Rattle.ug_groups.specs.Rows.{Rows, row_at, HasRow, Sits}
use Rattle.ug_groups.specs.declared.member.Member.{Member}
use Rattle.ug_groups.specs.Members.{sub_at, is_sub, is_queued}
use Rattle.ug_groups.specs.Kept.{AreSeated, IsKept}
use Rattle.ug_groups.proofs.ListFacts.{some-same}
use Rattle.ug_groups.proofs.RowsAt.{any-some}
use Rattle.ug_groups.proofs.MemberViews.{sub-is}

-- who sits there is a member of the queue
pub sits-there : (rows : Rows) (members : List Member) (p g : ℕ) (m : Member) → slice_get members p ≡ Some m → m.sub ≡ Some g → AreSeated rows members → Sits p g rows
sits-there rows members p g m is sub seated =
    any-some (is_queued p) (row_at g rows) (seated p g ∙ ap (is_sub g) (sub-is p members m is ∙ sub) ∙ eq-eqb g g refl)

pub first-of : (a b : Bool) → (a && b) ≡ true → a ≡ true
first-of true b e = refl
first-of false b e = absurd cc

pub second-of : (a b : Bool) → (a && b) ≡ true → b ≡ true
second-of true b e = e
second-of false b e = absurd cc

all_at : (test : PeerState → Bool) (peers : List PeerState) (p : ℕ) (s : PeerState) → list_all test peers ≡ true → slice_get peers p ≡ Some s → test s ≡ true
all_at test [] p s all is = absurd cc
all_at test (x ∷ peers) zero s all is = let same : x ≡ s = cc in ap test (sym same) ∙ first-of (test x) (list_all test peers) all
all_at test (x ∷ peers) (suc p) s all is = all_at test peers p s (second-of (test x) (list_all test peers) all) is

peer-at : (o : Option PeerState) (peer : Peer) → option_map (λ (s : PeerState). s.peer) o ≡ Some peer → (s : PeerState) × (o ≡ Some s) × (s.peer ≡ peer)
peer-at None peer e = absurd cc
peer-at (Some s) peer e = (s, refl, cc)

-- its address is of the family of its sessions
pub own-address : (w : World) (closed : Bool) (made p : ℕ) (rows : Rows) (members : List Member) → IsKept w closed made rows members → (g : ℕ) (m : Member) → slice_get members p ≡ Some m → m.sub ≡ Some g
    → (peer : Peer) → option_map (λ (s : PeerState). s.peer) (slice_get w.peers p) ≡ Some peer → (ends : PeerEnds) → ends ≡ ends_of peer → HasRow g rows (λ r. is_address r.sub.key.family ends.local ≡ true)
own-address w closed made p rows members kept g m is sub peer at ends own =
    let row = sits-there rows members p g m is sub kept.seated in
    let found = peer-at (slice_get w.peers p) peer at in
    let s = found.0 in
    let fits = second-of (is_address V4 s.peer.router_id) (is_address s.peer.family s.peer.local_address) (all_at (λ (x : PeerState). is_peer_in_range x.peer) w.peers p s kept.good.in_range.peers found.1) in
    let key = (kept.own p g s row.0 found.1 (sub-is p members m is ∙ sub) row.1).key in
    let local : ends.local ≡ s.peer.local_address = ap (λ (e : PeerEnds). e.local) own ∙ ap (λ (x : Peer). x.local_address) (sym found.2) in
    (row.0, row.1, subst (λ (k : GroupKey). is_address k.family ends.local ≡ true) (sym key) (ap (is_address s.peer.family) local ∙ fits))

pub own-ends : (w : World) (p : ℕ) (peer : Peer) → option_map (λ (s : PeerState). s.peer) (slice_get w.peers p) ≡ Some peer → (ends : PeerEnds) → ends ≡ ends_of peer → (s : PeerState) → slice_get w.peers p ≡ Some s → ends ≡ ends_of s.peer
own-ends w p peer at ends own s is =
    let found = peer-at (slice_get w.peers p) peer at in
    let same : found.0 ≡ s = some-same found.0 s (sym found.1 ∙ is) in
    own ∙ ap ends_of (sym found.2 ∙ ap (λ (x : PeerState). x.peer) same)

pub sits-sub : (rows : Rows) (members : List Member) (p g : ℕ) → sub_at p members ≡ Some g → AreSeated rows members → Sits p g rows
sits-sub rows members p g sub seated = any-some (is_queued p) (row_at g rows) (seated p g ∙ ap (is_sub g) sub ∙ eq-eqb g g refl)

pub peer-name : (w : World) (p : ℕ) (peer : Peer) (s : PeerState) → option_map (λ (s : PeerState). s.peer) (slice_get w.peers p) ≡ Some peer → slice_get w.peers p ≡ Some s → s.peer.name ≡ peer.name
peer-name w p peer s at is =
    let found = peer-at (slice_get w.peers p) peer at in
    let same : found.0 ≡ s = some-same found.0 s (sym found.1 ∙ is) in
    ap (λ (x : PeerState). x.peer.name) (sym same) ∙ ap (λ (x : Peer). x.name) found.2
