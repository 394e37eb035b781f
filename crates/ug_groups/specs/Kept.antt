-- What each machine of update groups keeps.
use Rattle.std.specs.Prelude.{◌≡◌, ℕ, ◌+◌, ◌≤◌, ◌<◌, Bool, true, false, List, length, slice_get, Some}
use Rattle.ug_world.specs.declared.peer_state.PeerState.{PeerState}
use Rattle.ug_world.specs.World.{World, key_in}
use Rattle.ug_world.specs.Good.{IsGoodWorld}
use Rattle.ug_world.specs.Kept.{ArePeers}
use Rattle.ug_speaker.specs.Counts.{sessions_at}
use Rattle.ug_group_rules.specs.Packets.{wanted_rows}
use Rattle.ug_group_rules.specs.Rules.{rest_due}
use Rattle.ug_groups.specs.Rows.{Row, Rows, row_at, IsRow}
use Rattle.ug_groups.specs.declared.member.Member.{Member}
use Rattle.ug_groups.specs.Members.{member_of, sub_at, is_sub, stands}

-- the members of each queue are the peers that sit in its subgroup,
abbrev pub AreSeated : Rows → List Member → Type 0
AreSeated rows members = (p g : ℕ) → stands p g rows ≡ is_sub g (sub_at p members)

-- and each has one
abbrev pub AreInhabited : Rows → Type 0
AreInhabited rows = (g : ℕ) (r : Row) → row_at g rows ≡ Some r → 0 < length r.queue.places

-- A subgroup desires what its key should have, and its queue is full where the settings say.
pub record IsTabled (w : World) (r : Row) : Type 0 where
  pub desires : r.sub.out.desired ≡ wanted_rows r.sub.key w
  pub limit : r.queue.limit ≡ w.local.queue_limit

abbrev pub AreTabled : World → Rows → Type 0
AreTabled w rows = (g : ℕ) (r : Row) → row_at g rows ≡ Some r → IsTabled w r

-- The peer is up, and the subgroup has its key.
pub record IsOwn (w : World) (s : PeerState) (r : Row) : Type 0 where
  pub up : s.up ≡ true
  pub key : r.sub.key ≡ key_in w s

-- who sits in a subgroup is of it
abbrev pub AreOwn : World → Rows → List Member → Type 0
AreOwn w rows members = (p g : ℕ) (s : PeerState) (r : Row) → slice_get w.peers p ≡ Some s → sub_at p members ≡ Some g → row_at g rows ≡ Some r → IsOwn w s r

-- There is room for the sessions that are still to begin, and each that isn't lost was begun.
pub record HasRoom (sessions : ℕ) (m : Member) : Type 0 where
  pub spare : sessions ≤ m.begun + m.unlost.spare
  pub few : length m.unlost.items ≤ m.begun

abbrev pub HaveRoom : World → List Member → Type 0
HaveRoom w members = (p : ℕ) (m : Member) → slice_get members p ≡ Some m → HasRoom (sessions_at p w) m

-- a peer was handed, and has still to take, no more packets than were formatted
abbrev pub AreCounted : ℕ → Rows → List Member → Type 0
AreCounted made rows members = (p : ℕ) (m : Member) → slice_get members p ≡ Some m → m.handed + rest_due (member_of rows p m).seat ≤ made

-- Without memory there are no members any more, and no job may be done.
pub record IsKept (w : World) (closed : Bool) (made : ℕ) (rows : Rows) (members : List Member) : Type 0 where
  pub good : IsGoodWorld w
  pub peers : ArePeers w.peers
  pub all : closed ≡ false → length members ≡ length w.peers
  pub within : length members ≤ length w.peers
  pub seated : AreSeated rows members
  pub inhabited : AreInhabited rows
  pub tabled : AreTabled w rows
  pub own : AreOwn w rows members
  pub room : HaveRoom w members
  pub counted : AreCounted made rows members

-- what each row keeps by itself
abbrev pub AreRows : Rows → Type 0
AreRows rows = (g : ℕ) (r : Row) → row_at g rows ≡ Some r → IsRow r
