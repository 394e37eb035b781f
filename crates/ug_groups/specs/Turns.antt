-- What the turn of one peer leaves, and how often it asks the outbound rules.
use Rattle.std.specs.Prelude.{◌≡◌, ℕ, ◌+◌, ◌≤◌, Bool, true, false, not, List, length, slice_get, Option, Some, None, is_some, if◌then◌else◌}
use Rattle.std.specs.Option.{option_map}
use Rattle.ug_outbound.specs.declared.key.GroupKey.{GroupKey}
use Rattle.ug_events.specs.Events.{Happening, ComesUp, GoesDown, HasPaths, HasNone, HasPolicy, HasEntries, AsksAgain, SendsRequest, SendsList}
use Rattle.ug_world.specs.declared.peer_state.PeerState.{PeerState}
use Rattle.ug_world.specs.World.{World}
use Rattle.ug_world.specs.Good.{IsGoodWorld}
use Rattle.ug_world.specs.Kept.{ArePeers}
use Rattle.ug_group_rules.specs.Packets.{same_group}
use Rattle.ug_group_rules.specs.Machine.{Turn, Leaves, Starts, Asks, Rekeys, Stays, with_turn, apart}
use Rattle.ug_group_rules.specs.Evaluations.{has_key}
use Rattle.ug_groups.specs.Rows.{Row, Rows, row_at, any_at, keys_in, with_next}
use Rattle.ug_groups.specs.Entered.{asking, fresh_row}
use Rattle.ug_groups.specs.declared.member.Member.{Member}
use Rattle.ug_groups.specs.Members.{system, sub_at}
use Rattle.ug_groups.specs.Kept.{AreSeated, AreInhabited, AreTabled, IsOwn, HaveRoom, AreCounted}

-- the peer that an event is about
abbrev pub named_by : Happening → Option (List ℕ)
named_by (ComesUp name) = Some name
named_by (GoesDown name) = Some name
named_by (HasPaths prefix paths) = None
named_by (HasNone prefix) = None
named_by (HasPolicy name policy) = Some name
named_by (HasEntries name entries) = None
named_by (AsksAgain name) = Some name
named_by (SendsRequest name) = Some name
named_by (SendsList name request) = Some name

-- the turn of a peer whose session goes on: by whether it sits in a subgroup, asks for all routes again, and has the key of that subgroup
abbrev pub turn_within : Bool → Bool → Bool → Turn
turn_within sits asks same = if not sits then Leaves else if asks then Asks else if same then Stays else Rekeys

-- the turn of the peer that an event is about
abbrev pub turn_by : Happening → Bool → Bool → Turn
turn_by (ComesUp name) sits same = Starts
turn_by (GoesDown name) sits same = Leaves
turn_by (HasPaths prefix paths) sits same = Stays
turn_by (HasNone prefix) sits same = Stays
turn_by (HasPolicy name policy) sits same = turn_within sits false same
turn_by (HasEntries name entries) sits same = Stays
turn_by (AsksAgain name) sits same = turn_within sits true same
turn_by (SendsRequest name) sits same = turn_within sits true same
turn_by (SendsList name request) sits same = turn_within sits request.now same

-- the subgroup of that number is of this key
abbrev pub is_of_key : GroupKey → Rows → Option ℕ → Bool
is_of_key key rows None = false
is_of_key key rows (Some g) = any_at (λ r. same_group r.sub.key key) (row_at g rows)

-- the turn of a peer whose session goes on, and which has this key now,
abbrev pub turn_going : Bool → ℕ → GroupKey → Rows → List Member → Turn
turn_going asks p key rows members = turn_within (is_some (sub_at p members)) asks (is_of_key key rows (sub_at p members))

-- and that of the peer that an event is about
abbrev pub turn_at : Happening → ℕ → GroupKey → Rows → List Member → Turn
turn_at e p key rows members = turn_by e (is_some (sub_at p members)) (is_of_key key rows (sub_at p members))

-- a turn evaluates a key that no subgroup had, where it gives one to a subgroup
abbrev pub asked_by : Turn → World → Rows → GroupKey → ℕ
asked_by Leaves w rows key = 0
asked_by Starts w rows key = asking w rows key
asked_by Asks w rows key = asking w rows key
asked_by Rekeys w rows key = asking w rows key
asked_by Stays w rows key = 0

-- the peer sits in a subgroup after it
abbrev pub Remains : Turn → Type 0
Remains Leaves = ⊥
Remains Starts = Unit {0}
Remains Asks = Unit {0}
Remains Rekeys = Unit {0}
Remains Stays = Unit {0}

-- All that each machine keeps, but for whether the subgroup of one peer is of it.
pub record IsBeside (p : ℕ) (w : World) (rows : Rows) (members : List Member) : Type 0 where
  pub good : IsGoodWorld w
  pub peers : ArePeers w.peers
  pub all : length members ≡ length w.peers
  pub seated : AreSeated rows members
  pub inhabited : AreInhabited rows
  pub tabled : AreTabled w rows
  pub own : (q g : ℕ) (s : PeerState) (r : Row) → (q ≡ p → ⊥) → slice_get w.peers q ≡ Some s → sub_at q members ≡ Some g → row_at g rows ≡ Some r → IsOwn w s r
  pub room : HaveRoom w members

-- The peer, which has this key now, has had its turn.
pub record IsTurned (turn : Turn) (p : ℕ) (key : GroupKey) (w : World) (rows : Rows) (members : List Member) (rows' : Rows) (members' : List Member) : Type 0 where
  pub state : (closed : Bool) (made : ℕ) → system w closed made rows' members' ≡ with_turn turn p key (system w closed made rows members)
  pub beside : IsBeside p w rows' members'
  pub own : (g : ℕ) (r : Row) → sub_at p members' ≡ Some g → row_at g rows' ≡ Some r → r.sub.key ≡ key
  pub remains : (g : ℕ) → sub_at p members' ≡ Some g → Remains turn
  pub counted : (made : ℕ) → AreCounted made rows members → AreCounted made rows' members'

-- It sits in that subgroup, and nobody else does.
pub record IsAlone (p g : ℕ) (members : List Member) : Type 0 where
  pub sits : sub_at p members ≡ Some g
  pub others : (q : ℕ) → sub_at q members ≡ Some g → q ≡ p

-- The peer, which sat in the subgroup of number `g`, sits alone in one of the same key, whose number is `own`.
pub record IsSplit (p g own : ℕ) (w : World) (rows : Rows) (members : List Member) (rows' : Rows) (members' : List Member) : Type 0 where
  pub state : (closed : Bool) (made : ℕ) → system w closed made rows' members' ≡ apart p (system w closed made rows members)
  pub beside : IsBeside p w rows' members'
  pub alone : IsAlone p own members'
  pub key : (r r' : Row) → row_at g rows ≡ Some r → row_at own rows' ≡ Some r' → r'.sub.key ≡ r.sub.key
  pub keys : (k : GroupKey) → has_key (keys_in rows') k ≡ has_key (keys_in rows) k
  pub counted : (made : ℕ) → AreCounted made rows members → AreCounted made rows' members'

-- the subgroups, among them the one that a session of this key joins: the first that it may share, or one more
abbrev pub opened_rows : GroupKey → World → Option ℕ → Rows → Rows
opened_rows key w (Some g) rows = rows
opened_rows key w None rows = with_next (fresh_row key w) rows

abbrev pub opened_at : Option ℕ → Rows → ℕ
opened_at (Some g) rows = g
opened_at None rows = length rows

-- all but what memory it holds
abbrev pub shown : Member → ℕ × List ℕ × ℕ × Option ℕ
shown m = (m.begun, m.unlost.items, m.handed, m.sub)

-- The members are those that were, and the one at that place has room for so many sessions.
pub record HasMoreRoom (p n : ℕ) (members members' : List Member) : Type 0 where
  pub same : (q : ℕ) → option_map shown (slice_get members' q) ≡ option_map shown (slice_get members q)
  pub others : (q : ℕ) → (q ≡ p → ⊥) → slice_get members' q ≡ slice_get members q
  pub room : (m : Member) → slice_get members' p ≡ Some m → n ≤ m.begun + m.unlost.spare
