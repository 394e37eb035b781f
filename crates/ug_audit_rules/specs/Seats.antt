-- What is kept of one peer, and of the groups.
use Rattle.std.specs.Prelude.{◌≡◌, ◌≢◌, ℕ, ◌⊎◌, Bool, true, false, List, [], ◌∷◌, ◌++◌, length, slice_get, Option, Some, None, unwrap_or}
use Rattle.ug_types.specs.declared.key.Key.{Key}
use Rattle.ug_types.specs.declared.route.PeerEnds.{PeerEnds}
use Rattle.ug_outbound.specs.declared.key.GroupKey.{GroupKey}
use Rattle.ug_outbound.specs.Keys.{ends_of}
use Rattle.ug_world.specs.declared.peer_state.PeerState.{PeerState}
use Rattle.ug_world.specs.World.{World, key_in}
use Rattle.ug_world.specs.Private.{keys_of, private_table}
use Rattle.ug_audit_rules.specs.declared.since.Since.{Since}
use Rattle.ug_audit_rules.specs.declared.group.Group.{Group}
use Rattle.ug_audit_rules.specs.declared.seat.Seat.{Seat}
use Rattle.ug_audit_rules.specs.Held.{held, last_held, IsRising}
use Rattle.ug_audit_rules.specs.GroupLogs.{Outs, Entries, changes_in, IsNotedAt, IsGroupLog}
use Rattle.ug_audit_rules.specs.Merges.{told_if}
use Rattle.ug_audit_rules.specs.Standing.{StandsBy, IsMarked}

-- It is as before any event.
pub record IsNew (ends : PeerEnds) (seat : Seat) : Type 0 where
  pub ends_are : seat.ends ≡ ends
  pub begun : seat.sessions.begun.items ≡ []
  pub ended : seat.sessions.ended.items ≡ []
  pub ups : seat.ups.items ≡ []
  pub group : seat.group ≡ None

-- From a version on the peer is up, or isn't, which is added where it is a change.
abbrev pub Rises : ℕ → Bool → List (Since Bool) → List (Since Bool) → Type 0
Rises version up old new = ((new ≡ old) × (last_held false old ≡ up)) ⊎ ((last_held false old ≢ up) × (new ≡ old ++ record { version = version; value = up } ∷ []))

-- the group at a place
abbrev pub group_at : List Group → Option ℕ → Option Group
group_at groups None = None
group_at groups (Some place) = slice_get groups place

-- the changes of a key in its log
abbrev pub outs_in : Key → Option Group → Outs
outs_in q None = []
outs_in q (Some group) = changes_in group.log.changes q

abbrev pub outs_at : List Group → Option ℕ → Key → Outs
outs_at groups place q = outs_in q (group_at groups place)

-- the log at a place among those of the groups
abbrev pub log_at : List Entries → Option ℕ → Entries
log_at logs None = []
log_at logs (Some place) = unwrap_or (slice_get logs place) []

-- There is a group, of this key.
abbrev pub IsKeyed : GroupKey → Option Group → Type 0
IsKeyed key None = ⊥
IsKeyed key (Some group) = group.key ≡ key

abbrev pub IsSameOrNone : Option ℕ → ℕ → Type 0
IsSameOrNone had place = (had ≡ None) ⊎ (had ≡ Some place)

-- It begins with this world.
pub record IsBegun (w : World) (group : Group) : Type 0 where
  pub start : group.start ≡ w.version
  pub noted : IsNotedAt w group.key (keys_of group.key.add_path w.routes) [] group.log.changes

-- No group was added, or one that begins with this world.
abbrev pub IsLonger : World → List Group → List Group → Type 0
IsLonger w old new = (new ≡ old) ⊎ ((group : Group) × (new ≡ old ++ group ∷ []) × IsBegun w group)

-- The peer is up, and its group is one of its key, as it was where it had one.
pub record IsSeatedUp (w : World) (s : PeerState) (groups : List Group) (old new : Seat) : Type 0 where
  pub place : ℕ
  pub group : new.group ≡ Some place
  pub same : IsSameOrNone old.group place
  pub keyed : IsKeyed (key_in w s) (slice_get groups place)
  pub ups : Rises w.version true old.ups.items new.ups.items

-- What was kept of the peer goes on with this world. `asked`: the event was about it.
pub record IsTurned (w : World) (s : PeerState) (asked : Bool) (groups : List Group) (old new : Seat) : Type 0 where
  pub marked : IsMarked s w.version old.sessions new.sessions
  pub ends : new.ends ≡ old.ends
  pub shared : new.shared ≡ true → old.shared ≡ true
  pub quiet : asked ≡ false → (new.ups ≡ old.ups) × (new.group ≡ old.group)
  pub down : asked ≡ true → new.shared ≡ true → s.up ≡ false → Rises w.version false old.ups.items new.ups.items × (new.group ≡ old.group)
  pub up : asked ≡ true → new.shared ≡ true → s.up ≡ true → IsSeatedUp w s groups old new

-- ---- over worlds

-- What the peer should have in these worlds is what goes out to its group, where it was up.
pub record IsSharing (p : ℕ) (ws : List World) (w : World) (s : PeerState) (groups : List Group) (seat : Seat) : Type 0 where
  pub shown : (v : ℕ) (x : World) (q : Key) → slice_get ws v ≡ Some x → private_table p x q ≡ told_if seat.ends (held v false seat.ups.items) (held v None (outs_at groups seat.group q))
  pub rising : IsRising 1 seat.ups.items (length ws)
  pub now : last_held false seat.ups.items ≡ s.up
  pub grouped : ((seat.group ≡ None) × (seat.ups.items ≡ [])) ⊎ ((group : Group) × (group_at groups seat.group ≡ Some group))
  pub keyed : s.up ≡ true → IsKeyed (key_in w s) (group_at groups seat.group)

-- Its sessions stand as those of these worlds, the last of them `w`, and so does what it shares.
pub record IsSeatOf (p : ℕ) (ws : List World) (w : World) (groups : List Group) (seat : Seat) : Type 0 where
  pub by : StandsBy p ws w seat.sessions
  pub ends : ends_of by.state.peer ≡ seat.ends
  pub shares : seat.shared ≡ true → IsSharing p ws w by.state groups seat

-- The log of each group tells what its peers should have.
abbrev pub AreGroups : List World → List Group → Type 0
AreGroups ws groups = (g : ℕ) (group : Group) → slice_get groups g ≡ Some group → IsGroupLog group.key group.start group.log.changes ws
