-- What each peer should have, over all worlds.
use Rattle.std.specs.Prelude.{◌≡◌, ℕ, ◌+◌, Bool, true, false, List, [], ◌∷◌, ◌++◌, length, map, slice_get, Option, Some, None}
use Rattle.ug_types.specs.declared.key.Key.{Key}
use Rattle.ug_events.specs.Events.{Happening}
use Rattle.ug_outbound.specs.Keys.{ends_of}
use Rattle.ug_world.specs.declared.peer_state.PeerState.{PeerState}
use Rattle.ug_world.specs.World.{World}
use Rattle.ug_world.specs.Touches.{is_about}
use Rattle.ug_audit_rules.specs.declared.touched.Touched.{Touched}
use Rattle.ug_audit_rules.specs.declared.group.Group.{Group}
use Rattle.ug_audit_rules.specs.declared.seat.Seat.{Seat}
use Rattle.ug_audit_rules.specs.declared.history.History.{History}
use Rattle.ug_audit_rules.specs.declared.timelines.Timelines.{Timelines}
use Rattle.ug_audit_rules.specs.GroupLogs.{Entries, IsNotedAt}
use Rattle.ug_audit_rules.specs.Seats.{IsNew, IsLonger, IsTurned, IsSeatOf, AreGroups}

-- those of sessions with ADD-PATH, or without it
abbrev pub keys_for : Bool → Touched → List Key
keys_for true t = t.own.items
keys_for false t = t.plain.items

-- The logs of all groups tell what goes out, and each peer has its seat.
pub record IsHistory (ws : List World) (w : World) (h : History) : Type 0 where
  pub front : List World
  pub parts : ws ≡ front ++ w ∷ []
  pub version : w.version ≡ length front
  pub many : length h.seats.items ≡ length w.peers
  pub groups : AreGroups ws h.groups.items
  pub seats : (p : ℕ) (seat : Seat) → slice_get h.seats.items p ≡ Some seat → IsSeatOf p ws w h.groups.items seat

-- what went out to the peers of a group key
abbrev pub entries_of : Group → Entries
entries_of group = group.log.changes

-- The logs are those of a history, and so are the seats.
pub record AreTimelines (ws : List World) (w : World) (t : Timelines) : Type 0 where
  pub history : History
  pub is : IsHistory ws w history
  pub logs_are : t.logs.items ≡ map entries_of history.groups.items
  pub seats_are : t.seats ≡ history.seats

-- a group after what goes out to it was noted
pub record IsNotedOf (w : World) (touched : Touched) (old new : Group) : Type 0 where
  pub key : new.key ≡ old.key
  pub start : new.start ≡ old.start
  pub noted : IsNotedAt w old.key (keys_for old.key.add_path touched) old.log.changes new.log.changes

-- So it is of each group, in order.
abbrev pub AreNotedFor : World → Touched → List Group → List Group → Type 0
AreNotedFor w touched [] [] = Unit {0}
AreNotedFor w touched [] (new ∷ news) = ⊥
AreNotedFor w touched (old ∷ olds) [] = ⊥
AreNotedFor w touched (old ∷ olds) (new ∷ news) = IsNotedOf w touched old new × AreNotedFor w touched olds news

abbrev pub IsTurnedIf : World → Happening → List Group → Option PeerState → Seat → Seat → Type 0
IsTurnedIf w e groups None old new = new ≡ old
IsTurnedIf w e groups (Some s) old new = IsTurned w s (is_about e s) groups old new

-- The peers from a place on were turned, one after another: to each goes on what was kept of it, and groups may have been added.
abbrev pub AreTurnedFrom : ℕ → World → Happening → List Group → List Group → List Seat → List Seat → Type 0
AreTurnedFrom p w e groups groups' [] [] = groups' ≡ groups
AreTurnedFrom p w e groups groups' [] (new ∷ news) = ⊥
AreTurnedFrom p w e groups groups' (old ∷ olds) [] = ⊥
AreTurnedFrom p w e groups groups' (old ∷ olds) (new ∷ news) =
    (mid : List Group) × IsLonger w groups mid × IsTurnedIf w e mid (slice_get w.peers p) old new × AreTurnedFrom (p + 1) w e mid groups' olds news

abbrev pub AreTurned : World → Happening → List Group → List Group → List Seat → List Seat → Type 0
AreTurned w e groups groups' olds news = AreTurnedFrom 0 w e groups groups' olds news

-- Each peer has a seat as before any event.
pub record AreNew (peers : List PeerState) (seats : List Seat) : Type 0 where
  pub many : length seats ≡ length peers
  pub each : (p : ℕ) (s : PeerState) (seat : Seat) → slice_get peers p ≡ Some s → slice_get seats p ≡ Some seat → IsNew (ends_of s.peer) seat
