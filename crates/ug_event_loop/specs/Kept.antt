-- What a run keeps, of its lines and of the sessions on its wires.
use Rattle.std.specs.Prelude.{◌≡◌, ℕ, ◌<◌, ◌≤◌, ◌⊎◌, Bool, true, false, List, [], length, take, slice_get, Option, Some, None, Ok}
use Rattle.ug_types.specs.declared.mark.Mark.{Mark}
use Rattle.ug_message.specs.Streams.{IsSentForm, IsUpdate, IsHeeded}
use Rattle.ug_types.specs.Messages.{Message}
use Rattle.ug_events.specs.Events.{Happening, Saying, SaysSync, Says}
use Rattle.ug_events.specs.Reads.{Reads}
use Rattle.ug_world.specs.declared.peer_state.PeerState.{PeerState}
use Rattle.ug_world.specs.World.{World}
use Rattle.ug_world.specs.Worlds.{worlds, last_world}
use Rattle.ug_speaker.specs.Speech.{capabilities_of}
use Rattle.ug_speaker.specs.Right.{IsAmong, IsToldRight, IsToldAll, IsToldAgain}
use Rattle.ug_event_loop.specs.Marks.{AreMarks}
use Rattle.ug_event_loop.specs.Contents.{WireTold, Content, has_rest, EachSession, EachWire, content_at, has_number, is_lost_at, RiseFrom}

-- The messages of a session: UPDATEs, and with enhanced refresh its marks (RFC 7313).
abbrev pub IsSent : Bool → Message → Type 0
IsSent true m = IsHeeded m
IsSent false m = IsUpdate m

-- One session, as its wire holds it: whole messages as written, and at most a front of one more, which only a lost
-- session has; and these messages tell the peer what is right.
pub record IsSessionRight (ws : List World) (p : ℕ) (s : PeerState) (lost : List ℕ) (n : ℕ) (bytes : List ℕ) (c : Content) : Type 0 where
  pub messages : IsSentForm (capabilities_of s.peer) (IsSent s.peer.enhanced_refresh) bytes c.messages c.rest
  pub cut : has_rest c ≡ true → has_number lost n ≡ true
  pub right : IsToldRight p n s.peer ws c.messages

-- The last session of a peer that is up and not lost has no rest, and tells the whole private table.
pub record IsSessionWhole (w : World) (p : ℕ) (c : Content) : Type 0 where
  pub no_rest : c.rest ≡ []
  pub told : IsToldAll p w c.messages

-- How many sessions a wire has: no more than its peer came up, and just as many where the run completed.
abbrev pub AreCounted : Bool → ℕ → Option (List (List ℕ)) → Type 0
AreCounted complete count None = Unit {0}
AreCounted true count (Some sessions) = length sessions ≡ count
AreCounted false count (Some sessions) = length sessions ≤ count

-- A wire. The numbers of the lost sessions rise; they are of sessions that were, and at most as many as the wire's faults, of
-- which there are none where no session was lost.
pub record IsWireRight (ws : List World) (last : World) (complete : Bool) (p : ℕ) (s : PeerState) (wire : WireTold) (contents : List Content) (lost : List ℕ) : Type 0 where
  pub counted : AreCounted complete s.sessions wire.sessions
  pub each : EachSession (IsSessionRight ws p s lost) wire.sessions contents
  pub rise : RiseFrom 0 lost
  pub were : (n : ℕ) → has_number lost n ≡ true → n ≤ s.sessions
  pub faults : length lost ≤ wire.faults
  pub harmless : lost ≡ [] → wire.faults ≡ 0
  pub end : complete ≡ true → s.up ≡ true → has_number lost s.sessions ≡ false
      → EachSession (λ n bytes c. n ≡ s.sessions → IsSessionWhole last p c) wire.sessions contents

-- The wire is that of a configured peer, which stands so in the last world.
abbrev pub IsWireOf : List World → World → Bool → ℕ → WireTold → List Content → List ℕ → Type 0
IsWireOf ws last complete p wire contents lost = (s : PeerState) × (slice_get last.peers p ≡ Some s) × IsWireRight ws last complete p s wire contents lost

-- The mark is one of those of the line at this place.
pub record HasMark (marks : List (List Mark)) (i : ℕ) (m : Mark) : Type 0 where
  pub all : List Mark
  pub of_line : slice_get marks i ≡ Some all
  pub among : IsAmong m all

-- At a mark of `sync` the table is the private one, after so many messages as it says; a session that holds fewer was lost.
abbrev pub IsSynced : World → Mark → Content → Bool → Type 0
IsSynced w m c lost = ((m.handed ≤ length c.messages) × IsToldAll m.peer w (take m.handed c.messages)) ⊎ ((length c.messages < m.handed) × (lost ≡ true))

-- the world before the line at this place
abbrev pub world_at_line : World → List (Reads Saying) → ℕ → World
world_at_line w lines i = last_world w (take i lines)

-- An event of one line has a mark, and a later `sync` has one of the same session, which holds as many messages as that tells.
pub record IsMarkedAgain (lines : List (Reads Saying)) (marks : List (List Mark)) (contents : List (List Content)) (i j : ℕ) (e : Happening) (m m' : Mark) (c : Content) : Type 0 where
  pub later : i < j
  pub event : slice_get lines i ≡ Some (Ok (Says e))
  pub mark : HasMark marks i m
  pub sync : slice_get lines j ≡ Some (Ok SaysSync)
  pub mark' : HasMark marks j m'
  pub same_peer : m'.peer ≡ m.peer
  pub same_session : m'.session ≡ m.session
  pub holds : content_at contents m.peer m.session ≡ Some c
  pub enough : m'.handed ≤ length c.messages

-- What was told by these lines, with these marks, from this world on: `contents` has for each wire what its sessions
-- hold, and `lost` the numbers of those that were lost. Nothing of it knows how the speaker works.
pub record IsKept (w : World) (lines : List (Reads Saying)) (marks : List (List Mark)) (complete : Bool) (wires : List WireTold) (contents : List (List Content)) (lost : List (List ℕ)) : Type 0 where
  pub all : length wires ≡ length w.peers
  pub each : EachWire (IsWireOf (worlds w lines) (last_world w lines) complete) wires contents lost
  -- each line has its marks, but for sessions that were lost
  pub marked : AreMarks (is_lost_at lost) w lines marks
  -- at a mark of `sync` the whole table is the private one
  pub sync : (i : ℕ) (m : Mark) (c : Content) → slice_get lines i ≡ Some (Ok SaysSync) → HasMark marks i m
      → content_at contents m.peer m.session ≡ Some c → IsSynced (world_at_line w lines i) m c (is_lost_at lost m.peer m.session)
  -- and the session is there, on a wire that tells its sessions
  pub begun : (i : ℕ) (m : Mark) (wire : WireTold) (sessions : List (List ℕ)) → slice_get lines i ≡ Some (Ok SaysSync) → HasMark marks i m
      → slice_get wires m.peer ≡ Some wire → wire.sessions ≡ Some sessions → m.session ≤ length sessions
  -- Of two marks of a session the later tells no fewer messages, and no mark tells more than the session holds, unless it
  -- was lost.
  pub rise : (i j : ℕ) (m m' : Mark) → i < j → HasMark marks i m → HasMark marks j m' → m'.peer ≡ m.peer → m'.session ≡ m.session → m.handed ≤ m'.handed
  pub held : (i : ℕ) (m : Mark) (c : Content) → HasMark marks i m → content_at contents m.peer m.session ≡ Some c → is_lost_at lost m.peer m.session ≡ false → m.handed ≤ length c.messages
  -- Between a mark of a request and one of a later `sync` of that session each route was announced again, and with
  -- enhanced refresh a refresh begun (RFC 2918, RFC 7313).
  pub again : (i j : ℕ) (e : Happening) (m m' : Mark) (c : Content) (s : PeerState) → IsMarkedAgain lines marks contents i j e m m' c
      → slice_get (world_at_line w lines j).peers m.peer ≡ Some s → IsToldAgain m.peer s.peer (world_at_line w lines j) m.handed (take m'.handed c.messages)
