-- What a lane takes in one turn, and what becomes of it on the wire.
use Rattle.std.specs.Prelude.{◌≡◌, ℕ, ◌+◌, ◌<◌, ◌≤◌, ◌==◌, Bool, true, false, List, [], ◌∷◌, ◌++◌, length, map, take, Option, Some, None}
use Rattle.ug_edge.specs.Told.{Rose, BeginsSession, SendsPiece}
use Rattle.ug_board.specs.Entry.{Entry}
use Rattle.ug_board.specs.Rules.{Rules}
use Rattle.ug_turnstile.specs.Passes.{Held}
use Rattle.ug_board.specs.Deeds.{Deed, Begins, Hands, Loses, begins, when}
use Rattle.ug_sender.specs.declared.pumped.Pumped.{Pumped}
use Rattle.ug_sender.specs.declared.pumped.Pumped.TheVariants.{Begun as DidBegin, Sent as DidSend, Idle as WasIdle, Lost as WasLost, Stopped as WasStopped}
use Rattle.ug_sender.specs.declared.pumped.Round.{Round}
use Rattle.ug_sender.specs.declared.turn.Ending.{Ending}
use Rattle.ug_sender.specs.declared.turn.Ending.TheVariants.{Begun, Idle, Stop, More}
use Rattle.ug_sender.specs.declared.turn.Taken.{Taken}
use Rattle.ug_sender.specs.declared.turn.Next.{Next}
use Rattle.ug_sender.specs.declared.turn.Next.TheVariants.{Packet as WasPacket, Last}
use Rattle.ug_sender.specs.declared.sending.Went.{Went}
use Rattle.ug_sender.specs.declared.sending.Went.TheVariants.{Well, Ill}
use Rattle.ug_sender.specs.Courses.{Fate, Whole, fate_of}
use Rattle.ug_sender.specs.Lanes.{IsPassedOver}
use Rattle.ug_sender.specs.Pieces.{SendsFront}
use Rattle.ug_sender.specs.Tellings.{TellsLoss, TellsPump, Shown, IsSameWire}

-- a packet that was handed out: its session, and its bytes
pub record Packet : Type 0 where
  pub session : ℕ
  pub bytes : List ℕ

-- the deeds of packets that were handed out one after the other
abbrev pub hands : List Packet → List (Deed (List ℕ))
hands packets = map (λ p. Hands p.session p.bytes) packets

-- This session is the open one.
abbrev pub is_open_one : Option ℕ → ℕ → Bool
is_open_one None session = false
is_open_one (Some latest) session = latest == session

-- of a packet, what the open session gets: all of it, or nothing where the packet is of another
abbrev pub bytes_of : Option ℕ → Packet → List ℕ
bytes_of latest packet = when (is_open_one latest packet.session) packet.bytes

-- of these packets, what the open session gets
abbrev pub bytes_in : Option ℕ → List Packet → List ℕ
bytes_in latest [] = []
bytes_in latest (packet ∷ packets) = bytes_of latest packet ++ bytes_in latest packets

-- what ended a turn adds to the deeds of the pass
abbrev pub ending_deeds : Ending → List (Deed (List ℕ))
ending_deeds (Begun session) = Begins session ∷ []
ending_deeds Idle = []
ending_deeds Stop = []
ending_deeds More = []

-- A session that begins has a number above this one.
abbrev pub IsBelow : ℕ → Ending → Type 0
IsBelow begun (Begun session) = begun < session
IsBelow begun Idle = Unit {0}
IsBelow begun Stop = Unit {0}
IsBelow begun More = Unit {0}

-- What one answer within a turn adds to the deeds, where so many bytes stand at the front of the buffer: a packet, of
-- which what the open session gets stands behind them, or what ends the turn.
abbrev pub TellsStep : Option ℕ → ℕ → Next → List ℕ → List ℕ → List (Deed (List ℕ)) → List (Deed (List ℕ)) → Type 0
TellsStep latest filled (WasPacket len) buf buf' old new =
    (packet : Packet) × (new ≡ old ++ hands (packet ∷ [])) × (take (filled + len) buf' ≡ take filled buf ++ bytes_of latest packet) × (len ≤ 65535)
TellsStep latest filled (Last ending) buf buf' old new =
    (new ≡ old ++ ending_deeds ending) × (take filled buf' ≡ take filled buf) × IsBelow (begins old) ending

-- What a turn of a lane adds to the deeds of its pass: packets, one after the other, and then what ended it. What the open
-- session gets of the packets stands at the front of the buffer.
pub record TellsTurn (latest : Option ℕ) (taken : Taken) (buf : List ℕ) (old new : List (Deed (List ℕ))) : Type 0 where
  pub packets : List Packet
  pub count : taken.packets ≡ length packets
  pub filled : taken.filled ≤ length buf
  pub bytes : take taken.filled buf ≡ bytes_in latest packets
  pub grown : new ≡ old ++ (hands packets ++ ending_deeds taken.ending)
  pub further : IsBelow (begins old) taken.ending

-- what becomes of a session by a call on it
abbrev pub fate_after : Went → Fate
fate_after Well = Whole
fate_after (Ill noted) = fate_of noted

-- A count of faults stays where a call went well, and rises where it failed.
abbrev pub CountsFault : Went → ℕ → ℕ → Type 0
CountsFault Well old new = new ≡ old
CountsFault (Ill noted) old new = Rose old new × (old ≤ new)

-- All of the message was sent, or a front of it where a call failed.
abbrev pub SendsBy : Went → Option (List (List ℕ)) → Option (List (List ℕ)) → List ℕ → Type 0
SendsBy Well old new message = SendsPiece old new message
SendsBy (Ill noted) old new message = SendsFront old new message

-- what the loss of that session adds to the deeds, where a call on it failed
abbrev pub TellsWent : Went → Option ℕ → List (Deed (List ℕ)) → List (Deed (List ℕ)) → Type 0
TellsWent Well session old new = new ≡ old
TellsWent (Ill noted) None old new = ⊥
TellsWent (Ill noted) (Some session) old new = TellsLoss noted session old new

-- Where a call failed and the loss of its session was not noted, that loss is passed over.
abbrev pub PassesOver : {Opening State Job Said : Type 0} → Rules Opening State Job Said → Went → ℕ → Option ℕ → Held (Entry Job Said) Opening → Type 0
PassesOver rules Well peer session pass = Unit {0}
PassesOver rules (Ill true) peer session pass = Unit {0}
PassesOver rules (Ill false) peer None pass = ⊥
PassesOver rules (Ill false) peer (Some session) pass = IsPassedOver rules peer session pass

-- the session that began at the end of a turn
abbrev pub begun_by : Ending → Option ℕ
begun_by (Begun session) = Some session
begun_by Idle = None
begun_by Stop = None
begun_by More = None

-- The session that began at the end of a turn begins on the wire too, and else the wire stays as it is.
abbrev pub BeginsBy : Ending → Option (List (List ℕ)) → ℕ → Option (List (List ℕ)) → ℕ → Type 0
BeginsBy (Begun session) sessions begun sessions' begun' = BeginsSession sessions sessions' × (begun' ≡ begun + 1) × (begun' ≤ 4294967295)
BeginsBy Idle sessions begun sessions' begun' = IsSameWire sessions begun sessions' begun'
BeginsBy Stop sessions begun sessions' begun' = IsSameWire sessions begun sessions' begun'
BeginsBy More sessions begun sessions' begun' = IsSameWire sessions begun sessions' begun'

-- the open session, after a call on it
abbrev pub still_open : Went → Option ℕ → Option ℕ
still_open Well session = session
still_open (Ill noted) session = None

-- the open session after a turn, and after the calls of the wire for it
abbrev pub open_after : Option ℕ → Ending → Went → Went → Option ℕ
open_after latest (Begun session) sent begun = still_open begun (Some session)
open_after latest Idle sent begun = still_open sent latest
open_after latest Stop sent begun = still_open sent latest
open_after latest More sent begun = still_open sent latest

-- what a turn came to, where all calls went well
abbrev pub outcome_of : Ending → Pumped
outcome_of (Begun session) = DidBegin
outcome_of Idle = WasIdle
outcome_of Stop = WasStopped
outcome_of More = DidSend

-- and where one may have failed
abbrev pub outcome : Ending → Went → Went → Pumped
outcome ending Well Well = outcome_of ending
outcome ending Well (Ill noted) = WasLost
outcome ending (Ill noted) begun = WasLost

-- what a lane shows with these packets handed out
abbrev pub with_packets : List Packet → Shown → Shown
with_packets packets shown = record { deeds = shown.deeds ++ hands packets; latest = shown.latest; unnoted = shown.unnoted }

-- What a round tells behind its packets: as a single step does, but where a call failed. Then a session may have begun,
-- and the losses of one session or two are entries, or not taken.
abbrev pub TellsEnd : Pumped → Shown → Shown → Type 0
TellsEnd DidBegin old new = TellsPump DidBegin old new
TellsEnd DidSend old new = new ≡ old
TellsEnd WasIdle old new = new ≡ old
TellsEnd WasStopped old new = new ≡ old
TellsEnd WasLost old new = (begun : List ℕ) × (lost : List ℕ) × (new.deeds ≡ old.deeds ++ (map (λ n. Begins n) begun ++ map (λ n. Loses n) lost))

-- What a round of a lane tells: packets that were handed out, as many as it answers, and then its end.
abbrev pub TellsRound : Round → Shown → Shown → Type 0
TellsRound round old new = (packets : List Packet) × (round.packets ≡ length packets) × TellsEnd round.end (with_packets packets old) new
