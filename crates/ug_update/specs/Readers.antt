-- A reader of a stream that comes in pieces: what is to be known of it, and what its answers say.
use Rattle.std.specs.Prelude.{◌≡◌, ℕ, ◌+◌, ◌<◌, ◌≤◌, ◌^◌, Bool, true, false, List, [], ◌∷◌, ◌++◌, length, take, drop, Option, Some, None, if◌then◌else◌}
use Rattle.ug_types.specs.declared.message.Next.{Next}
use Rattle.ug_types.specs.declared.message.Next.TheVariants as nexts
use Rattle.ug_types.specs.declared.family.Family.{Family}
use Rattle.ug_types.specs.declared.capabilities.Capabilities.{Capabilities}
use Rattle.ug_types.specs.Messages.{Message, message_of}
use Rattle.ug_update.specs.declared.fault.Fault as found
use Rattle.ug_update.specs.declared.ahead.Ahead.{Ahead}
use Rattle.ug_update.specs.declared.ahead.Ahead.TheVariants as ahead
use Rattle.ug_message.specs.Reading.{message_size, ends_rib}
use Rattle.ug_message.specs.Received.{AreSpelled, IsStream, Front, Says, Faulty, Awaited, front_of, IsFaultyAt}
use Rattle.ug_update.specs.Views.{fault_of}

-- The session, how many bytes are taken, those that are left, whether a fault was answered, and whether the last message
-- that was given is End-of-RIB.
pub record ReaderState : Type 0 where
  pub session : Capabilities
  pub taken : ℕ
  pub left : List ℕ
  pub stopped : Bool
  pub ended : Bool

abbrev pub new_reader : Capabilities → ReaderState
new_reader c = record { session = c; taken = 0; left = []; stopped = false; ended = false }

-- behind a fault no piece is taken in
abbrev pub fed : ReaderState → List ℕ → ReaderState
fed r piece = if r.stopped then r else record r { left = r.left ++ piece }

abbrev pub front : ReaderState → Front
front r = front_of r.session r.left

-- ---- answers

pub data Answer : Type 0 where
  Gives : Message → Answer
  Waits : Answer
  IsBad : ℕ → ℕ → Answer

abbrev pub answer_of : Next → Answer
answer_of (nexts.Message item) = Gives (message_of item)
answer_of nexts.NeedMore = Waits
answer_of (nexts.Bad cause offset) = IsBad cause offset

-- The offset of a fault counts from the start of the whole stream.
abbrev pub answer_at : ℕ → Front → Answer
answer_at taken (Says m) = Gives m
answer_at taken (Faulty f) = IsBad f.number (taken + f.place)
answer_at taken Awaited = Waits

abbrev pub behind_message : ReaderState → ReaderState
behind_message r =
    record r { taken = r.taken + message_size r.left; left = drop (message_size r.left) r.left; ended = ends_rib r.session.family (take (message_size r.left) r.left) }

abbrev pub state_after : ReaderState → Front → ReaderState
state_after r (Says m) = behind_message r
state_after r (Faulty f) = record r { stopped = true }
state_after r Awaited = r

abbrev pub given_by : Next → List Message
given_by (nexts.Message item) = message_of item ∷ []
given_by nexts.NeedMore = []
given_by (nexts.Bad cause offset) = []

-- ---- the whole stream

-- The stream that was fed is these messages, which were given, and then what is left.
pub record HasRead (r : ReaderState) (stream : List ℕ) (messages : List Message) : Type 0 where
  pub whole : List ℕ
  pub are_spelled : AreSpelled r.session messages whole
  pub parts : stream ≡ whole ++ r.left
  pub taken : r.taken ≡ length whole

-- An answer is right of a stream whose messages before it are these.
abbrev pub IsRight : ReaderState → List ℕ → List Message → Next → Type 0
IsRight r stream messages (nexts.Message item) = Unit {0}
IsRight r stream messages nexts.NeedMore = IsStream r.session stream messages r.left
IsRight r stream messages (nexts.Bad cause offset) = IsFaultyAt r.session stream messages cause offset

-- ---- what the reader keeps

abbrev pub ahead_of : Ahead → Front
ahead_of (ahead.Message item size eor) = Says (message_of item)
ahead_of (ahead.Faulty f) = Faulty (fault_of f)
ahead_of ahead.Awaited = Awaited

abbrev pub IsSized : Family → List ℕ → Ahead → Type 0
IsSized family bytes (ahead.Message item size eor) =
    (size ≡ message_size bytes) × (0 < size) × (size ≤ length bytes) × (eor ≡ ends_rib family (take (message_size bytes) bytes))
IsSized family bytes (ahead.Faulty f) = f.place ≤ length bytes
IsSized family bytes ahead.Awaited = Unit {0}

-- a fault that was answered is still the one of the bytes that are left
abbrev pub IsKept : Option found.Fault → Front → List ℕ → Type 0
IsKept None front bytes = Unit {0}
IsKept (Some f) front bytes = (front ≡ Faulty (fault_of f)) × (f.place ≤ length bytes)

pub record IsReader (taken : ℕ) (left : List ℕ) (fault : Option found.Fault) (front : Front) : Type 0 where
  pub fits : taken + length left < 2 ^ 64
  pub is_kept : IsKept fault front left
