-- A stream of messages, as much of it as has come.
use Rattle.std.specs.Prelude.{◌≡◌, ℕ, ◌+◌, ◌<◌, ◌⊎◌, nat_lt, List, [], ◌∷◌, ◌++◌, length, take, Option, Some, None, Result, Ok, Err, if◌then◌else◌}
use Rattle.ug_types.specs.declared.capabilities.Capabilities.{Capabilities}
use Rattle.ug_types.specs.Messages.{Message}
use Rattle.ug_message.specs.Walking.{Fault}
use Rattle.ug_message.specs.Reading.{message_size, header_fault, read_body, Spells}

-- The bytes are spellings of these messages, one after the other.
abbrev pub AreSpelled : Capabilities → List Message → List ℕ → Type 0
AreSpelled c [] bytes = bytes ≡ []
AreSpelled c (says ∷ more) bytes =
    (m : List ℕ) × (rest : List ℕ) × Spells c m says × (bytes ≡ m ++ rest) × AreSpelled c more rest

-- The bytes don't reach to the end of their first message, and its header, where it is there, has no fault.
abbrev pub IsUnfinished : Capabilities → List ℕ → Type 0
IsUnfinished c bytes = (length bytes < 19) ⊎ ((header_fault c bytes ≡ None) × (length bytes < message_size bytes))

-- The stream is these messages, and then what has come of the next one.
pub record IsStream (c : Capabilities) (stream : List ℕ) (messages : List Message) (rest : List ℕ) : Type 0 where
  pub whole : List ℕ
  pub are_spelled : AreSpelled c messages whole
  pub parts : stream ≡ whole ++ rest
  pub is_unfinished : IsUnfinished c rest

-- ---- what bytes begin with: a message, a fault, or neither before more bytes have come

pub data Front : Type 0 where
  Says : Message → Front
  Faulty : Fault → Front
  Awaited : Front

abbrev pub judged : Result Message Fault → Front
judged (Ok says) = Says says
judged (Err first) = Faulty first

-- A header is judged when its 19 bytes are there, and a body when the whole message is.
abbrev pub behind_header : Capabilities → List ℕ → Option Fault → Front
behind_header c bytes (Some first) = Faulty first
behind_header c bytes None = if nat_lt (length bytes) (message_size bytes) then Awaited else judged (read_body c (take (message_size bytes) bytes))

unfoldable pub front_of : Capabilities → List ℕ → Front
front_of c bytes = if nat_lt (length bytes) 19 then Awaited else behind_header c bytes (header_fault c bytes)

-- Behind these messages comes a fault, at this offset.
pub record IsFaultyAt (c : Capabilities) (stream : List ℕ) (messages : List Message) (cause offset : ℕ) : Type 0 where
  pub whole : List ℕ
  pub rest : List ℕ
  pub are_spelled : AreSpelled c messages whole
  pub parts : stream ≡ whole ++ rest
  pub first : Fault
  pub is_first : front_of c rest ≡ Faulty first
  pub cause_is : cause ≡ first.number
  pub offset_is : offset ≡ length whole + first.place
