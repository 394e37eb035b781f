-- A session's bytes as messages.
use Rattle.std.specs.Prelude.{◌≡◌, ℕ, ◌<◌, Bool, false, ◌&&◌, List, [], ◌∷◌, ◌++◌, length, Some}
use Rattle.ug_types.specs.declared.capabilities.Capabilities.{Capabilities}
use Rattle.ug_types.specs.Messages.{Message, Updates, Begins, Ends, Ignored}
use Rattle.ug_types.specs.Bytes.{is_empty}
use Rattle.ug_message.specs.Texts.{written}

-- The bytes are the texts of these messages, one after the other.
abbrev pub AreWritten : Capabilities → List Message → List ℕ → Type 0
AreWritten c [] bytes = bytes ≡ []
AreWritten c (m ∷ ms) bytes = (text : List ℕ) × (more : List ℕ) × (written c m ≡ Some text) × (bytes ≡ text ++ more) × AreWritten c ms more

-- Each message is of that kind.
abbrev pub AreOf : (Message → Type 0) → List Message → Type 0
AreOf kind [] = Unit {0}
AreOf kind (m ∷ ms) = kind m × AreOf kind ms

-- The bytes are less than the whole of some message of that kind, from its front.
pub record IsCut (c : Capabilities) (kind : Message → Type 0) (bytes : List ℕ) : Type 0 where
  pub message : Message
  pub is_of : kind message
  pub text : List ℕ
  pub tail : List ℕ
  pub is_text : written c message ≡ Some text
  pub is_front : text ≡ bytes ++ tail
  pub is_less : 0 < length tail

-- A session's bytes: these messages of that kind as written, and then what was cut off of a further one.
pub record IsSentForm (c : Capabilities) (kind : Message → Type 0) (bytes : List ℕ) (messages : List Message) (rest : List ℕ) : Type 0 where
  pub whole : List ℕ
  pub are_of : AreOf kind messages
  pub are_written : AreWritten c messages whole
  pub parts : bytes ≡ whole ++ rest
  pub is_cut : IsCut c kind rest

-- The message is an UPDATE.
abbrev pub IsUpdate : Message → Type 0
IsUpdate (Updates u) = Unit {0}
IsUpdate Begins = ⊥
IsUpdate Ends = ⊥
IsUpdate Ignored = ⊥

-- The message is an UPDATE, or the begin or the end of a refresh.
abbrev pub IsHeeded : Message → Type 0
IsHeeded (Updates u) = Unit {0}
IsHeeded Begins = Unit {0}
IsHeeded Ends = Unit {0}
IsHeeded Ignored = ⊥

-- The message is End-of-RIB (RFC 4724 section 2): an UPDATE that withdraws nothing and announces nothing.
abbrev pub says_nothing : Message → Bool
says_nothing (Updates u) = is_empty u.withdrawn && is_empty u.announced
says_nothing Begins = false
says_nothing Ends = false
says_nothing Ignored = false
