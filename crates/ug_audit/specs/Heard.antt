-- What was heard of a session.
use Rattle.std.specs.Prelude.{◌≡◌, ℕ, ◌+◌, ◌-◌, ◌^◌, Bool, true, false, List, ◌++◌, length}
use Rattle.ug_types.specs.declared.capabilities.Capabilities.{Capabilities}
use Rattle.ug_types.specs.Messages.{Message}
use Rattle.ug_message.specs.Tables.{Table}
use Rattle.ug_message.specs.Received.{IsUnfinished, IsFaultyAt}
use Rattle.ug_update.specs.Readers.{ReaderState, HasRead}
use Rattle.ug_hearing.specs.declared.session.Session.{Session}
use Rattle.ug_hearing.specs.Judged.{IsSession, IsJudged}
use Rattle.ug_audit.specs.declared.listener.Listener.{Listener}

-- how many bytes the reader was given, and how many more it can be given
abbrev pub bytes_in : Listener → ℕ
bytes_in l = l.reader.taken + length l.reader.left

abbrev pub room_in : Listener → ℕ
room_in l = 2 ^ 64 - bytes_in l

-- The bytes are these messages and then what the reader has left; or they and then a fault.
abbrev pub IsReadTo : Capabilities → Bool → ReaderState → List ℕ → List Message → Type 0
IsReadTo c false r stream messages = (r.session ≡ c) × (r.stopped ≡ false) × HasRead r stream messages
IsReadTo c true r stream messages = (cause : ℕ) × (offset : ℕ) × IsFaultyAt c stream messages cause offset

-- The messages of the bytes that came, judged.
pub record HasHeard (c : Capabilities) (session : Session) (l : Listener) (stream : List ℕ) : Type 0 where
  pub messages : List Message
  pub read : IsReadTo c l.faulty l.reader stream messages
  pub judged : (past tables : List Table) → IsSession session past tables → IsJudged session past tables l.judge messages

-- Beside that no whole message is left.
pub record IsSettled (c : Capabilities) (session : Session) (l : Listener) (stream : List ℕ) : Type 0 where
  pub heard : HasHeard c session l stream
  pub unfinished : l.faulty ≡ false → IsUnfinished c l.reader.left

-- These bytes came further, and the session to be judged is the same.
abbrev pub HasGone : Listener → Session → Listener → Session → List ℕ → Type 0
HasGone t s u s' bytes = (s' ≡ s) × ((c : Capabilities) (stream : List ℕ) → HasHeard c s t stream → HasHeard c s u (stream ++ bytes))
