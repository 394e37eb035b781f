-- Where a checker stands: what it has read of a stream, and what that left.
use Rattle.std.specs.Prelude.{◌≡◌, ℕ, ◌≤◌, List, ◌++◌, length, Option}
use Rattle.std.specs.List.{concat}
use Rattle.ug_types.specs.declared.capabilities.Capabilities.{Capabilities}
use Rattle.ug_types.specs.declared.key.Key.{Key}
use Rattle.ug_types.specs.Messages.{Message}
use Rattle.ug_message.specs.Tables.{nothing_read, reading_from}
use Rattle.ug_edge.specs.Told.{TakesFront, IsEnded}
use Rattle.ug_message.specs.Received.{IsUnfinished, IsFaultyAt}
use Rattle.ug_update.specs.Readers.{ReaderState, HasRead}
use Rattle.ug_check.specs.Rows.{Rows, reading_of}
use Rattle.ug_check.specs.Decoded.{EachSpells, end_of_rib_texts}
use Rattle.ug_check.specs.Checks.{most_bytes}
use Rattle.ug_check.specs.declared.stop.Stop.{Stop}
use Rattle.ug_check.specs.declared.stop.Stop.TheVariants as stops

-- The messages of the stream that came, those taken in, and their texts; the table and the counts are of them.
pub record HasChecked (reader : ReaderState) (table : Rows) (messages eors : ℕ) (stream : List ℕ) : Type 0 where
  pub given : List Message
  pub texts : List (List ℕ)
  pub read : HasRead reader stream given
  pub spelled : EachSpells reader.session texts given
  pub parts : stream ≡ concat texts ++ reader.left
  pub rows : (key : Key) → (reading_of table).table key ≡ (reading_from nothing_read given).table key
  pub stale : (key : Key) → (reading_of table).stale key ≡ (reading_from nothing_read given).stale key
  pub messages_are : messages ≡ length given
  pub eors_are : eors ≡ end_of_rib_texts reader.session.family texts

-- Beside that no whole message is left.
pub record IsSettled (reader : ReaderState) (table : Rows) (messages eors : ℕ) (stream : List ℕ) : Type 0 where
  pub checked : HasChecked reader table messages eors stream
  pub unfinished : IsUnfinished reader.session reader.left

-- So much of the source was read.
pub record IsBehind (total : ℕ) (left now : Option (List ℕ)) (reader : ReaderState) (table : Rows) (messages eors : ℕ) : Type 0 where
  pub stream : List ℕ
  pub taken : TakesFront left now stream
  pub size : length stream ≡ total
  pub settled : IsSettled reader table messages eors stream

-- The whole source was read, within the limit.
pub record HasReadAll (left now : Option (List ℕ)) (reader : ReaderState) (table : Rows) (messages eors : ℕ) : Type 0 where
  pub stream : List ℕ
  pub taken : TakesFront left now stream
  pub ended : IsEnded now
  pub within : length stream ≤ most_bytes
  pub settled : IsSettled reader table messages eors stream

-- Why a piece was not taken whole: there is a fault in the stream with it, or memory ran out.
abbrev pub IsPieceCause : Stop → Capabilities → List ℕ → Type 0
IsPieceCause (stops.Malformed cause offset) session stream = (messages : List Message) × IsFaultyAt session stream messages cause offset
IsPieceCause stops.NoMemory session stream = Unit {0}
IsPieceCause stops.TooLong session stream = ⊥
IsPieceCause stops.Read session stream = ⊥
IsPieceCause stops.Report session stream = ⊥
