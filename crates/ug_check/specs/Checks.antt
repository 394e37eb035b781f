-- How reading a stream ends.
use Rattle.std.specs.Prelude.{◌≡◌, ℕ, ◌<◌, ◌≤◌, ◌⊎◌, List, ◌++◌, take, length, Option}
use Rattle.std.specs.List.{concat}
use Rattle.ug_types.specs.declared.capabilities.Capabilities.{Capabilities}
use Rattle.ug_types.specs.declared.key.Key.{Key}
use Rattle.ug_types.specs.Attributes.{Attributes}
use Rattle.ug_types.specs.Messages.{Message}
use Rattle.ug_edge.specs.Told.{TakesFront, IsEnded, AppendsPiece}
use Rattle.ug_pieces.specs.Reporting.{AppendsFront}
use Rattle.ug_message.specs.Received.{IsStream, IsFaultyAt}
use Rattle.ug_check.specs.Decoded.{IsDecoded, check_lines}
use Rattle.ug_check.specs.declared.stop.Stop.{Stop}
use Rattle.ug_check.specs.declared.stop.Stop.TheVariants as stops

-- the most bytes of a stream
unfoldable pub most_bytes : ℕ
most_bytes = 1073741824

-- Why a stream was not read to its end: past its first messages lies a fault, within the limit; or all within the
-- limit reads well, and there is a byte past it; or what came before a read that failed is within the limit and reads
-- well.
abbrev pub IsCause : Stop → Capabilities → List ℕ → Type 0
IsCause (stops.Malformed cause offset) session read = (messages : List Message) × IsFaultyAt session (take most_bytes read) messages cause offset
IsCause stops.TooLong session read =
    (most_bytes < length read) × (messages : List Message) × (rest : List ℕ) × IsStream session (take most_bytes read) messages rest
IsCause stops.Read session read = (length read ≤ most_bytes) × (messages : List Message) × (rest : List ℕ) × IsStream session read messages rest
IsCause stops.Report session read = ⊥
IsCause stops.NoMemory session read = Unit {0}

-- Reading stopped, with so much read.
pub record HasStopped (stop : Stop) (session : Capabilities) (left now : Option (List ℕ)) : Type 0 where
  pub read : List ℕ
  pub taken : TakesFront left now read
  pub cause : IsCause stop session read

-- The whole stream was read and decoded, and of the report on it, line by line, this holds.
pub record IsDone (session : Capabilities) (left now : Option (List ℕ)) (reported : List (List ℕ) → Type 0) : Type 0 where
  pub read : List ℕ
  pub taken : TakesFront left now read
  pub ended : IsEnded now
  pub within : length read ≤ most_bytes
  pub texts : List (List ℕ)
  pub messages : List Message
  pub rest : List ℕ
  pub rows : List (Key × Attributes)
  pub decoded : IsDecoded session read texts messages rest rows
  pub report : reported (check_lines session.family texts messages rest rows)

-- Whole lines from the front were added.
abbrev pub AppendsLines : Option (List ℕ) → Option (List ℕ) → List (List ℕ) → Type 0
AppendsLines before held lines = (front : List (List ℕ)) × (more : List (List ℕ)) × (lines ≡ front ++ more) × AppendsPiece before held (concat front)

-- The report was begun: at a fault of it a front of its text was added, and where memory ran out a front of its lines.
abbrev pub IsReportedUntil : Stop → Option (List ℕ) → Option (List ℕ) → List (List ℕ) → Type 0
IsReportedUntil stops.Report before held lines = AppendsFront before held (concat lines)
IsReportedUntil stops.NoMemory before held lines = AppendsLines before held lines
IsReportedUntil stops.Read before held lines = ⊥
IsReportedUntil stops.TooLong before held lines = ⊥
IsReportedUntil (stops.Malformed cause offset) before held lines = ⊥

-- A check ended early: while the stream was read, and then nothing was added to the report, or while that was written.
abbrev pub HasEnded : Stop → Capabilities → Option (List ℕ) → Option (List ℕ) → Option (List ℕ) → Option (List ℕ) → Type 0
HasEnded stop session left now before held =
    (HasStopped stop session left now × (held ≡ before)) ⊎ IsDone session left now (IsReportedUntil stop before held)
