-- What was read of a source in pieces, up to a limit.
use Rattle.std.specs.Prelude.{◌≡◌, ℕ, ◌<◌, ◌≤◌, List, [], take, length, Option}
use Rattle.ug_edge.specs.Told.{TakesFront}
use Rattle.ug_pieces.specs.declared.halt.Halt.{Halt}
use Rattle.ug_pieces.specs.declared.halt.Halt.TheVariants as halts

-- Bytes were read of which this holds.
pub record HasRead (left now : Option (List ℕ)) (holds : List ℕ → Type 0) : Type 0 where
  pub read : List ℕ
  pub taken : TakesFront left now read
  pub so : holds read

-- What holds of the bytes that were read where reading ended early: those within the limit were all taken, but where
-- what takes them stopped.
abbrev pub IsHalt : {S : Type 0} → Halt S → ℕ → (List ℕ → Type 0) → (List ℕ → S → Type 0) → List ℕ → Type 0
IsHalt halts.Read limit taken stopped read = (length read ≤ limit) × taken read
IsHalt halts.NoMemory limit taken stopped read = (read ≡ []) × taken read
IsHalt halts.TooLong limit taken stopped read = (limit < length read) × taken (take limit read)
IsHalt (halts.Stopped stop) limit taken stopped read = stopped (take limit read) stop
