-- How lines are taken as their bytes come.
use Rattle.std.specs.Prelude.{◌≡◌, ℕ, ◌+◌, ◌-◌, ◌<◌, List, ◌++◌, length, take}
use Rattle.ug_pieces.specs.Lines.{ended_from, rest_from, where_some, kept_of, TakesSome}
use Rattle.ug_pieces.specs.declared.halt.Halt.{Halt}
use Rattle.ug_pieces.specs.declared.halt.Halt.TheVariants as halts
use Rattle.ug_pieces.specs.declared.line_halt.LineHalt.{LineHalt}
use Rattle.ug_pieces.specs.declared.line_halt.LineHalt.TheVariants as line_halts
use Rattle.ug_pieces.specs.declared.lines.LineStop.{LineStop}
use Rattle.ug_pieces.specs.declared.lines.LineStop.TheVariants as stops

-- Behind a line that begins with `rest`, and so many lines, the bytes were taken: the lines that they end, and what they
-- begin is kept.
pub record HasTakenLines (takes : List (List ℕ) → Type 0) (kept most : ℕ) (rest now : List ℕ) (before count kept_now most_now : ℕ) (bytes : List ℕ) : Type 0 where
  pub took : takes (kept_of kept (ended_from rest bytes))
  pub rest_is : now ≡ take kept (rest_from rest bytes)
  pub counted : count ≡ before + length (ended_from rest bytes)
  pub kept_is : kept_now ≡ kept
  pub most_is : most_now ≡ most

-- the lines that bytes end, and the one that they begin
abbrev pub lines_from : List ℕ → List ℕ → List (List ℕ)
lines_from rest bytes = ended_from rest bytes ++ where_some (rest_from rest bytes)

-- Behind a line that begins with `rest`, and so many lines, not all of these bytes were taken.
abbrev pub HasStoppedWithin : {S : Type 0} → LineStop S → (List (List ℕ) → Type 0) → (List (List ℕ) → S → Type 0) → ℕ → ℕ → List ℕ → ℕ → List ℕ → Type 0
HasStoppedWithin stops.NoMemory takes stopped kept most rest before bytes = TakesSome most before takes (kept_of kept (ended_from rest bytes))
HasStoppedWithin stops.TooMany takes stopped kept most rest before bytes =
    (most < before + length (lines_from rest bytes)) × takes (take (most - before) (kept_of kept (lines_from rest bytes)))
HasStoppedWithin (stops.Stopped stop) takes stopped kept most rest before bytes = TakesSome most before (λ front. stopped front stop) (kept_of kept (ended_from rest bytes))

-- Why a line was not taken: there were so many lines, or memory ran out and nothing changed, or what takes it stopped.
abbrev pub HasStoppedAt : {S : Type 0} → LineStop S → Type 0 → Type 0 → (S → Type 0) → Type 0
HasStoppedAt stops.NoMemory full same stopped = same
HasStoppedAt stops.TooMany full same stopped = full × same
HasStoppedAt (stops.Stopped stop) full same stopped = stopped stop

-- why not all lines were taken, where a line was not
abbrev pub halt_of_stop : {S : Type 0} → LineStop S → LineHalt S
halt_of_stop stops.NoMemory = line_halts.NoMemory
halt_of_stop stops.TooMany = line_halts.TooMany
halt_of_stop (stops.Stopped stop) = line_halts.Stopped stop

-- the same, where not all pieces were
abbrev pub halt_of_pieces : {S : Type 0} → Halt (LineStop S) → LineHalt S
halt_of_pieces halts.Read = line_halts.Read
halt_of_pieces halts.NoMemory = line_halts.NoMemory
halt_of_pieces halts.TooLong = line_halts.TooLong
halt_of_pieces (halts.Stopped stop) = halt_of_stop stop
