-- Bytes as lines: they are cut at each newline, and bytes behind the last newline are a line where there are any.
use Rattle.std.specs.Prelude.{◌≡◌, ℕ, ◌+◌, ◌<◌, ◌≤◌, ◌⊎◌, ◌==◌, List, [], ◌∷◌, ◌++◌, Option, map, length, take, if◌then◌else◌}
use Rattle.ug_edge.specs.Told.{IsEnded}
use Rattle.ug_pieces.specs.declared.line_halt.LineHalt.{LineHalt}
use Rattle.ug_pieces.specs.declared.line_halt.LineHalt.TheVariants as halts

-- the lines that a newline ends, of which the first begins with `front`
unfoldable pub ended_from : List ℕ → List ℕ → List (List ℕ)
ended_from front [] = []
ended_from front (b ∷ bytes) = if b == 10 then front ∷ ended_from [] bytes else ended_from (front ++ b ∷ []) bytes

-- what stands behind the last newline
unfoldable pub rest_from : List ℕ → List ℕ → List ℕ
rest_from front [] = front
rest_from front (b ∷ bytes) = if b == 10 then rest_from [] bytes else rest_from (front ++ b ∷ []) bytes

-- one line, where there are bytes
abbrev pub where_some : List ℕ → List (List ℕ)
where_some [] = []
where_some (b ∷ bytes) = (b ∷ bytes) ∷ []

abbrev pub lines_of : List ℕ → List (List ℕ)
lines_of bytes = ended_from [] bytes ++ where_some (rest_from [] bytes)

-- Of each line so many bytes are kept at most.
abbrev pub kept_of : ℕ → List (List ℕ) → List (List ℕ)
kept_of most lines = map (take most) lines

-- A front of these lines was taken, of no more than so many, where there were some before.
abbrev pub TakesSome : ℕ → ℕ → (List (List ℕ) → Type 0) → List (List ℕ) → Type 0
TakesSome most before takes lines = (front : List (List ℕ)) × (more : List (List ℕ)) × (lines ≡ front ++ more) × (before + length front ≤ most) × takes front

-- At the end of the source, at its last line, what takes them stopped.
abbrev pub IsStoppedAtEnd : ℕ → ℕ → ℕ → (List (List ℕ) → Type 0) → Option (List ℕ) → List ℕ → Type 0
IsStoppedAtEnd limit lines kept stopped now read = IsEnded now × (length read ≤ limit) × (length (lines_of read) ≤ lines) × stopped (kept_of kept (lines_of read))

-- What holds of the bytes that were read where reading ended early, and of what is left then. `lines` and `kept` are the
-- most lines and the most bytes of one. Before the end of the source a line is taken only where a newline ends it, and at
-- a fault all of those were taken. No line is taken past the most.
abbrev pub IsLineHalt : {S : Type 0} → LineHalt S → ℕ → ℕ → ℕ → (List (List ℕ) → Type 0) → (List (List ℕ) → S → Type 0) → Option (List ℕ) → List ℕ → Type 0
IsLineHalt halts.Read limit lines kept taken stopped now read =
    (length read ≤ limit) × (length (lines_of read) ≤ lines) × taken (kept_of kept (ended_from [] read))
IsLineHalt halts.NoMemory limit lines kept taken stopped now read = TakesSome lines 0 taken (kept_of kept (ended_from [] (take limit read)))
IsLineHalt halts.TooLong limit lines kept taken stopped now read =
    (limit < length read) × (length (lines_of (take limit read)) ≤ lines) × taken (kept_of kept (ended_from [] (take limit read)))
IsLineHalt halts.TooMany limit lines kept taken stopped now read =
    (lines < length (lines_of (take limit read))) × taken (take lines (kept_of kept (lines_of (take limit read))))
IsLineHalt (halts.Stopped stop) limit lines kept taken stopped now read =
    TakesSome lines 0 (λ front. stopped front stop) (kept_of kept (ended_from [] (take limit read))) ⊎ IsStoppedAtEnd limit lines kept (λ front. stopped front stop) now read
