-- A file of events: how much of it is read, and its lines.
use Rattle.std.specs.Prelude.{ℕ, ◌+◌, ◌<◌, ◌⊎◌, nat_le, Bool, ◌&&◌, List, [], ◌++◌, length, take, if◌then◌else◌}
use Rattle.ug_pieces.specs.Lines.{ended_from, rest_from, where_some}

-- the most bytes of a file of events, and the most lines, blank ones included
unfoldable pub most_bytes : ℕ
most_bytes = 1073741824

unfoldable pub most_lines : ℕ
most_lines = 2000000

-- The lines of what was read, of so many bytes at most: those that a newline ends, and, where the whole file was read, the
-- bytes behind the last newline.
abbrev pub lines_within : ℕ → Bool → List ℕ → List (List ℕ)
lines_within bytes whole read = ended_from [] (take bytes read) ++ (if whole && nat_le (length read) bytes then where_some (rest_from [] read) else [])

-- There are more bytes, or more lines.
abbrev pub IsPast : ℕ → ℕ → List ℕ → Type 0
IsPast bytes lines read = (bytes < length read) ⊎ (lines < length (ended_from [] read) + length (where_some (rest_from [] read)))

-- the same of a file, and of its limits
abbrev pub lines_read : Bool → List ℕ → List (List ℕ)
lines_read whole read = take most_lines (lines_within most_bytes whole read)

abbrev pub IsPastLimits : List ℕ → Type 0
IsPastLimits read = IsPast most_bytes most_lines read
