-- The files of an audit: their bytes, and their limits.
use Rattle.std.specs.Prelude.{◌≡◌, ℕ, ◌<◌, ◌≤◌, ◌⊎◌, nat_le, Bool, true, false, List, [], length, take}
use Rattle.ug_edge.specs.Told.{FileTold, Untold, Missing, Bytes}
use Rattle.ug_pieces.specs.Lines.{lines_of, ended_from}
use Rattle.ug_audit_rules.specs.Told.{most_lines}
use Rattle.ug_audit_rules.specs.Reading.{most_bytes}

-- These are the bytes of the file, where it is told.
abbrev pub IsFile : FileTold → List ℕ → Type 0
IsFile Untold bytes = Unit {0}
IsFile Missing bytes = ⊥
IsFile (Bytes held) bytes = held ≡ bytes

-- A file of events or a report is within its limits of bytes and of lines, blank ones included.
pub record IsWithin (bytes : List ℕ) : Type 0 where
  pub few_bytes : length bytes ≤ most_bytes
  pub few_lines : length (lines_of bytes) ≤ most_lines

-- There are more bytes, or more lines.
abbrev pub IsPast : List ℕ → Type 0
IsPast bytes = (most_bytes < length bytes) ⊎ (most_lines < length (lines_of bytes))

-- all lines, or those that end within the most bytes
abbrev pub lines_where : Bool → List ℕ → List (List ℕ)
lines_where true bytes = lines_of bytes
lines_where false bytes = ended_from [] (take most_bytes bytes)

-- the lines that lie within both limits
abbrev pub lines_within : List ℕ → List (List ℕ)
lines_within bytes = take most_lines (lines_where (nat_le (length bytes) most_bytes) bytes)
