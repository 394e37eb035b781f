-- A file of a command, as far as it was read, and the end of a report.
use Rattle.std.specs.Prelude.{◌≡◌, ℕ, ◌⊎◌, Bool, true, false, List, [], ◌∷◌, ◌++◌, Option, Some, None}
use Rattle.ug_edge.specs.Told.{AppendsPiece, AppendsAll, FileTold, Untold, Missing, Bytes}
use Rattle.ug_report.specs.declared.status.Status.{Status}
use Rattle.ug_report.specs.declared.status.Status.TheVariants as statuses

-- The bytes of the file are those that were read and then the rest; nothing is said where the files are not told, and
-- nothing was read where there is no such file.
abbrev pub IsPartOf : FileTold → List ℕ → List ℕ → Type 0
IsPartOf Untold read rest = Unit {0}
IsPartOf Missing read rest = (read ≡ []) × (rest ≡ [])
IsPartOf (Bytes bytes) read rest = bytes ≡ read ++ rest

-- What was read and the rest agree with the site: where a file is picked the rest is what the site has left to read,
-- and where none is nothing was read.
abbrev pub AgreesWithSite : Bool → Option (List ℕ) → List ℕ → List ℕ → Type 0
AgreesWithSite false left read rest = read ≡ []
AgreesWithSite true None read rest = Unit {0}
AgreesWithSite true (Some left) read rest = rest ≡ left

-- The report got this text and then the status line, which may be missing or cut short where the report failed.
abbrev pub AppendsThenStatus : Option (List ℕ) → Option (List ℕ) → Type 0 → List ℕ → List ℕ → Type 0
AppendsThenStatus before held failed text line =
    (front : List ℕ) × (tail : List ℕ) × (line ≡ front ++ tail) × AppendsPiece before held (text ++ front) × ((tail ≡ []) ⊎ failed)

-- Just the file of this name was picked, once; where memory ran out for that, none was.
abbrev pub PicksJust : Option (List (List ℕ)) → Option (List (List ℕ)) → List ℕ → Status → Type 0
PicksJust names names' name status = AppendsAll names names' (name ∷ []) ⊎ ((status ≡ statuses.NoMemory) × (names' ≡ names))

-- the statuses of a command whose file wasn't picked
abbrev pub IsUnbegun : Status → Type 0
IsUnbegun status = (status ≡ statuses.ReadFault) ⊎ (status ≡ statuses.NoMemory)
