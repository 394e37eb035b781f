-- What the objects of the outside tell. Content is told as an option: `None` keeps it to itself, and an object
-- that tells goes on telling.
use Rattle.std.specs.Prelude.{◌≡◌, ℕ, ◌+◌, ◌<◌, ◌⊎◌, Bool, List, [], ◌∷◌, ◌++◌, Option, Some, None, if◌then◌else◌}
use Rattle.ug_types.specs.Bytes.{same_bytes}

-- A count of faults rose in a call, or stands at the last value of its type and can't rise further.
abbrev pub Rose : ℕ → ℕ → Type 0
Rose before after = (before < after) ⊎ (before ≡ 18446744073709551615)

-- These bytes were taken from the front of what was left to read.
abbrev pub TakesFront : Option (List ℕ) → Option (List ℕ) → List ℕ → Type 0
TakesFront None None piece = Unit {0}
TakesFront None (Some new) piece = ⊥
TakesFront (Some old) None piece = ⊥
TakesFront (Some old) (Some new) piece = old ≡ piece ++ new

-- Nothing is left to read, where that is told.
abbrev pub IsEnded : Option (List ℕ) → Type 0
IsEnded None = Unit {0}
IsEnded (Some left) = left ≡ []

-- These bytes were added at the end of what is held.
abbrev pub AppendsPiece : Option (List ℕ) → Option (List ℕ) → List ℕ → Type 0
AppendsPiece None None piece = Unit {0}
AppendsPiece None (Some new) piece = ⊥
AppendsPiece (Some old) None piece = ⊥
AppendsPiece (Some old) (Some new) piece = new ≡ old ++ piece

-- the sessions of a wire with these bytes added to the last
abbrev pub onto_last : List ℕ → List (List ℕ) → List (List ℕ)
onto_last piece [] = []
onto_last piece (session ∷ []) = (session ++ piece) ∷ []
onto_last piece (session ∷ next ∷ sessions) = session ∷ onto_last piece (next ∷ sessions)

-- A wire has no sessions yet, where that is told.
abbrev pub IsFresh : Option (List (List ℕ)) → Type 0
IsFresh None = Unit {0}
IsFresh (Some sessions) = sessions ≡ []

-- A further session was begun, and it is empty.
abbrev pub BeginsSession : Option (List (List ℕ)) → Option (List (List ℕ)) → Type 0
BeginsSession None None = Unit {0}
BeginsSession None (Some new) = ⊥
BeginsSession (Some old) None = ⊥
BeginsSession (Some old) (Some new) = new ≡ old ++ [] ∷ []

-- These bytes were added to the last session.
abbrev pub SendsPiece : Option (List (List ℕ)) → Option (List (List ℕ)) → List ℕ → Type 0
SendsPiece None None piece = Unit {0}
SendsPiece None (Some new) piece = ⊥
SendsPiece (Some old) None piece = ⊥
SendsPiece (Some old) (Some new) piece = new ≡ onto_last piece old

-- a file by its name and its bytes
pub record FileText : Type 0 where
  pub name : List ℕ
  pub bytes : List ℕ

-- the bytes of the first file of that name
abbrev pub file_named : List ℕ → List FileText → Option (List ℕ)
file_named name [] = None
file_named name (file ∷ files) = if same_bytes name file.name then Some file.bytes else file_named name files

-- What is left to read is the whole file of that name.
abbrev pub HasPicked : Option (List FileText) → List ℕ → Option (List ℕ) → Type 0
HasPicked None name None = Unit {0}
HasPicked None name (Some left) = ⊥
HasPicked (Some files) name None = ⊥
HasPicked (Some files) name (Some left) = file_named name files ≡ Some left

-- The picks of a site: whether it reads from the file that was picked last, and the names that were picked, in order,
-- where told, those among them that could not be read from too.
pub record Picks : Type 0 where
  pub is_open : Bool
  pub names : Option (List (List ℕ))

-- What is known of a file: nothing, that there is none of its name, or its bytes.
pub data FileTold : Type 0 where
  Untold : FileTold
  Missing : FileTold
  Bytes : List ℕ → FileTold

abbrev pub missing_or_bytes : Option (List ℕ) → FileTold
missing_or_bytes None = Missing
missing_or_bytes (Some bytes) = Bytes bytes

-- what a site tells of the file of that name
abbrev pub file_told : Option (List FileText) → List ℕ → FileTold
file_told None name = Untold
file_told (Some files) name = missing_or_bytes (file_named name files)

-- what a wire was made for: the folder, and the name of the peer
pub record WireName : Type 0 where
  pub dir : List ℕ
  pub peer : List ℕ

-- The wires that a site made, in order: how many, and, where told, what each was made for.
pub record WiresMade : Type 0 where
  pub count : ℕ
  pub names : Option (List WireName)

-- These came behind those before, where that is told.
abbrev pub AppendsAll : {A : Type 0} → Option (List A) → Option (List A) → List A → Type 0
AppendsAll None None more = Unit {0}
AppendsAll None (Some new) more = ⊥
AppendsAll (Some old) None more = ⊥
AppendsAll (Some old) (Some new) more = new ≡ old ++ more

-- Just this wire was made.
pub record MakesWire (old new : WiresMade) (dir peer : List ℕ) : Type 0 where
  pub counted : new.count ≡ old.count + 1
  pub named : AppendsAll old.names new.names (record { dir = dir; peer = peer } ∷ [])
