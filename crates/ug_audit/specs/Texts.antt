-- The text of an auditor's answers.
use Rattle.std.specs.Prelude.{ℕ, List, ◌++◌, Option, Some, None, codes}
use Rattle.std.specs.List.{flat_map}
use Rattle.std.specs.Fmt.{decimal}
use Rattle.ug_types.specs.declared.key.Key.{Key}
use Rattle.ug_text.specs.Rows.{route_text}
use Rattle.ug_hearing.specs.Shifts.{Shift}
use Rattle.ug_hearing.specs.declared.breach.Breach.{Breach}
use Rattle.ug_hearing.specs.Breaches.{kind_number}
use Rattle.ug_hearing.specs.Certificates.{KeyClimb}

-- ` MESSAGE@PLACE`
abbrev pub shift_text : Shift → List ℕ
shift_text s = codes " " ++ decimal s.message ++ codes "@" ++ decimal s.place

-- `climb PREFIX id=ID`, and the moves
unfoldable pub climb_text : KeyClimb → List ℕ
climb_text k = ((codes "climb " ++ route_text k.key) ++ flat_map shift_text k.shifts) ++ codes "\n"

-- `session PEER NUMBER messages COUNT`, and a line for each key
unfoldable pub session_text : List ℕ → ℕ → ℕ → List KeyClimb → List ℕ
session_text peer number messages climbs =
    (codes "session " ++ peer ++ codes " " ++ decimal number ++ codes " messages " ++ decimal messages ++ codes "\n") ++ flat_map climb_text climbs

abbrev pub key_text : Option Key → List ℕ
key_text None = codes "-"
key_text (Some key) = route_text key

-- `status 10 refuted PEER SESSION`
unfoldable pub refuted_session : List ℕ → ℕ → List ℕ
refuted_session peer number = codes "status 10 refuted " ++ (peer ++ (codes " " ++ decimal number))

-- ` KIND MESSAGE `
unfoldable pub refuted_at : ℕ → ℕ → List ℕ
refuted_at kind message = codes " " ++ decimal kind ++ codes " " ++ decimal message ++ codes " "

-- the whole line, with the key behind these
unfoldable pub refuted_text : List ℕ → ℕ → Breach → List ℕ
refuted_text peer number b = ((refuted_session peer number ++ refuted_at (kind_number b.kind) b.message) ++ key_text b.key) ++ codes "\n"

-- `status 11 report LINE`
unfoldable pub unclear_text : ℕ → List ℕ
unclear_text line = codes "status 11 report " ++ decimal line ++ codes "\n"
