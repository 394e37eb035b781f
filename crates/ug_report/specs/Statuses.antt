-- The statuses: one row says what each of them is.
use Rattle.std.specs.Prelude.{◌≡◌, ℕ, ◌==◌, ◌||◌, nat_lt, not, Bool, true, false, List, [], ◌∷◌, ◌++◌, map, codes, if◌then◌else◌}
use Rattle.std.specs.List.{list_all}
use Rattle.std.specs.Fmt.{decimal}
use Rattle.ug_report.specs.declared.status.Status.{Status}
use Rattle.ug_report.specs.declared.status.Status.TheVariants as statuses

-- `status 9 malformed CAUSE OFFSET`
unfoldable pub malformed_text : ℕ → ℕ → List ℕ
malformed_text cause offset = codes "status 9 malformed " ++ (decimal cause ++ (codes " " ++ (decimal offset ++ codes "\n")))

-- a byte of a field as it is shown: `?` for a control character, which a quoted key of a configuration may have
abbrev pub shown : ℕ → ℕ
shown byte = if nat_lt byte 32 || byte == 127 then 63 else byte

-- `status 2 config NUMBER FIELD`
unfoldable pub config_text : ℕ → List ℕ → List ℕ
config_text number field = (codes "status 2 config " ++ (decimal number ++ codes " ")) ++ map shown field ++ codes "\n"

-- whether a byte stays within a line
abbrev pub is_within_line : ℕ → Bool
is_within_line byte = not (byte == 10)

-- One line, with its newline.
pub record IsOneLine (text : List ℕ) : Type 0 where
  pub said : List ℕ
  pub text_is : text ≡ said ++ codes "\n"
  pub within : list_all is_within_line said ≡ true

-- The number with which a program ends; its line of the report, and whether that is always the same; whether the run
-- completed, so that all its input was read and its whole report written; whether all its wires were made; whether all
-- lines that count were taken; and whether a run that could read nothing may end so.
pub record Row : Type 0 where
  pub number : ℕ
  pub line : List ℕ
  pub is_fixed : Bool
  pub completed : Bool
  pub made_wires : Bool
  pub took_all : Bool
  pub may_be_unread : Bool

-- Where all went well and where the report failed there is no line; those of a lost or a refuted session name a peer, which
-- the command tells, and so does an auditor that of a report.
abbrev pub row_of : Status → Row
row_of statuses.Ok = record { number = 0; line = []; is_fixed = true; completed = true; made_wires = true; took_all = true; may_be_unread = false }
row_of statuses.Usage = record { number = 1; line = codes "status 1 usage\n"; is_fixed = true; completed = false; made_wires = false; took_all = false; may_be_unread = false }
row_of (statuses.Config number field) =
    record { number = 2; line = config_text number field.items; is_fixed = false; completed = false; made_wires = false; took_all = false; may_be_unread = false }
row_of statuses.ReadFault = record { number = 3; line = codes "status 3 read\n"; is_fixed = true; completed = false; made_wires = true; took_all = true; may_be_unread = true }
row_of statuses.ReportFault = record { number = 4; line = []; is_fixed = true; completed = false; made_wires = true; took_all = false; may_be_unread = false }
row_of statuses.SiteFault = record { number = 5; line = codes "status 5 site\n"; is_fixed = true; completed = false; made_wires = false; took_all = false; may_be_unread = true }
row_of statuses.NoMemory = record { number = 6; line = codes "status 6 memory\n"; is_fixed = true; completed = false; made_wires = false; took_all = false; may_be_unread = true }
row_of statuses.TooLong = record { number = 7; line = codes "status 7 too-long\n"; is_fixed = true; completed = false; made_wires = true; took_all = true; may_be_unread = false }
row_of (statuses.Lost peer session) = record { number = 8; line = []; is_fixed = false; completed = true; made_wires = true; took_all = true; may_be_unread = false }
row_of (statuses.Malformed cause offset) =
    record { number = 9; line = malformed_text cause offset; is_fixed = false; completed = false; made_wires = false; took_all = false; may_be_unread = false }
row_of (statuses.Refuted peer session kind message key) =
    record { number = 10; line = []; is_fixed = false; completed = false; made_wires = false; took_all = false; may_be_unread = false }
row_of (statuses.Unclear line) =
    record { number = 11; line = []; is_fixed = false; completed = false; made_wires = false; took_all = false; may_be_unread = false }

unfoldable pub status_text : Status → List ℕ
status_text status = (row_of status).line

abbrev pub is_fixed : Status → Bool
is_fixed status = (row_of status).is_fixed
