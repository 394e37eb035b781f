-- What `check` promises.
use Rattle.std.specs.Prelude.{◌≡◌, ℕ, ◌≤◌, ◌⊎◌, Bool, false, List, [], ◌++◌, length, Option}
use Rattle.std.specs.List.{concat}
use Rattle.ug_types.specs.declared.key.Key.{Key}
use Rattle.ug_types.specs.Attributes.{Attributes}
use Rattle.ug_types.specs.Messages.{Message}
use Rattle.ug_edge.specs.Told.{AppendsPiece, FileTold}
use Rattle.ug_pieces.specs.Reporting.{AppendsFront}
use Rattle.ug_check.specs.Decoded.{IsDecoded, check_lines}
use Rattle.ug_check.specs.Checks.{most_bytes, IsCause}
use Rattle.ug_check.specs.declared.stop.Stop.{Stop}
use Rattle.ug_check.specs.declared.stop.Stop.TheVariants as stops
use Rattle.ug_commands.specs.Words.{CheckCommand}
use Rattle.ug_commands.specs.Files.{IsPartOf, AgreesWithSite, AppendsThenStatus}
use Rattle.ug_report.specs.Statuses.{status_text}
use Rattle.ug_report.specs.declared.status.Status.{Status}
use Rattle.ug_report.specs.declared.status.Status.TheVariants as statuses

-- The whole file was read, within the limit, and it is a stream of these messages and a rest, whose table has these
-- rows; of the lines that say so this holds.
pub record IsWhole (command : CheckCommand) (file : FileTold) (reported : List (List ℕ) → Type 0) : Type 0 where
  pub read : List ℕ
  pub is_part : IsPartOf file read []
  pub within : length read ≤ most_bytes
  pub texts : List (List ℕ)
  pub messages : List Message
  pub rest : List ℕ
  pub rows : List (Key × Attributes)
  pub decoded : IsDecoded command.session read texts messages rest rows
  pub report : reported (check_lines command.session.family texts messages rest rows)

-- This much of the file was read, and the rest is left; that is why no more was.
pub record IsCutShort (command : CheckCommand) (file : FileTold) (is_open : Bool) (left : Option (List ℕ)) (stop : Stop) : Type 0 where
  pub read : List ℕ
  pub rest : List ℕ
  pub is_part : IsPartOf file read rest
  pub agrees : AgreesWithSite is_open left read rest
  pub cause : IsCause stop command.session read

-- Some of the lines, from the front and each whole, and then the status line.
abbrev pub AppendsLinesThenStatus : Option (List ℕ) → Option (List ℕ) → Type 0 → List ℕ → List (List ℕ) → Type 0
AppendsLinesThenStatus before held failed line lines = (front : List (List ℕ)) × (more : List (List ℕ)) × (lines ≡ front ++ more) × AppendsThenStatus before held failed (concat front) line

-- What holds of a check with each status. `file` is what is told of the stream, `is_open` and `left` whether the site
-- reads from it and what is left of it, and `failed` is that a call of the report failed.
abbrev pub IsChecked : CheckCommand → FileTold → Bool → Option (List ℕ) → Status → Option (List ℕ) → Option (List ℕ) → Type 0 → Type 0
IsChecked command file is_open left statuses.Ok before held failed = IsWhole command file (λ lines. AppendsPiece before held (concat lines))
IsChecked command file is_open left statuses.ReportFault before held failed = IsWhole command file (λ lines. AppendsFront before held (concat lines))
IsChecked command file is_open left statuses.NoMemory before held failed =
    AppendsThenStatus before held failed [] (status_text statuses.NoMemory) ⊎ IsWhole command file (AppendsLinesThenStatus before held failed (status_text statuses.NoMemory))
IsChecked command file is_open left statuses.ReadFault before held failed =
    ((is_open ≡ false) ⊎ IsCutShort command file is_open left stops.Read) × AppendsThenStatus before held failed [] (status_text statuses.ReadFault)
IsChecked command file is_open left statuses.TooLong before held failed = IsCutShort command file is_open left stops.TooLong × AppendsThenStatus before held failed [] (status_text statuses.TooLong)
IsChecked command file is_open left (statuses.Malformed cause offset) before held failed =
    IsCutShort command file is_open left (stops.Malformed cause offset) × AppendsThenStatus before held failed [] (status_text (statuses.Malformed cause offset))
IsChecked command file is_open left statuses.Usage before held failed = ⊥
IsChecked command file is_open left (statuses.Config number field) before held failed = ⊥
IsChecked command file is_open left statuses.SiteFault before held failed = ⊥
IsChecked command file is_open left (statuses.Lost peer session) before held failed = ⊥
IsChecked command file is_open left (statuses.Refuted peer session kind message key) before held failed = ⊥
IsChecked command file is_open left (statuses.Unclear line) before held failed = ⊥
