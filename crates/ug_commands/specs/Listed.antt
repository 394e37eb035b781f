-- What `groups` promises.
use Rattle.std.specs.Prelude.{◌≡◌, ℕ, ◌<◌, ◌≤◌, Bool, List, [], length, Option, Ok, Err}
use Rattle.std.specs.List.{concat}
use Rattle.ug_edge.specs.Told.{AppendsPiece, FileTold}
use Rattle.ug_pieces.specs.Reporting.{AppendsFront}
use Rattle.ug_config.specs.Reads.{Reads}
use Rattle.ug_world.specs.World.{World}
use Rattle.ug_config.specs.Worlds.{config}
use Rattle.ug_commands.specs.Texts.{group_lines}
use Rattle.ug_commands.specs.Grouped.{most_bytes}
use Rattle.ug_commands.specs.Files.{IsPartOf, AppendsThenStatus}
use Rattle.ug_report.specs.Statuses.{status_text}
use Rattle.ug_report.specs.declared.status.Status.{Status}
use Rattle.ug_report.specs.declared.status.Status.TheVariants as statuses

-- The whole file was read, within the limit, and it stands for this.
pub record IsConfigured (file : FileTold) (stands_for : Reads World) : Type 0 where
  pub read : List ℕ
  pub is_part : IsPartOf file read []
  pub within : length read ≤ most_bytes
  pub is : config read ≡ stands_for

-- The file has a byte past the limit.
pub record IsTooLong (file : FileTold) : Type 0 where
  pub read : List ℕ
  pub rest : List ℕ
  pub is_part : IsPartOf file read rest
  pub past : most_bytes < length read

-- The file stands for a world, and of the text of its groups this holds.
abbrev pub HasGroups : FileTold → (List ℕ → Type 0) → Type 0
HasGroups file reported = (w : World) × IsConfigured file (Ok w) × reported (concat (group_lines w))

-- What holds of a listing of groups with each status. `file` is what is told of the configuration, and `failed` is that a
-- call of the report failed.
abbrev pub IsListed : FileTold → Status → Option (List ℕ) → Option (List ℕ) → Type 0 → Type 0
IsListed file statuses.Ok before held failed = HasGroups file (AppendsPiece before held)
IsListed file statuses.ReportFault before held failed = HasGroups file (AppendsFront before held)
IsListed file (statuses.Config number field) before held failed =
    IsConfigured file (Err (record { number = number; field = field.items })) × AppendsThenStatus before held failed [] (status_text (statuses.Config number field))
IsListed file statuses.ReadFault before held failed = AppendsThenStatus before held failed [] (status_text statuses.ReadFault)
IsListed file statuses.NoMemory before held failed = AppendsThenStatus before held failed [] (status_text statuses.NoMemory)
IsListed file statuses.TooLong before held failed = IsTooLong file × AppendsThenStatus before held failed [] (status_text statuses.TooLong)
IsListed file statuses.Usage before held failed = ⊥
IsListed file statuses.SiteFault before held failed = ⊥
IsListed file (statuses.Lost peer session) before held failed = ⊥
IsListed file (statuses.Malformed cause offset) before held failed = ⊥
IsListed file (statuses.Refuted peer session kind message key) before held failed = ⊥
IsListed file (statuses.Unclear line) before held failed = ⊥
