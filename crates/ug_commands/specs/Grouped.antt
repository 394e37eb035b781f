-- How the listing of groups ends.
use Rattle.std.specs.Prelude.{◌≡◌, ℕ, ◌<◌, ◌≤◌, List, length, Option, Ok, Err}
use Rattle.std.specs.List.{concat}
use Rattle.ug_edge.specs.Told.{IsEnded}
use Rattle.ug_pieces.specs.Reporting.{AppendsFront}
use Rattle.ug_pieces.specs.Pieces.{HasRead}
use Rattle.ug_config.specs.Reads.{Reads}
use Rattle.ug_world.specs.World.{World}
use Rattle.ug_config.specs.Worlds.{config}
use Rattle.ug_commands.specs.Texts.{group_lines}
use Rattle.ug_commands.specs.declared.stop.Stop.{Stop}
use Rattle.ug_commands.specs.declared.stop.Stop.TheVariants as stops

-- the most bytes of a configuration
unfoldable pub most_bytes : ℕ
most_bytes = 1048576

-- All of the source was read, within the limit, and it stands for this.
abbrev pub IsWholly : Option (List ℕ) → Option (List ℕ) → Reads World → Type 0
IsWholly left now stands_for = HasRead left now (λ read. IsEnded now × (length read ≤ most_bytes) × (config read ≡ stands_for))

-- The source stands for a world, and of the text of its groups this holds.
abbrev pub IsGrouped : Option (List ℕ) → Option (List ℕ) → (List ℕ → Type 0) → Type 0
IsGrouped left now reported = (w : World) × IsWholly left now (Ok w) × reported (concat (group_lines w))

-- Why no groups were listed: the configuration is too long, or refused. Of running out of memory and of a read that
-- failed it says nothing.
abbrev pub IsCause : Stop → Option (List ℕ) → Option (List ℕ) → Type 0
IsCause stops.Read left now = Unit {0}
IsCause stops.Report left now = ⊥
IsCause stops.NoMemory left now = Unit {0}
IsCause stops.TooLong left now = HasRead left now (λ read. most_bytes < length read)
IsCause (stops.Config number field) left now = IsWholly left now (Err (record { number = number; field = field.items }))

-- The report got a front of the text where it failed itself, and else nothing.
abbrev pub HasEnded : Stop → Option (List ℕ) → Option (List ℕ) → Option (List ℕ) → Option (List ℕ) → Type 0
HasEnded stops.Report left now before held = IsGrouped left now (AppendsFront before held)
HasEnded stops.Read left now before held = held ≡ before
HasEnded stops.NoMemory left now before held = held ≡ before
HasEnded stops.TooLong left now before held = IsCause stops.TooLong left now × (held ≡ before)
HasEnded (stops.Config number field) left now before held = IsCause (stops.Config number field) left now × (held ≡ before)
