-- Why the reading of a configuration stopped.
use Rattle.std.specs.Prelude.{◌≡◌, Err}
use Rattle.ug_edge.specs.Told.{FileTold, Missing}
use Rattle.ug_commands.specs.declared.stop.Stop.{Stop}
use Rattle.ug_commands.specs.declared.stop.Stop.TheVariants as stops
use Rattle.ug_commands.specs.Listed.{IsConfigured, IsTooLong}

-- The file is there and too long, or what it stands for is a refusal; of a read that failed and of running out of
-- memory nothing is said.
abbrev pub IsStopOf : FileTold → Stop → Type 0
IsStopOf file stops.Read = Unit {0}
IsStopOf file stops.NoMemory = Unit {0}
IsStopOf file stops.TooLong = (file ≡ Missing → ⊥) × IsTooLong file
IsStopOf file (stops.Config number field) = (file ≡ Missing → ⊥) × IsConfigured file (Err (record { number = number; field = field.items }))
IsStopOf file stops.Report = ⊥
