-- Values that attributes can have.
use Rattle.std.specs.Prelude.{ℕ, nat_le, Bool, true, map, Option, Some, None}
use Rattle.std.specs.List.{list_all}
use Rattle.ug_types.specs.declared.attrs.Segment.{Segment}
use Rattle.ug_types.specs.Listed.{Listed}
use Rattle.ug_types.specs.Attributes.{is_segment, segment_of}

-- an origin, where there is one, has a meaning
abbrev pub is_sound_origin : Option ℕ → Bool
is_sound_origin None = true
is_sound_origin (Some n) = nat_le n 2

-- each segment of a path, where there is one, has 1 to 255 numbers
abbrev pub is_sound_path : Option (Listed Segment) → Bool
is_sound_path None = true
is_sound_path (Some path) = list_all is_segment (map segment_of path.items)
