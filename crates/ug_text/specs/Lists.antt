-- Lists without the room that they have to spare.
use Rattle.std.specs.Prelude.{ℕ, List, map}
use Rattle.ug_types.specs.Listed.{Listed}
use Rattle.ug_types.specs.declared.attrs.Segment.{Segment}
use Rattle.ug_types.specs.Attributes.{PathSegment, segment_of}

abbrev pub items_of : Listed ℕ → List ℕ
items_of list = list.items

abbrev pub segments_of : Listed Segment → List PathSegment
segments_of list = map segment_of list.items
