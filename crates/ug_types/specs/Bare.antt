-- Attributes as the struct that has them, with lists that have no room to spare: by these attributes compare.
use Rattle.std.specs.Prelude.{List, map}
use Rattle.ug_types.specs.Listed.{Listed}
use Rattle.ug_types.specs.declared.attrs.Segment.{Segment}
use Rattle.ug_types.specs.declared.attrs.AttrParts.{AttrParts}
use Rattle.ug_types.specs.Attributes.{PathSegment, Attributes}

abbrev pub bare_list : {T : Type 0} → List T → Listed T
bare_list items = record { items = items; spare = 0 }

abbrev pub bare_segment : PathSegment → Segment
bare_segment s = record { is_set = s.is_set; numbers = bare_list s.numbers }

abbrev pub bare_parts : Attributes → AttrParts
bare_parts a = record {
  origin = a.origin;
  path = bare_list (map bare_segment a.path);
  next_hop = a.next_hop;
  med = a.med;
  local_pref = a.local_pref;
  atomic = a.atomic;
  aggregator = a.aggregator;
  communities = bare_list a.communities;
  originator = a.originator;
  clusters = bare_list a.clusters;
}
