-- Which attributes can be spelled: an attribute's length has two bytes at most.
use Rattle.std.specs.Prelude.{◌≤◌, length}
use Rattle.ug_types.specs.Attributes.{Attributes}
use Rattle.ug_message.specs.Spelling.{segments, numbers}

-- No attribute's value has over 65,535 bytes. Those that have no list have 8 at most.
pub record HasShortValues (a : Attributes) : Type 0 where
  pub path : length (segments a.path) ≤ 65535
  pub communities : length (numbers a.communities) ≤ 65535
  pub clusters : length (numbers a.clusters) ≤ 65535
