-- Groups of sixteen bits as the code keeps them.
use Rattle.std.specs.Prelude.{◌<◌, ◌≤◌, ◌^◌}
use Rattle.ug_text.specs.declared.ipv6_reader.Grouped.{Grouped}
use Rattle.ug_text.specs.Addresses.{Groups}

abbrev pub groups_of : Grouped → Groups
groups_of g = record { count = g.count; number = g.number }

-- at most eight, and their number has no more bits than they
pub record AreGroups (g : Grouped) : Type 0 where
  pub few : g.count ≤ 8
  pub small : g.number < 65536 ^ g.count
