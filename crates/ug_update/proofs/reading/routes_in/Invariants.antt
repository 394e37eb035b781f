use Rattle.std.proofs.Common.{◌≡◌, ◌+◌, ◌-◌, ◌≤◌, length, drop}
use Rattle.ug_message.specs.Walking.{walk, with_one}
use Rattle.ug_message.specs.Reading.{one_route, routes_in}
use Rattle.ug_update.proofs.reading.routes_in.Given as goal

-- walking on from here gives what walking from the start gives
abbrev pub invariant-loop-at : goal.invariant-loop-at
invariant-loop-at l = record {
  within : l.at ≤ length l.bytes;
  same : walk (with_one (one_route l.family l.add_path)) 0 (l.place + l.at) l.keys.items (drop l.at l.bytes) ≡ routes_in l.family l.add_path l.place l.bytes;
}

abbrev pub decreases-loop-at : goal.decreases-loop-at
decreases-loop-at l = length l.bytes - l.at
