use Rattle.std.proofs.Common.{◌≡◌, ◌≤◌, take}
use Rattle.std.specs.Prelude.{filter}
use Rattle.ug_hearing.specs.Climbed.{is_named}
use Rattle.ug_hearing.proofs.climbs.next_named.Given as goal

-- the keys that were passed over were not named
abbrev pub invariant-loop-place : goal.invariant-loop-place
invariant-loop-place l = record {
  low : l.from ≤ l.place;
  passed : filter (is_named l.judge) (take l.place l.keys) ≡ filter (is_named l.judge) (take l.from l.keys);
}
