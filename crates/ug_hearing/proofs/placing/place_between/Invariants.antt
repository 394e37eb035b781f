use Rattle.std.proofs.Common.{◌-◌, ◌≤◌, length}
use Rattle.ug_hearing.specs.Keyed.{IsWithin}
use Rattle.ug_hearing.proofs.placing.place_between.Given as goal

abbrev pub invariant-loop-low : goal.invariant-loop-low
invariant-loop-low l = record {
  high : l.high ≤ length l.keys;
  within : IsWithin l.key l.keys l.low l.high;
}

abbrev pub decreases-loop-low : goal.decreases-loop-low
decreases-loop-low l = l.high - l.low
