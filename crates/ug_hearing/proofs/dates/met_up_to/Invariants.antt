use Rattle.std.proofs.Common.{◌≡◌, ◌<◌, ◌≤◌, ℕ, slice_get, Some}
use Rattle.std.specs.Map.{keys_of}
use Rattle.ug_types.specs.declared.key.Key.{Key}
use Rattle.ug_hearing.specs.Keyed.{IsPlaceOf}
use Rattle.ug_hearing.specs.declared.dated.Dated.{Dated}
use Rattle.ug_hearing.specs.Differences.{IsSame}
use Rattle.ug_hearing.proofs.dates.met_up_to.Given as goal

abbrev pub invariant-loop-i : goal.invariant-loop-i
invariant-loop-i l = record {
  same : (j : ℕ) (d : Dated) → slice_get l.dates j ≡ Some d → l.fn.passed ≤ j → j < l.i → (q : Key) → IsPlaceOf q (keys_of l.course.changes) d.place → IsSame l.standings.rows l.course.changes l.course.from l.version q;
  up_to : (j : ℕ) (d : Dated) → slice_get l.dates j ≡ Some d → l.fn.passed ≤ j → j < l.i → d.version ≤ l.version;
}
