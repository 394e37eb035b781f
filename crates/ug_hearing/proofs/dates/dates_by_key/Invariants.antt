use Rattle.std.proofs.Common.{◌≡◌, ◌++◌, drop}
use Rattle.ug_hearing.specs.Watched.{dates_from}
use Rattle.ug_hearing.proofs.dates.dates_by_key.Given as goal

abbrev pub invariant-loop-place : goal.invariant-loop-place
invariant-loop-place l = l.dates.items ++ dates_from l.place (drop l.place l.course.changes) ≡ dates_from 0 l.course.changes
