use Rattle.std.proofs.Common.{◌≡◌, ◌++◌, map, drop}
use Rattle.ug_hearing.specs.Watched.{dated_at}
use Rattle.ug_hearing.proofs.dates.add_dates.Given as goal

abbrev pub invariant-loop-change : goal.invariant-loop-change
invariant-loop-change l = l.dates.items ++ map (dated_at l.place) (drop l.change-index l.changes) ≡ l.fn.dates.items ++ map (dated_at l.place) l.changes
