use Rattle.std.proofs.Common.{take}
use Rattle.std.specs.Map.{keys_of}
use Rattle.std.specs.List.{AllByRecursion}
use Rattle.ug_hearing.specs.Marked.{IsSameAtAll}
use Rattle.ug_hearing.proofs.marks.worst_key.Given as goal

abbrev pub invariant-loop-place : goal.invariant-loop-place
invariant-loop-place l =
    AllByRecursion (λ k. IsSameAtAll l.standings.rows l.session.course.changes l.session.course.from l.session.syncs.items l.fn.from l.fn.to k) (keys_of (take l.place l.session.course.changes))
