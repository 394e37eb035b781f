use Rattle.std.proofs.Common.{option_copied, take}
use Rattle.ug_hearing.specs.Passes.{ArePassed}
use Rattle.ug_hearing.proofs.standings.Standings.visit_all.Given as goal

abbrev pub invariant-loop-key : goal.invariant-loop-key
invariant-loop-key l = ArePassed l.course.changes l.course.from l.course.to l.message (take l.key-index l.keys) (option_copied l.value) l.fn.failed.items l.failed.items l.fn.self l.self
