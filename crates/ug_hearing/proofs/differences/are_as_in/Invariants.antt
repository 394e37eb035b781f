use Rattle.std.proofs.Common.{◌≡◌, true, take}
use Rattle.ug_types.specs.declared.key.Key.{Key}
use Rattle.ug_message.specs.Tables.{among}
use Rattle.ug_hearing.specs.Differences.{IsSame}
use Rattle.ug_hearing.proofs.differences.are_as_in.Given as goal

abbrev pub invariant-loop-key : goal.invariant-loop-key
invariant-loop-key l = (q : Key) → among (take l.key-index l.keys) q ≡ true → IsSame l.standings.rows l.course.changes l.course.from l.version q
