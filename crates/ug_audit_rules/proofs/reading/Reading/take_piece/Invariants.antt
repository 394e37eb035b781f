use Rattle.std.proofs.Common.{ℕ, List, ◌++◌, length}
use Rattle.ug_audit_rules.specs.Reading.{HasReadTo, IsMid}
use Rattle.ug_audit_rules.proofs.reading.Reading.take_piece.Given as goal

abbrev pub invariant-loop-front : goal.invariant-loop-front
invariant-loop-front l = (stream : List ℕ) → HasReadTo l.last l.fn.self stream → IsMid l.last l.self (stream ++ l.piece) l.left

abbrev pub decreases-loop-front : goal.decreases-loop-front
decreases-loop-front l = length l.left
