use Rattle.std.proofs.Common.{◌≡◌, ℕ, ◌+◌, List, ◌++◌, length, false}
use Rattle.ug_check.specs.Checkers.{HasChecked}
use Rattle.ug_check.specs.Waiting.{with_waiting}
use Rattle.ug_check.proofs.checker.Checker.take_piece.Given as goal

abbrev pub invariant-loop-self : goal.invariant-loop-self
invariant-loop-self l = record {
  so_far : (stream : List ℕ) → HasChecked l.fn.self.reader (with_waiting l.fn.self.table l.fn.self.waiting.items) l.fn.self.messages l.fn.self.eors stream → HasChecked l.self.reader (with_waiting l.self.table l.self.waiting.items) l.self.messages l.self.eors (stream ++ l.piece);
  live : l.self.reader.stopped ≡ false;
  size : l.self.reader.taken + length l.self.reader.left ≡ l.fn.self.reader.taken + length l.fn.self.reader.left + length l.piece;
  session : l.self.reader.session ≡ l.fn.self.reader.session;
}

abbrev pub decreases-loop-self : goal.decreases-loop-self
decreases-loop-self l = length l.self.reader.left
