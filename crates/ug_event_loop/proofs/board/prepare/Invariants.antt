use Rattle.std.proofs.Common.{◌≡◌, false}
use Rattle.ug_board.specs.History.{IsLegal}
use Rattle.ug_turnstile.specs.Passes.{Adds}
use Rattle.ug_event_loop.specs.Turns.{GoesOn, AreMore}
use Rattle.ug_event_loop.specs.Counts.{least_of, most_of, RisesBy, RisesWithin}
use Rattle.ug_event_loop.proofs.board.prepare.Given as goal

-- what was done so far prepares
abbrev pub invariant-loop : goal.invariant-loop
invariant-loop g l =
    (goal.iterator-loop g).can_next l.iterator' × (goal.iterator-loop g).is_finite l.iterator'
    × (l.board.opening ≡ l.fn.board.opening) × Adds (λ entry. entry.pass) 0 l.fn.board.history l.board.history
    × GoesOn g.S.Machine.rules g.S.Speaker.speech l.fn.board.history l.board.history × (l.board.spent ≡ false) × IsLegal g.S.Machine.rules l.board.opening l.board.history
    × RisesBy l.fn.steps l.steps (least_of g.S.Machine.rules l.fn.board.opening l.fn.board.history) (least_of g.S.Machine.rules l.fn.board.opening l.board.history)
    × RisesWithin l.fn.steps l.steps (most_of g.S.Machine.rules l.fn.board.opening l.fn.board.history) (most_of g.S.Machine.rules l.fn.board.opening l.board.history)
    × AreMore l.jobs l.fn.board.history l.board.history
