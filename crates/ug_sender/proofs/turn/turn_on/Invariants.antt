use Rattle.std.proofs.Common.{◌≡◌, ◌*◌, ◌≤◌, length, Some}
use Rattle.ug_turnstile.specs.Passes.{Adds}
use Rattle.ug_sender.specs.Lanes.{AreOfPeer, deeds_at}
use Rattle.ug_sender.proofs.Taking.{HasTaken}
use Rattle.ug_sender.proofs.turn.turn_on.Given as goal

-- so many packets were handed out, none longer than the longest message, and what the open session gets of them stands at
-- the front of the buffer
abbrev pub invariant-loop-packets : goal.invariant-loop-packets
invariant-loop-packets g l =
    (l.packets ≤ 8192) × (l.filled ≤ length l.buf) × (l.filled ≤ 65535 * l.packets) × (l.board.opening ≡ l.fn.board.opening)
    × (l.board.spent ≡ l.fn.board.spent)
    × Adds (λ entry. entry.pass) l.number l.fn.board.history l.board.history
    × AreOfPeer l.peer l.number l.board.history
    × HasTaken l.latest l.packets l.filled l.buf (deeds_at g.M.Machine.rules (Some l.fn.board.opening) l.number l.fn.board.history)
    (deeds_at g.M.Machine.rules (Some l.board.opening) l.number l.board.history)
