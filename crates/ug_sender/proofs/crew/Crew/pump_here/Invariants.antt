use Rattle.std.proofs.Common.{◌≡◌, ◌<◌, ◌≤◌, true, false, length, map}
use Rattle.std.specs.Prelude.{is_some}
use Rattle.ug_sender.specs.Posts.{posts_of, Rests, here_deeds}
use Rattle.ug_sender.proofs.Crews.{HoldsFrom, total_here}
use Rattle.ug_sender.proofs.crew.Crew.pump_here.Given as goal

-- the posts are as they were, the first lanes that work here rest, there is room for the lanes, and all together were handed
-- more than at first where something was done
abbrev pub invariant-loop-place : goal.invariant-loop-place
invariant-loop-place g l =
    (posts_of l.self-inside.workers.items ≡ posts_of l.fn.self) × (map (λ worker. is_some worker.here) l.self-inside.workers.items ≡ map (λ worker. is_some worker.here) l.fn.self)
    × (l.place-end ≡ length l.fn.self) × (l.self-inside.room ≡ l.initial.self-inside.room)
    × HoldsFrom (Rests g.M.Machine.rules) l.place l.self-inside.workers.items
    × (l.has_done ≡ false → map (λ worker. here_deeds g.M.Machine.rules worker.here) l.self-inside.workers.items ≡ map (λ worker. here_deeds g.M.Machine.rules worker.here) l.fn.self)
    × (total_here g.M.Machine.rules l.fn.self ≤ total_here g.M.Machine.rules l.self-inside.workers.items)
    × (l.has_done ≡ true → total_here g.M.Machine.rules l.fn.self < total_here g.M.Machine.rules l.self-inside.workers.items)
