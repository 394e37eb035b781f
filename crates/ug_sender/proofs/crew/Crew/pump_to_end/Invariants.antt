use Rattle.std.proofs.Common.{◌≡◌, length, map}
use Rattle.std.specs.Prelude.{is_some}
use Rattle.ug_sender.specs.Posts.{posts_of}
use Rattle.ug_sender.proofs.Crews.{HoldsFrom, IsOverHere}
use Rattle.ug_sender.proofs.crew.Crew.pump_to_end.Given as goal

-- the posts are as they were, the first lanes that work here are at their end, and there is room for the lanes
abbrev pub invariant-loop-place : goal.invariant-loop-place
invariant-loop-place g l =
    (posts_of l.self-inside.workers.items ≡ posts_of l.fn.self) × (map (λ worker. is_some worker.here) l.self-inside.workers.items ≡ map (λ worker. is_some worker.here) l.fn.self)
    × (l.place-end ≡ length l.fn.self) × (l.self-inside.room ≡ l.initial.self-inside.room)
    × HoldsFrom (IsOverHere g.M.Machine.rules) l.place l.self-inside.workers.items
