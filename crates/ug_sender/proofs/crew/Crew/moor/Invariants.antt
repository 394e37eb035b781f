use Rattle.std.proofs.Common.{◌≡◌}
use Rattle.std.specs.Vec.{vec_len}
use Rattle.ug_sender.specs.Posts.{posts_of}
use Rattle.ug_sender.proofs.crew.Crew.moor.Given as goal

-- the posts are as they were, and there is room for the lanes
abbrev pub invariant-loop-place : goal.invariant-loop-place
invariant-loop-place g l =
    (posts_of l.workers.items ≡ posts_of l.initial.workers.items) × (vec_len l.workers ≡ vec_len l.initial.workers)
    × (l.place-end ≡ l.initial.place-end) × (l.room ≡ l.initial.room)
