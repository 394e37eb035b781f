use Rattle.std.proofs.Common.{◌≡◌, ◌+◌, ◌≤◌, ◌++◌}
use Rattle.std.specs.Vec.{vec_len, vec_capacity}
use Rattle.std.specs.Vec.Iter.{into_iter_items, into_iter_len}
use Rattle.ug_sender.specs.Posts.{posts, posts_of}
use Rattle.ug_sender.proofs.crew.gather.Given as goal

-- the posts of the lanes so far, and those of the workers that are left
abbrev pub invariant-loop-worker : goal.invariant-loop-worker
invariant-loop-worker g l =
    (goal.iterator-loop-worker g).can_next l.worker-iterator
    × (goal.iterator-loop-worker g).is_finite l.worker-iterator
    × (posts l.lanes.items ++ posts_of (into_iter_items l.worker-iterator) ≡ posts_of l.fn.workers.items)
    × (vec_len l.lanes + into_iter_len l.worker-iterator ≤ vec_capacity l.lanes)
