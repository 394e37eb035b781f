use Rattle.std.proofs.Common.{◌≡◌, ◌+◌, ◌≤◌, ◌++◌, map}
use Rattle.std.specs.Vec.{vec_len, vec_capacity}
use Rattle.std.specs.Vec.Iter.{into_iter_items, into_iter_len}
use Rattle.ug_sender.specs.Posts.{worker_here}
use Rattle.ug_sender.proofs.crew.enlist.Given as goal

-- the workers so far, and the lanes that are left
abbrev pub invariant-loop-lane : goal.invariant-loop-lane
invariant-loop-lane g l =
    (goal.iterator-loop-lane g).can_next l.lane-iterator
    × (goal.iterator-loop-lane g).is_finite l.lane-iterator
    × (l.workers.items ++ map worker_here (into_iter_items l.lane-iterator) ≡ map worker_here l.fn.lanes.items)
    × (vec_len l.workers + into_iter_len l.lane-iterator ≤ vec_capacity l.workers)
