use Rattle.std.proofs.Common.{◌≡◌, ◌+◌, ◌≤◌, ◌++◌, length}
use Rattle.std.specs.Vec.Iter.{into_iter_items, into_iter_len}
use Rattle.ug_run.specs.Wires.{AreNewWires}
use Rattle.ug_run.specs.Lanes.{ArePassesFrom, fresh_lanes}
use Rattle.ug_run.proofs.lanes.man.Given as goal

-- the lanes so far, and those over the wires that are left
abbrev pub invariant-loop-wire : goal.invariant-loop-wire
invariant-loop-wire g l =
    (goal.iterator-loop-wire g).can_next l.wire-iterator
    × (goal.iterator-loop-wire g).is_finite l.wire-iterator
    × (l.lanes.items ++ fresh_lanes g.W.Wire.made_for (length l.lanes.items) (into_iter_items l.wire-iterator) (into_iter_items l.passes) ≡ fresh_lanes g.W.Wire.made_for 0 l.fn.wires.items l.fn.passes.items)
    × AreNewWires g.W.Wire.sessions g.W.Wire.begun g.W.Wire.faults (into_iter_items l.wire-iterator)
    × ArePassesFrom (length l.lanes.items + 1) (into_iter_items l.passes)
    × (into_iter_len l.passes ≡ into_iter_len l.wire-iterator)
    × (into_iter_len l.wire-iterator ≤ into_iter_len l.buffers)
    × (into_iter_len l.wire-iterator ≤ l.lanes.spare)
