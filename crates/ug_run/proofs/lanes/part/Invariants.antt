use Rattle.std.proofs.Common.{◌≡◌, ◌+◌, ◌≤◌, ◌++◌, ◌||◌, map}
use Rattle.std.specs.List.{list_any}
use Rattle.std.specs.Vec.Iter.{into_iter_items, into_iter_len}
use Rattle.ug_run.specs.Lanes.{AreKept}
use Rattle.ug_run.proofs.lanes.part.Given as goal

-- what came back so far, and what the lanes that are left will give
abbrev pub invariant-loop-lane : goal.invariant-loop-lane
invariant-loop-lane g l =
    (goal.iterator-loop-lane g).can_next l.lane-iterator
    × (goal.iterator-loop-lane g).is_finite l.lane-iterator
    × ((l.unnoted || list_any (λ lane. lane.unnoted) (into_iter_items l.lane-iterator)) ≡ list_any (λ lane. lane.unnoted) l.fn.lanes.items)
    × (l.wires.items ++ map (λ lane. lane.wire) (into_iter_items l.lane-iterator) ≡ map (λ lane. lane.wire) l.fn.lanes.items)
    × (map g.W.Wire.made_for l.wires.items ++ map (λ lane. lane.made_for) (into_iter_items l.lane-iterator) ≡ map (λ lane. lane.made_for) l.fn.lanes.items)
    × (l.passes.items ++ map (λ lane. lane.pass) (into_iter_items l.lane-iterator) ≡ map (λ lane. lane.pass) l.fn.lanes.items)
    × (into_iter_len l.lane-iterator ≤ l.wires.spare)
    × (into_iter_len l.lane-iterator + 1 ≤ l.passes.spare)
    × (AreKept g.M.Machine.rules g.W.Wire.sessions g.W.Wire.begun g.W.Wire.faults (into_iter_items l.lane-iterator) → AreKept g.M.Machine.rules g.W.Wire.sessions g.W.Wire.begun g.W.Wire.faults l.fn.lanes.items)
