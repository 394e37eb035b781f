use Rattle.std.proofs.Common.{◌≡◌, ◌+◌, ◌≤◌, length, map, take}
use Rattle.ug_run.specs.Wires.{AreNewWires, HasMade, wire_name}
use Rattle.ug_run.proofs.wires.make_wires.Given as goal

-- the wires to the names so far, and room for the others
abbrev pub invariant-loop-name : goal.invariant-loop-name
invariant-loop-name g l =
    (length l.wires.items ≡ l.name-index) × (length l.names ≤ l.wires.spare + l.name-index)
    × AreNewWires g.E.Wire.Wire.sessions g.E.Wire.Wire.begun g.E.Wire.Wire.faults l.wires.items
    × HasMade (g.E.Source.made l.fn.site) (g.E.Source.made l.site) l.dir (take l.name-index l.names)
    × (g.E.Source.wire_faults l.fn.site ≤ g.E.Source.wire_faults l.site)
    × (g.E.Source.left l.site ≡ g.E.Source.left l.fn.site)
    × (g.E.Source.picks l.site ≡ g.E.Source.picks l.fn.site)
    × (g.E.Source.faults l.site ≡ g.E.Source.faults l.fn.site)
    × (g.E.Source.files l.site ≡ g.E.Source.files l.fn.site)
    × (map g.E.Wire.Wire.made_for l.wires.items ≡ map (wire_name l.dir) (take l.name-index l.names))
    × (g.E.Source.wire_faults l.site ≡ g.E.Source.wire_faults l.fn.site)
