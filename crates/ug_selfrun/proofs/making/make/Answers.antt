use Rattle.ug_selfrun.specs.Draws.{seeded}
use Rattle.ug_selfrun.specs.Workload.{workload}
use Rattle.ug_selfrun.proofs.Growing.{whole}
use Rattle.ug_selfrun.proofs.making.make.Goals as goal

pub returns-clause-events : goal.returns-clause-events
unfolding workload
returns-clause-events c =
    whole c.new-all.result.items c.add_ups.new.events.items c.add_drawn.new.events.items c.from_vec.result.items c.args.peers c.args.events (seeded c.args.seed) c.in_ok-drawing.drawing
    c.from_vec.ensures.items c.new-all.ensures.items c.in_ok-add_ups.ensures c.in_ok-add_drawn.ensures c.in_ok-drawing.ensures
