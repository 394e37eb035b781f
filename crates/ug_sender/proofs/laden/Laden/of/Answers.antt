use Rattle.ug_sender.proofs.Loads.{nothing-loaded}
use Rattle.ug_sender.proofs.laden.Laden.of.Goals as goal

pub invariant_of-result : goal.invariant_of-result
invariant_of-result g c =
    let lane = c.lane.invariant.0 in (
      record {
        free = lane.free;
        own = lane.own;
        before = _;
        courses = lane.courses;
        kept = lane.kept;
        count = 0;
        load = nothing-loaded c.lane.inside.latest c.lane.inside.buf.items _;
      },
      c.lane.invariant.1,
    )
