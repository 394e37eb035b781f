use Rattle.std.proofs.Common.{[]}
use Rattle.ug_sender.proofs.Turns.{none-own, deeds-none}
use Rattle.ug_sender.proofs.Wires.{fresh-kept}
use Rattle.ug_sender.proofs.lane.Lane.over.Goals as goal

pub invariant_of-result : goal.invariant_of-result
invariant_of-result g c =
    let pass = c.args.pass in (
      record {
        free = c.requires.free;
        own = none-own g.M.Machine.rules c.args.peer pass.number pass.seen c.requires.none;
        courses = [];
        kept = fresh-kept _ _ _ _ (deeds-none g.M.Machine.rules pass.root pass.number pass.seen c.requires.none) c.requires.sessions c.requires.begun c.requires.faults;
      },
      c.args.buffer.size,
    )
