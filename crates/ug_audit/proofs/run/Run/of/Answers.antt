use Rattle.std.proofs.Common.{◌≡◌, subst}
use Rattle.ug_world.specs.World.{World}
use Rattle.ug_audit.specs.Last.{IsLast}
use Rattle.ug_audit.proofs.run.Run.of.Goals as goal

pub returns-clause-run : goal.returns-clause-run
returns-clause-run c =
    let first = c.args.first in
    let events = c.args.events.items in
    record {
      first = c.requires.opening;
      few = c.requires.few;
      timelines = record { history = c.args.history; is = c.requires.history; logs_are = c.in_ok-timelines.ensures.logs; seats_are = c.in_ok-timelines.ensures.seats };
      last = subst (λ (w : World). IsLast w c.in_ok-last.last) c.requires.led c.in_ok-last.ensures;
    }
