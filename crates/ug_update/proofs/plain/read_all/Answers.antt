use Rattle.std.proofs.Common.{map, arith}
use Rattle.ug_types.specs.Messages.{message_of}
use Rattle.ug_update.proofs.FromStart.{spelled_on, spelled_to}
use Rattle.ug_update.proofs.plain.read_all.Goals as goal

pub returns-in-Awaited : goal.returns-in-Awaited
returns-in-Awaited c =
    (c.split_at.result.1.now, spelled_to c.args.session c.args.stream.now c.split_at.result.1.now c.loop-at.at (map message_of c.loop-at.items.items) c.split_at.ensures.back c.loop-at.invariant.spelled (rw c.in-Awaited.is at c.in_ok-ahead.ensures.exact))

pub loop-at-preserved : goal.loop-at-preserved
loop-at-preserved c =
    let size = rw c.in-Message.is at c.in_ok-ahead.ensures.size in
    let exact = rw c.in-Message.is at c.in_ok-ahead.ensures.exact in
    record {
      within = omega (arith, size);
      spelled =
          spelled_on c.args.session c.args.stream.now c.split_at.result.1.now c.loop-at.at c.in-Message.size c.loop-at.items.items c.push.new.self.items c.in-Message.item
          c.loop-at.invariant.within c.split_at.ensures.back size.0 c.loop-at.invariant.spelled exact c.in_ok-push-in-Message.ensures.items;
    }
