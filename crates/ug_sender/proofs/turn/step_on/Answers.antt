use Rattle.std.proofs.Common.{refl}
use Rattle.ug_sender.proofs.Taking.{step-open, step-other}
use Rattle.ug_sender.proofs.turn.step_on.Goals as goal

pub returns-then-is_open-clause-told : goal.returns-then-is_open-clause-told
returns-then-is_open-clause-told g c =
    step-open c.args.latest c.args.filled c.in-Hand.session c.in-Hand.made c.in-Hand.len c.split_at_mut-room.result.0.now c.next_on.new.buf c.args.buf.now _ _ _
    (c.is_open.ensures.yes c.if-is_open.true) refl c.split_at_mut-room.ensures.front c.split_at_mut-room.ensures.front_len c.in-Hand.ensures.told

pub returns-else-is_open-clause-told : goal.returns-else-is_open-clause-told
returns-else-is_open-clause-told g c =
    step-other c.args.latest c.args.filled c.in-Hand.session c.in-Hand.made c.in-Hand.len c.split_at_mut-room.result.0.now c.next_on.new.buf c.args.buf.now _ _ _
    (c.is_open.ensures.no c.if-is_open.false) refl c.split_at_mut-room.ensures.front c.split_at_mut-room.ensures.front_len c.in-Hand.ensures.told
