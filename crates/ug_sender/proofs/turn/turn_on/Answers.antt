use Rattle.std.proofs.Common.{◌≤◌, length, ◌∙◌, arith}
use Rattle.ug_sender.proofs.Taking.{turn-ended, taken-further, adds-further}
use Rattle.ug_sender.proofs.turn.turn_on.Goals as goal

pub returns-in-Last-clause-told : goal.returns-in-Last-clause-told
returns-in-Last-clause-told g c =
    let room : c.loop-packets.filled ≤ length c.step_on.new.buf = omega (arith, c.step_on.auto.buf, c.loop-packets.invariant.1) in
    turn-ended c.args.latest c.loop-packets.packets c.loop-packets.filled c.in-Last.ending c.loop-packets.buf c.step_on.new.buf _ _ _
    c.loop-packets.invariant.7 room c.in-Last.ensures.told

pub loop-packets-preserved : goal.loop-packets-preserved
loop-packets-preserved g c =
    let invariant = c.loop-packets.invariant in
    let told = c.in-Packet.ensures.told in (
      omega (arith, c.loop-packets-test.true),
      omega (arith, c.step_on.auto.buf, told.3, invariant.1, c.if-buf-filled-lt-LONGEST_MESSAGE.false),
      omega (arith, told.3, invariant.2),
      c.step_on.ensures.opening ∙ invariant.3,
      c.step_on.ensures.spent ∙ invariant.4,
      adds-further (λ entry. entry.pass) c.args.number c.args.board.now.history c.loop-packets.board.history c.step_on.new.board.history invariant.5 c.step_on.ensures.adds,
      c.step_on.ensures.own,
      taken-further c.args.latest c.loop-packets.packets c.loop-packets.filled c.in-Packet.len c.loop-packets.buf c.step_on.new.buf _ _ _ invariant.7 told,
    )
