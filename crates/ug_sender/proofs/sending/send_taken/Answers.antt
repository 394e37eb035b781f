use Rattle.std.proofs.Common.{rules, ◌≡◌, None}
use Rattle.ug_sender.proofs.Pieces.{sends-nothing}
use Rattle.ug_sender.proofs.sending.send_taken.Goals as goal

pub returns-in_default-clause-sent : goal.returns-in_default-clause-sent
returns-in_default-clause-sent g c =
    let none : c.args.latest ≡ None = search rules in
    sends-nothing (g.W.Wire.sessions c.args.wire.now) c.args.filled c.args.buf.now (c.requires.latest none)

pub returns-then-filled-eq0-clause-sent : goal.returns-then-filled-eq0-clause-sent
returns-then-filled-eq0-clause-sent g c = sends-nothing (g.W.Wire.sessions c.args.wire.now) c.args.filled c.args.buf.now c.if-filled-eq0.true
