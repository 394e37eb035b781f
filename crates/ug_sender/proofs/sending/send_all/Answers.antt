use Rattle.std.proofs.Common.{take-add, arith, rules}
use Rattle.ug_sender.proofs.Pieces.{SendsPiece-none, SendsPiece-more}
use Rattle.ug_sender.proofs.sending.send_all.Goals as goal

pub loop-at-init : goal.loop-at-init
loop-at-init g c = record {
  within = omega arith;
  sent = SendsPiece-none (g.W.Wire.sessions c.args.wire.now);
  faults = search rules;
  begun = search rules;
  made_for = search rules;
}

pub loop-at-preserved : goal.loop-at-preserved
loop-at-preserved g c = record {
  within = omega (arith, c.in_ok-n.ensures.count, c.split_at.ensures.back_len);
  sent = rw (take-add, ← c.split_at.ensures.back) (SendsPiece-more _ _ _ _ _ c.loop-at.invariant.sent c.in_ok-n.ensures.sent);
  faults = search rules;
  begun = search rules;
  made_for = search rules;
}
