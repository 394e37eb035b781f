use Rattle.std.proofs.Common.{take-add, arith, refl, ◌∙◌}
use Rattle.ug_pieces.specs.AppendingLaws.{AppendsPiece-none, AppendsPiece-more}
use Rattle.ug_pieces.proofs.writing.write_all.Goals as goal

pub loop-at-init : goal.loop-at-init
loop-at-init g c = record { within = omega arith; appended = AppendsPiece-none (g.K.Sink.held c.args.report.now); faults = refl }

pub loop-at-preserved : goal.loop-at-preserved
loop-at-preserved g c = record {
  within = omega (arith, c.in_ok-n.ensures.count, c.split_at.ensures.back_len);
  appended = rw (take-add, ← c.split_at.ensures.back) (AppendsPiece-more _ _ _ _ _ c.loop-at.invariant.appended c.in_ok-n.ensures.appended);
  faults = c.in_ok-n.ensures.unharmed ∙ c.loop-at.invariant.faults;
}
