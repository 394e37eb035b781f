use Rattle.std.proofs.Common.{◌++◌}
use Rattle.ug_check.proofs.Found.{on_ok}
use Rattle.ug_check.proofs.checker.Checker.take_piece.Goals as goal

pub returns-in-Ok-false-clause-ok : goal.returns-in-Ok-false-clause-ok
returns-in-Ok-false-clause-ok c =
    on_ok c.relieve.result
    (λ goes stream h. goes (stream ++ c.args.piece.now) (record {
      checked = c.in-Ok-false.ensures.ok (stream ++ c.args.piece.now) (c.loop-self.invariant.so_far stream h);
      unfinished = c.in-Ok-false.ensures.last c.in-Ok-false.field-0-test;
    }))
    c.relieve.ensures.ok
