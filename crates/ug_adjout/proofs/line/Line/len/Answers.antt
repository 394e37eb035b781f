use Rattle.std.proofs.Common.{length, sym, ap, ◌∙◌}
use Rattle.ug_adjout.proofs.ByPlace.{placed_length}
use Rattle.ug_adjout.proofs.line.Line.len.Goals as goal

pub returns-clause-len : goal.returns-clause-len
returns-clause-len g c = c.len.ensures.len ∙ sym (placed_length _ _ c.self.invariant.indexed) ∙ ap length c.self.view_is
