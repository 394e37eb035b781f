use Rattle.std.proofs.Common.{ap, ◌∙◌}
use Rattle.ug_adjout.specs.Waits.{first_announced}
use Rattle.ug_adjout.proofs.Values.{first_told}
use Rattle.ug_adjout.proofs.line.Line.first_value.Goals as goal

pub returns : goal.returns
returns g c = c.first.ensures ∙ first_told _ _ c.self.invariant ∙ ap first_announced c.self.view_is
