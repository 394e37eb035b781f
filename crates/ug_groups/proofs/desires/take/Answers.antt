use Rattle.std.proofs.Common.{sym, ◌∙◌}
use Rattle.ug_groups.proofs.InHand.{taken_value, taken_others}
use Rattle.ug_groups.proofs.desires.take.Goals as goal

pub returns-clause-value : goal.returns-clause-value
returns-clause-value c = taken_value c.args.pool.now c.hold_value.new.pool c.in_ok-id.id c.in-Some.value c.in_ok-id.ensures.known c.in_ok-id.ensures.fresh ∙ sym c.in-Some.is

pub returns-clause-others : goal.returns-clause-others
returns-clause-others c = taken_others c.args.pool.now c.hold_value.new.pool c.in_ok-id.id c.in-Some.value c.in_ok-id.ensures.known c.in_ok-id.ensures.others
