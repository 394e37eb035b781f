use Rattle.ug_groups.proofs.KeptRibs.{kept_as, kept_nothing}
use Rattle.ug_groups.proofs.point.Point.new.Goals as goal

pub invariant_of-result : goal.invariant_of-result
invariant_of-result c = kept_as c.args.key c.new.result _ c.new.ensures (kept_nothing c.args.key)
