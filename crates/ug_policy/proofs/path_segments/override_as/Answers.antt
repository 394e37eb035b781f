use Rattle.std.proofs.Common.{ap, ◌∙◌, length-set}
use Rattle.ug_policy.specs.Paths.{with_numbers, replaced}
use Rattle.ug_policy.proofs.Edits.{segment_step, shown_as}
use Rattle.ug_policy.proofs.path_segments.override_as.Goals as goal

pub loop-i-preserved : goal.loop-i-preserved
loop-i-preserved c = record {
  as_long = length-set _ _ _ ∙ c.loop-i.invariant.as_long;
  whole = segment_step (with_numbers (replaced c.args.old c.args.new)) _ _ c.at_mut.result.now _ _ c.at_mut.ensures.value (ap (shown_as c.at_mut.result.now.is_set) c.replace.ensures) c.loop-i.invariant.whole;
}
