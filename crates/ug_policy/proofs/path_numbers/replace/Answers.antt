use Rattle.std.proofs.Common.{◌∙◌, length-set}
use Rattle.ug_policy.specs.Paths.{in_place_of}
use Rattle.ug_policy.proofs.Edits.{number_step}
use Rattle.ug_policy.proofs.path_numbers.replace.Goals as goal

pub loop-i-preserved : goal.loop-i-preserved
loop-i-preserved c = record {
  as_long = length-set _ _ _ ∙ c.loop-i.invariant.as_long;
  whole = number_step (in_place_of c.args.old c.args.new) _ _ _ _ _ c.at_mut-number.ensures.value c.in_place_of.ensures c.loop-i.invariant.whole;
}
