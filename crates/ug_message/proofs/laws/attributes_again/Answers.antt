use Rattle.ug_types.specs.declared.family.Family.TheVariants.{V4}
use Rattle.ug_message.proofs.Formed.{attributes_formed}
use Rattle.ug_message.proofs.AllAgain.{attributes_again}
use Rattle.ug_message.proofs.laws.attributes_again.Goals as goal

pub returns : goal.returns
returns c = λ need a spelled short. attributes_again need a (attributes_formed V4 a spelled) short
