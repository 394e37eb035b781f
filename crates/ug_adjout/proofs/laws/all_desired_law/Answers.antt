use Rattle.ug_adjout.proofs.Desiring.{each-desired}
use Rattle.ug_adjout.proofs.laws.all_desired_law.Goals as goal

pub returns : goal.returns
returns g c cmp total exact same a rows value keys is shown sorted order values agree = each-desired total exact same a rows value keys is shown sorted order values agree
