use Rattle.ug_group_rules.proofs.Lawful.{group_lawful}
use Rattle.ug_group_rules.proofs.Speaks.{group_speaks}
use Rattle.ug_group_rules.proofs.laws.group_laws.Goals as goal

pub returns-clause-machine : goal.returns-clause-machine
returns-clause-machine c = group_lawful

pub returns-clause-speaks : goal.returns-clause-speaks
returns-clause-speaks c = group_speaks
