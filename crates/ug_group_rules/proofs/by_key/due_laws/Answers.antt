use Rattle.ug_group_rules.proofs.Dues.{due-changed, due-given}
use Rattle.ug_group_rules.proofs.by_key.due_laws.Goals as goal

pub returns-clause-changed : goal.returns-clause-changed
returns-clause-changed g f p peers members m is = due-changed f p peers members m is

pub returns-clause-given : goal.returns-clause-given
returns-clause-given g group packet peers members = due-given group packet peers members
