use Rattle.ug_group_rules.proofs.OneTurned.{turned-alone}
use Rattle.ug_group_rules.proofs.by_key.turn_law.Goals as goal

pub returns : goal.returns
returns g e old p state new s' is were seats request same turns world others = turned-alone e old p state new s' is were seats request same turns world others
