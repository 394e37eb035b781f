use Rattle.ug_group_rules.proofs.Simulating.{merged-before, parted-before, formatted-before}
use Rattle.ug_group_rules.proofs.laws.group_order.Goals as goal

pub returns-clause-merged : goal.returns-clause-merged
returns-clause-merged c = λ e s g h x y legal is at. merged-before e s legal g h x y is at

pub returns-clause-parted : goal.returns-clause-parted
returns-clause-parted c = λ e s g x legal is. parted-before e s legal g x is

pub returns-clause-formatted : goal.returns-clause-formatted
returns-clause-formatted c = λ e s g x legal is turn owing. formatted-before e s legal g x is turn owing
