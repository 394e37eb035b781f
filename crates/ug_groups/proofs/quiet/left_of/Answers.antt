use Rattle.std.proofs.Common.{sym, ◌∙◌}
use Rattle.ug_groups.specs.Members.{sub_at}
use Rattle.ug_groups.proofs.Quieted.{nothing-left}
use Rattle.ug_groups.proofs.quiet.left_of.Goals as goal

pub returns : goal.returns
returns c = nothing-left c.args.subgroups.now c.args.peer (sub_at c.args.peer c.args.members.now) (sym c.requires.held ∙ c.if-held.false)
