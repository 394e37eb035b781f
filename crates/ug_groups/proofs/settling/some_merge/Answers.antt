use Rattle.std.proofs.Common.{sym}
use Rattle.ug_groups.proofs.WorkDue.{some_merge_is}
use Rattle.ug_groups.proofs.settling.some_merge.Goals as goal

pub returns-in-Some : goal.returns-in-Some
returns-in-Some c = sym (some_merge_is c.args.subgroups.now c.in-Some.field-0.0 c.in-Some.field-0.1 c.in-Some.ensures.some)
