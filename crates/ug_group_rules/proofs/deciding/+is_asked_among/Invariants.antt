use Rattle.std.proofs.Common.{length}
use Rattle.ug_group_rules.proofs.deciding.+is_asked_among.Given as goal

abbrev pub decreases-is_asked_among : goal.decreases-is_asked_among
decreases-is_asked_among l = length l.entries.now
