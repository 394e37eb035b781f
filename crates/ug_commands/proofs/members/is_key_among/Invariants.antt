use Rattle.std.proofs.Common.{◌≡◌, drop}
use Rattle.std.specs.List.{list_any}
use Rattle.ug_commands.specs.Groups.{has_key}
use Rattle.ug_commands.proofs.members.is_key_among.Given as goal

-- those that are left decide
abbrev pub invariant-loop-member : goal.invariant-loop-member
invariant-loop-member l = list_any (has_key l.key) (drop l.member-index l.members) ≡ list_any (has_key l.key) l.members
