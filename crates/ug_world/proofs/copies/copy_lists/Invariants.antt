use Rattle.std.proofs.Common.{◌≡◌, take}
use Rattle.ug_world.proofs.copies.copy_lists.Given as goal

-- what was copied so far
abbrev pub invariant-loop-list : goal.invariant-loop-list
invariant-loop-list l = l.copy.items ≡ take l.list-index l.lists.items
