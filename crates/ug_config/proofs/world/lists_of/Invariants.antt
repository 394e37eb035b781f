use Rattle.std.proofs.Common.{◌≡◌, true, ◌++◌, map}
use Rattle.std.specs.List.{list_all}
use Rattle.ug_policy.specs.Lists.{seq_of}
use Rattle.ug_config.specs.Worlds.{in_order, is_list}
use Rattle.ug_config.proofs.world.lists_of.Given as goal

-- the lists so far and those that are left are all, and those that are left aren't refused
abbrev pub invariant-loop-list : goal.invariant-loop-list
invariant-loop-list l = record {
  made : l.lists.items ++ map (in_order seq_of) l.list-iterator.rest.items ≡ map (in_order seq_of) l.fn.read.items;
  left : list_all is_list l.list-iterator.rest.items ≡ true;
}
