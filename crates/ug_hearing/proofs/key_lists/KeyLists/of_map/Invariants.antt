use Rattle.std.proofs.Common.{◌≡◌, ◌++◌, length}
use Rattle.ug_hearing.specs.Keyed.{pairs_of}
use Rattle.ug_hearing.specs.Lists.{listed}
use Rattle.ug_hearing.proofs.key_lists.KeyLists.of_map.Given as goal

abbrev pub invariant-loop-key : goal.invariant-loop-key
invariant-loop-key g l = record {
  parts : pairs_of l.keys.items l.lists ++ listed l.key-iterator ≡ l.fn.map;
  lengths : length l.lists ≡ length l.keys.items;
}
