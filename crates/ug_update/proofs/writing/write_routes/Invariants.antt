use Rattle.std.proofs.Common.{◌≡◌, ◌++◌, drop}
use Rattle.std.specs.List.{list_all}
use Rattle.ug_update.specs.Updates.{own_routes, is_own}
use Rattle.ug_update.proofs.writing.write_routes.Given as goal

-- what is written so far and what is left make up the whole
abbrev pub invariant-loop-key : goal.invariant-loop-key
invariant-loop-key l = record {
  items : l.out.items ++ own_routes (drop l.key-index l.keys) ≡ l.fn.out.items ++ own_routes l.keys;
  formed : list_all is_own (drop l.key-index l.keys) ≡ list_all is_own l.keys;
}
