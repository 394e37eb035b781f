use Rattle.std.proofs.Common.{◌≡◌, ◌+◌, ◌≤◌, ◌++◌, map, drop}
use Rattle.ug_world.specs.Private.{private_table}
use Rattle.ug_audit_rules.proofs.routes.routes_of.Given as goal

-- the routes so far and those of the keys that are left make up the whole
abbrev pub invariant-loop-key : goal.invariant-loop-key
invariant-loop-key g l = record {
  routes : l.routes.items ++ map (private_table l.id l.world) (drop l.key-index l.keys) ≡ map (private_table l.id l.world) l.keys;
  most : l.steps ≤ l.fn.steps + l.key-index;
  counted : l.fn.steps ≤ l.steps;
}
