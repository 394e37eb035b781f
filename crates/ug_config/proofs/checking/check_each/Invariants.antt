use Rattle.std.proofs.Common.{◌≡◌, drop}
use Rattle.ug_config.specs.Checks.{first_fault}
use Rattle.ug_config.proofs.checking.check_each.Given as goal

-- the places that are left decide
abbrev pub invariant-loop-item : goal.invariant-loop-item
invariant-loop-item g l = record {
  left : first_fault (g.C.Check.fault l.check) l.place (drop l.item-index l.items) ≡ first_fault (g.C.Check.fault l.check) 0 l.items;
  place : l.place ≡ l.item-index;
}
