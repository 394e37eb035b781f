use Rattle.std.proofs.Common.{◌≡◌, drop}
use Rattle.ug_policy.specs.Order.{rises_above}
use Rattle.ug_policy.proofs.numbered.is_rising_above.Given as goal

-- the items that are left decide
abbrev pub invariant-loop-item : goal.invariant-loop-item
invariant-loop-item g l = rises_above g.T.Numbered.number_of l.highest (drop l.item-index l.items) ≡ rises_above g.T.Numbered.number_of l.before l.items
