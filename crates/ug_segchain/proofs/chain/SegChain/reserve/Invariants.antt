use Rattle.std.proofs.Common.{◌≡◌, ◌≤◌, ◌-◌}
use Rattle.ug_segchain.proofs.chain.SegChain.reserve.Given as goal

abbrev pub invariant-loop-self : goal.invariant-loop-self
invariant-loop-self g l = record { items : l.self.items ≡ l.fn.self.items; spare : l.fn.self.spare ≤ l.self.spare }

abbrev pub decreases-loop-self : goal.decreases-loop-self
decreases-loop-self g l = l.n - l.self.spare
