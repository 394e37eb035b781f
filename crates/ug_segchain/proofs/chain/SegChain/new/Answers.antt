use Rattle.std.proofs.Common.{sym, subst}
use Rattle.ug_segchain.specs.Slots.{IsChain}
use Rattle.ug_segchain.proofs.Laid.{no_segments}
use Rattle.ug_segchain.proofs.chain.SegChain.new.Goals as goal

pub invariant_of-result : goal.invariant_of-result
invariant_of-result g c = subst (λ ss. IsChain ss 0 0 0) (sym c.new.ensures.items) no_segments
