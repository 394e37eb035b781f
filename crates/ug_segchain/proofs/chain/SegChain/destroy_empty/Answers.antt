use Rattle.std.proofs.Common.{ap, ◌∙◌}
use Rattle.ug_segchain.proofs.Laid.{chain_emptied}
use Rattle.ug_segchain.proofs.chain.SegChain.destroy_empty.Goals as goal

pub free_all-requires : goal.free_all-requires
free_all-requires g c = chain_emptied _ _ _ _ c.self.invariant (ap (λ v. v.items) c.self.view_is ∙ c.requires)
