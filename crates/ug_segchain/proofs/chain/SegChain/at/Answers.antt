use Rattle.std.proofs.Common.{length, slice_get, sym, ap, ◌∙◌, arith}
use Rattle.ug_segchain.proofs.Laid.{chain_small, chain_at, chain_filled}
use Rattle.ug_segchain.proofs.chain.SegChain.at.Goals as goal

pub overflow_add-self-inside : goal.overflow_add-self-inside
overflow_add-self-inside g c =
    omega (arith, chain_small _ _ _ _ c.self.invariant, c.self.invariant.few, c.self.invariant.counted, ap (λ v. length v.items) c.self.view_is, c.requires)

pub look-requires-clause-filled : goal.look-requires-clause-filled
look-requires-clause-filled g c = chain_filled _ _ _ _ c.args.i c.self.invariant (omega (arith, ap (λ v. length v.items) c.self.view_is, c.requires))

pub returns : goal.returns
returns g c =
    sym (ap (λ v. slice_get v.items c.args.i) c.self.view_is)
    ∙ sym (chain_at _ _ _ _ c.args.i c.self.invariant (omega (arith, ap (λ v. length v.items) c.self.view_is, c.requires))) ∙ c.look.ensures
