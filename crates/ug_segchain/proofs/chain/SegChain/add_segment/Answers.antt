use Rattle.std.proofs.Common.{◌<◌, ◌^◌, length, ap, ◌∙◌, arith}
use Rattle.ug_segchain.proofs.Laid.{chain_small, chain_grown}
use Rattle.ug_segchain.proofs.chain.SegChain.add_segment.Goals as goal

pub overflow_add-self : goal.overflow_add-self
overflow_add-self g c = omega (arith, chain_small _ _ _ _ c.self.invariant, c.self.invariant.few)

pub invariant_of-self-2 : goal.invariant_of-self-2
invariant_of-self-2 g c =
    let few : length c.self.inside.segments.items < 2 ^ 57 = omega (arith, c.if-len-ge-MOST_SEGMENTS.false, c.len.ensures, c.self.inside.segments.ok.0) in
    (chain_grown _ _ _ _ _ c.self.invariant few c.add_segment.ensures.whole c.in_ok-add_segment.ensures.ok c.in_ok-add_segment.ensures.count).chain

pub returns-clause-items : goal.returns-clause-items
returns-clause-items g c =
    let few : length c.self.inside.segments.items < 2 ^ 57 = omega (arith, c.if-len-ge-MOST_SEGMENTS.false, c.len.ensures, c.self.inside.segments.ok.0) in
    (chain_grown _ _ _ _ _ c.self.invariant few c.add_segment.ensures.whole c.in_ok-add_segment.ensures.ok c.in_ok-add_segment.ensures.count).items ∙ ap (λ v. v.items) c.self.view_is
