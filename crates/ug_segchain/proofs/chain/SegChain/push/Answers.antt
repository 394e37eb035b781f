use Rattle.std.proofs.Common.{◌≤◌, ◌∷◌, [], ◌++◌, ap, ◌∙◌, arith}
use Rattle.ug_segchain.proofs.Laid.{chain_total, chain_small, chain_end, chain_pushed}
use Rattle.ug_segchain.proofs.chain.SegChain.push.Goals as goal

pub overflow_add-place : goal.overflow_add-place
overflow_add-place g c = omega (arith, chain_small _ _ _ _ c.self.invariant, c.self.invariant.few)

pub put-requires-clause-inside : goal.put-requires-clause-inside
put-requires-clause-inside g c = omega (arith, chain_total _ _ _ _ c.self.invariant, c.requires, ap (λ v. v.spare) c.self.view_is)

pub put-requires-clause-empty : goal.put-requires-clause-empty
put-requires-clause-empty g c = chain_end _ _ _ _ c.self.invariant

pub overflow_add-self : goal.overflow_add-self
overflow_add-self g c = omega (arith, chain_small _ _ _ _ c.self.invariant, c.self.invariant.few)

pub invariant_of-self : goal.invariant_of-self
invariant_of-self g c =
    let room : 1 ≤ c.self.inside.spare = omega (arith, c.requires, ap (λ v. v.spare) c.self.view_is) in
    (chain_pushed _ _ _ _ _ c.args.value c.self.invariant room c.put.ensures.whole c.put.ensures.joined c.put.ensures.count).chain

pub returns-clause-items : goal.returns-clause-items
returns-clause-items g c =
    let room : 1 ≤ c.self.inside.spare = omega (arith, c.requires, ap (λ v. v.spare) c.self.view_is) in
    (chain_pushed _ _ _ _ _ c.args.value c.self.invariant room c.put.ensures.whole c.put.ensures.joined c.put.ensures.count).items
    ∙ ap (λ v. v.items ++ c.args.value ∷ []) c.self.view_is
