use Rattle.std.proofs.Common.{◌<◌, ◌∷◌, sym, ap, ◌∙◌, arith}
use Rattle.ug_segchain.proofs.Laid.{chain_first, chain_taken, chain_passed, chain_popped, chain_freed}
use Rattle.ug_segchain.proofs.chain.SegChain.pop_front.Goals as goal

pub take_out-value-requires-clause-filled : goal.take_out-value-requires-clause-filled
take_out-value-requires-clause-filled g c = chain_first _ _ _ _ c.self.invariant (omega (arith, c.if-self-eq0.false))

pub free_first-requires-clause-empty : goal.free_first-requires-clause-empty
free_first-requires-clause-empty g c =
    let some : 0 < c.self.inside.len = omega (arith, c.if-self-eq0.false) in
    let taken = chain_taken _ c.take_out-value.new.segments.items _ _ _ c.take_out-value.result c.self.invariant some c.take_out-value.ensures.value c.take_out-value.ensures.joined in
    chain_passed c.take_out-value.new.segments.items c.self.inside.head c.self.inside.spare taken.0 taken.2 (omega (arith, c.if-self-eq-SEGMENT_PLACES.true))

pub invariant_of-self : goal.invariant_of-self
invariant_of-self g c =
    let some : 0 < c.self.inside.len = omega (arith, c.if-self-eq0.false) in
    let taken = chain_taken _ c.take_out-value.new.segments.items _ _ _ c.take_out-value.result c.self.invariant some c.take_out-value.ensures.value c.take_out-value.ensures.joined in
    (chain_freed _ _ c.free_first.new.segments.items _ _ _ taken.0 c.take_out-value.result c.self.invariant taken.1 taken.2 c.take_out-value.ensures.count (omega (arith, c.if-self-eq-SEGMENT_PLACES.true))
    c.free_first.ensures.whole c.free_first.ensures.joined c.free_first.ensures.count).chain

pub returns-then-self-eq-SEGMENT_PLACES-clause-some : goal.returns-then-self-eq-SEGMENT_PLACES-clause-some
returns-then-self-eq-SEGMENT_PLACES-clause-some g c =
    let some : 0 < c.self.inside.len = omega (arith, c.if-self-eq0.false) in
    let taken = chain_taken _ c.take_out-value.new.segments.items _ _ _ c.take_out-value.result c.self.invariant some c.take_out-value.ensures.value c.take_out-value.ensures.joined in
    sym (ap (λ v. v.items) c.self.view_is) ∙ taken.1 ∙ ap (λ l. c.take_out-value.result ∷ l) (sym
    (chain_freed _ _ c.free_first.new.segments.items _ _ _ taken.0 c.take_out-value.result c.self.invariant taken.1 taken.2 c.take_out-value.ensures.count (omega (arith, c.if-self-eq-SEGMENT_PLACES.true))
    c.free_first.ensures.whole c.free_first.ensures.joined c.free_first.ensures.count).items)

pub invariant_of-self-else-self-eq-SEGMENT_PLACES : goal.invariant_of-self-else-self-eq-SEGMENT_PLACES
invariant_of-self-else-self-eq-SEGMENT_PLACES g c =
    let some : 0 < c.self.inside.len = omega (arith, c.if-self-eq0.false) in
    let taken = chain_taken _ c.take_out-value.new.segments.items _ _ _ c.take_out-value.result c.self.invariant some c.take_out-value.ensures.value c.take_out-value.ensures.joined in
    (chain_popped _ _ _ _ _ taken.0 c.take_out-value.result c.self.invariant taken.1 taken.2 c.take_out-value.ensures.whole c.take_out-value.ensures.count
    (omega (arith, c.self.invariant.starts, c.if-self-eq-SEGMENT_PLACES.false))).chain

pub returns-clause-some : goal.returns-clause-some
returns-clause-some g c =
    let some : 0 < c.self.inside.len = omega (arith, c.if-self-eq0.false) in
    let taken = chain_taken _ c.take_out-value.new.segments.items _ _ _ c.take_out-value.result c.self.invariant some c.take_out-value.ensures.value c.take_out-value.ensures.joined in
    sym (ap (λ v. v.items) c.self.view_is) ∙ taken.1 ∙ ap (λ l. c.take_out-value.result ∷ l) (sym
    (chain_popped _ _ _ _ _ taken.0 c.take_out-value.result c.self.invariant taken.1 taken.2 c.take_out-value.ensures.whole c.take_out-value.ensures.count
    (omega (arith, c.self.invariant.starts, c.if-self-eq-SEGMENT_PLACES.false))).items)
