use Rattle.std.proofs.Common.{List, sym, subst, arith}
use Rattle.ug_groups.specs.declared.member.Member.{Member}
use Rattle.ug_groups.specs.Kept.{IsKept}
use Rattle.ug_groups.proofs.ListFacts.{put-back}
use Rattle.ug_groups.proofs.state.GroupState.lose.Goals as goal

pub invariant_of-self : goal.invariant_of-self
invariant_of-self c =
    let i = c.self.inside in
    let len = c.deref_mut.ensures.len in
    let same = c.lose.auto.members in
    subst (λ (l : List Member). IsKept i.world i.closed i.made c.lose.new.subgroups l) (sym (put-back i.members.len i.members.items c.lose.new.members (omega (arith, len, same))))
    (c.lose.ensures.kept i.closed i.made (subst (λ (l : List Member). IsKept i.world i.closed i.made i.subgroups l) (sym c.deref_mut.ensures.value) c.self.invariant))
