use Rattle.std.proofs.Common.{sym, ap, subst, ◌∙◌}
use Rattle.std.specs.Map.{keys_of}
use Rattle.std.specs.List.Sorted.{IsStrictlySortedBy}
use Rattle.std.specs.Ordering.{nat_cmp}
use Rattle.ug_queue.specs.Lines.{place_from}
use Rattle.ug_queue.proofs.Placed.{keys_of-mapped}
use Rattle.ug_queue.proofs.Searches.{members_more, members_all}
use Rattle.ug_queue.proofs.line.Line.members.Goals as goal

pub loop-member-init : goal.loop-member-init
loop-member-init g c = (
  ap keys_of c.entries-member-items.ensures ∙ sym (keys_of-mapped (place_from c.self.inside.start) c.self.inside.cursors) ∙ ap (λ q. keys_of q.places) c.self.view_is,
  c.new-members.ensures,
)

pub loop-member-preserved : goal.loop-member-preserved
loop-member-preserved g c =
    (c.loop-member.invariant.0, members_more c.entries-member-items.result.now c.loop-member.member-index _ _ _ c.loop-member-test.true c.loop-member.invariant.1 c.in-Ok.ensures.ok)

pub returns-clause-members : goal.returns-clause-members
returns-clause-members g c = c.loop-member.invariant.1 ∙ members_all c.entries-member-items.result.now c.loop-member.member-index c.loop-member-test.false ∙ c.loop-member.invariant.0

pub returns-in_default-clause-sorted : goal.returns-in_default-clause-sorted
returns-in_default-clause-sorted g c =
    let entries = c.self.inside.cursors in
    subst (λ q. IsStrictlySortedBy nat_cmp (keys_of q.places)) c.self.view_is (subst (IsStrictlySortedBy nat_cmp) (sym (keys_of-mapped (place_from c.self.inside.start) entries)) c.self.invariant.sorted)

pub returns-clause-sorted : goal.returns-clause-sorted
returns-clause-sorted g c =
    let entries = c.self.inside.cursors in
    subst (λ q. IsStrictlySortedBy nat_cmp (keys_of q.places)) c.self.view_is (subst (IsStrictlySortedBy nat_cmp) (sym (keys_of-mapped (place_from c.self.inside.start) entries)) c.self.invariant.sorted)
