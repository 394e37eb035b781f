use Rattle.std.proofs.Common.{◌≡◌, ◌+◌, ◌∷◌, drop, get_or, sym, ap, subst, ◌∙◌, add-one, drop-cons}
use Rattle.ug_queue.specs.Queues.{without_members, AreMembers}
use Rattle.ug_queue.proofs.queue.remove_each.Goals as goal

pub remove-requires : goal.remove-requires
remove-requires g c = (subst (AreMembers c.loop-member.line) (drop-cons c.args.members.now c.loop-member.member-index 0 c.loop-member-test.true) c.loop-member.invariant.members).0

pub loop-member-preserved : goal.loop-member-preserved
loop-member-preserved g c =
    let at = c.loop-member.member-index in let ms = c.args.members.now in let line = c.loop-member.line in let inv = c.loop-member.invariant in
    let step : drop at ms ≡ get_or ms at 0 ∷ drop (at + 1) ms = drop-cons ms at 0 c.loop-member-test.true ∙ ap (λ n. get_or ms at 0 ∷ drop n ms) (sym (add-one at)) in
    record {
      left = ap (λ q. without_members q (drop (at + 1) ms)) c.remove.ensures ∙ sym (ap (without_members line) step) ∙ inv.left;
      members = subst (λ q. AreMembers q (drop (at + 1) ms)) (sym c.remove.ensures) (subst (AreMembers line) step inv.members).1;
      packets = ap (λ q. q.packets) c.remove.ensures ∙ inv.packets;
      limit = ap (λ q. q.limit) c.remove.ensures ∙ inv.limit;
    }
