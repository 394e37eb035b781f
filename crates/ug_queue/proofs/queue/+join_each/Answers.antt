use Rattle.std.proofs.Common.{◌≡◌, length, get_or, Some, None, refl, sym, ap, subst, ◌∙◌, drop-cons}
use Rattle.std.specs.Prelude.{IsSome}
use Rattle.ug_queue.specs.Queues.{place_of, without_member, AreNewcomers}
use Rattle.ug_queue.proofs.Members.{come_here, left_again}
use Rattle.ug_queue.proofs.queue.+join_each.Goals as goal

pub remove-requires : goal.remove-requires
remove-requires g t c =
    let q = c.args.line.now in let m = get_or c.args.members.now 0 0 in let n = length q.packets in
    let place : place_of c.join_each.new.line m ≡ Some n = ap (λ r. place_of r m) (c.in-Err.ensures.err ∙ c.in_ok-join.ensures.ok) ∙ come_here m n q.places in
    subst (λ o. IsSome o) (sym place) refl

pub returns-clause-err : goal.returns-clause-err
returns-clause-err g t c =
    let q = c.args.line.now in let m = get_or c.args.members.now 0 0 in let n = length q.packets in
    let none : place_of q m ≡ None = (subst (AreNewcomers q) (drop-cons c.args.members.now 0 0 c.in-len1-up.len_at_least) c.requires).0 in
    c.remove.ensures ∙ ap (λ r. without_member r m) (c.in-Err.ensures.err ∙ c.in_ok-join.ensures.ok) ∙ left_again q m n none
