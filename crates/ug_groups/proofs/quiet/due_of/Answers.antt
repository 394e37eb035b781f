use Rattle.std.proofs.Common.{ℕ, ◌≤◌, sym, ap, subst, arith, slice_get}
use Rattle.ug_groups.proofs.ListFacts.{get_is}
use Rattle.ug_groups.proofs.Stepping.{had}
use Rattle.ug_groups.proofs.Quieted.{due-step, left-few}
use Rattle.ug_groups.proofs.quiet.due_of.Goals as goal

pub due_at-due-requires-clause-few : goal.due_at-due-requires-clause-few
due_at-due-requires-clause-few c =
    (c.requires.2.room c.loop-place.place c.index-members-place.result (get_is c.args.members.now c.loop-place.place c.index-members-place.result (omega arith) c.index-members-place.is)).few

pub due_at-due-requires-clause-short : goal.due_at-due-requires-clause-short
due_at-due-requires-clause-short c =
    subst (λ (n : ℕ). n ≤ c.local.result.now.queue_limit) (sym c.left_of-left.ensures)
    (left-few c.args.world.now c.args.subgroups.now c.args.members.now c.loop-place.place c.local.result.now.queue_limit c.requires c.know_rows.ensures (ap (λ l. l.queue_limit) c.local.ensures))

pub loop-place-preserved : goal.loop-place-preserved
loop-place-preserved c =
    let p = c.loop-place.place in
    let m = c.index-members-place.result in
    let at = get_is c.args.members.now p m (omega arith) c.index-members-place.is in
    let sessions = had (slice_get c.args.world.now.peers p) c.session.result c.session.ensures in
    let step = due-step c.args.world.now.peers c.args.subgroups.now c.args.members.now p m c.session.result c.left_of-left.result at sessions c.left_of-left.ensures c.due_at-due.result c.due_at-due.ensures.due in
    let was = c.loop-place.invariant.due in
    let most = c.loop-place.invariant.bounded in
    let here = c.due_at-due.ensures.bounded in
    record { due = omega (arith, step, was); bounded = omega (arith, most, here) }
