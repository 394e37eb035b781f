use Rattle.std.proofs.Common.{[], ◌≡◌, ◌∷◌, ◌++◌, length, sym, ◌∙◌, ap, arith}
use Rattle.std.specs.Vec.Iter.{into_iter_items}
use Rattle.std.proofs.lemmas.List.{append-nil, length-map}
use Rattle.ug_sender.specs.Posts.{post_of, posts, posts_of}
use Rattle.ug_sender.proofs.Seats.{none_by_length, roster-next, posts-next}
use Rattle.ug_sender.proofs.crew.gather.Goals as goal

pub join-lane-requires-clause-post : goal.join-lane-requires-clause-post
join-lane-requires-clause-post g c κs within =
    let lanes = c.loop-worker.lanes.items in
    let are : posts lanes ++ c.in-Some.worker.post ∷ posts_of (into_iter_items c.next.new.self) ≡ posts_of c.args.workers.items =
    ap (λ ws. posts lanes ++ posts_of ws) (sym c.in-Some.ensures.steps.0) ∙ c.loop-worker.invariant.2 in
    let count : length (posts lanes) ≡ length lanes = length-map lanes post_of in
    roster-next g.N.Roster.post (posts_of c.args.workers.items) (posts lanes) c.in-Some.worker.post (posts_of (into_iter_items c.next.new.self)) c.len.result
    c.requires.roster are (omega (arith, c.len.ensures, count))

pub loop-worker-preserved : goal.loop-worker-preserved
loop-worker-preserved g c =
    let lanes = c.loop-worker.lanes.items in
    let are : posts lanes ++ c.in-Some.worker.post ∷ posts_of (into_iter_items c.next.new.self) ≡ posts_of c.args.workers.items =
    ap (λ ws. posts lanes ++ posts_of ws) (sym c.in-Some.ensures.steps.0) ∙ c.loop-worker.invariant.2 in (
      tt,
      tt,
      ap (λ ls. posts ls ++ posts_of (into_iter_items c.next.new.self)) c.push_reserved.ensures.items
          ∙ posts-next lanes c.join-lane.result c.in-Some.worker.post (posts_of (into_iter_items c.next.new.self)) (posts_of c.args.workers.items) are c.join-lane.ensures,
      let steps = c.in-Some.ensures.steps.1 in omega (arith, c.loop-worker.invariant.3, c.push_reserved.ensures.len, c.push_reserved.ensures.capacity),
    )

pub returns : goal.returns
returns g c =
    let lanes = c.loop-worker.lanes.items in
    let none : into_iter_items c.loop-worker.worker-iterator ≡ [] =
    none_by_length (into_iter_items c.loop-worker.worker-iterator) (let same = c.loop-worker.worker-iterator.rest.ok.0 in let zero_len = c.in-None.ensures.steps.0 in sym same ∙ zero_len) in
    ap posts c.from_vec.ensures.items
    ∙ (sym (append-nil (posts lanes)) ∙ (ap (λ ws. posts lanes ++ posts_of ws) (sym none) ∙ c.loop-worker.invariant.2))
