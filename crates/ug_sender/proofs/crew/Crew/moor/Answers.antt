use Rattle.std.proofs.Common.{refl, sym, subst, ◌∙◌, arith}
use Rattle.ug_sender.specs.Posts.{AreHere, IsRosterOf, posts_of}
use Rattle.ug_sender.proofs.Seats.{post-in}
use Rattle.ug_sender.proofs.crew.Crew.moor.Goals as goal

pub moored-worker-requires-clause-here : goal.moored-worker-requires-clause-here
moored-worker-requires-clause-here g c κs within =
    let first : AreHere g.N.Roster.turnstile (posts_of c.self.inside.workers.items) =
    subst (λ ws. AreHere g.N.Roster.turnstile (posts_of ws)) (sym c.self.view_is) c.requires.here in
    let all : AreHere g.N.Roster.turnstile (posts_of c.loop-place.workers.items) =
    subst (λ ps. AreHere g.N.Roster.turnstile ps) (sym c.loop-place.invariant.0) first in
    c.take_out.ensures.here g.N.Roster.turnstile all

pub moored-worker-requires-clause-post : goal.moored-worker-requires-clause-post
moored-worker-requires-clause-post g c κs within =
    let roster : IsRosterOf g.N.Roster.post (posts_of c.self.inside.workers.items) =
    subst (λ ws. IsRosterOf g.N.Roster.post (posts_of ws)) (sym c.self.view_is) c.requires.roster in
    sym (post-in g.N.Roster.post (posts_of c.self.inside.workers.items) c.loop-place.workers.items c.loop-place.place c.take_out.result roster c.loop-place.invariant.0 c.take_out.ensures.worker)

pub loop-place-preserved : goal.loop-place-preserved
loop-place-preserved g c =
    let grown = c.put_in.ensures.len in
    let left = c.take_out.ensures.len in
    let was = c.loop-place.invariant.1 in (
      c.put_in.ensures.posts c.loop-place.workers.items c.take_out.result c.take_out.ensures.left c.take_out.ensures.worker c.moored-worker.ensures ∙ c.loop-place.invariant.0,
      omega arith,
      refl,
      refl,
    )
