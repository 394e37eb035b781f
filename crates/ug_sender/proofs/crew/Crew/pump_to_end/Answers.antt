use Rattle.std.proofs.Common.{◌≡◌, ◌<◌, length, sym, ◌∙◌, ap, subst, arith}
use Rattle.std.specs.Prelude.{is_some}
use Rattle.std.proofs.Math.Seq.{map-set_same}
use Rattle.ug_sender.specs.Posts.{AreHere}
use Rattle.ug_sender.proofs.Seats.{here_in}
use Rattle.ug_sender.proofs.Crews.{holds_more, holds_all, as_many, IsOverHere}
use Rattle.ug_sender.proofs.crew.Crew.pump_to_end.Goals as goal

pub pump_to_end-requires-clause-here : goal.pump_to_end-requires-clause-here
pump_to_end-requires-clause-here g c κs within =
    let workers = c.loop-place.self-inside.workers.items in
    let here = subst (λ ps. AreHere c.args.turnstile.now.id ps) (sym c.loop-place.invariant.0) c.requires.here in
    let many : length workers ≡ length c.args.self.now = as_many workers c.args.self.now c.loop-place.invariant.0 in
    let end : c.len-place-end.result ≡ length c.args.self.now = c.loop-place.invariant.2 in
    let below : c.loop-place.place < c.len-place-end.result = c.loop-place-test.true in
    here_in c.args.turnstile.now.id workers c.loop-place.place c.index_mut.result.now here (omega arith) c.index_mut.ensures.value

pub loop-place-preserved : goal.loop-place-preserved
loop-place-preserved g c =
    let workers = c.loop-place.self-inside.workers.items in
    let place = c.loop-place.place in
    let old = c.index_mut.result.now in
    let new = c.pump_to_end.new.self in (
      map-set_same (λ w. w.post) workers place new old (c.pump_to_end.ensures.post ∙ ap (λ w. w.post) c.index_mut.ensures.value) ∙ c.loop-place.invariant.0,
      map-set_same (λ w. is_some w.here) workers place new old (c.pump_to_end.ensures.place ∙ ap (λ w. is_some w.here) c.index_mut.ensures.value) ∙ c.loop-place.invariant.1,
      c.loop-place.invariant.2,
      c.loop-place.invariant.3,
      holds_more (IsOverHere g.M.Machine.rules) workers place new c.loop-place.invariant.4 c.pump_to_end.ensures.over,
    )

pub returns : goal.returns
returns g c =
    let workers = c.loop-place.self-inside.workers.items in
    let many : length workers ≡ length c.args.self.now = as_many workers c.args.self.now c.loop-place.invariant.0 in
    let end : c.len-place-end.result ≡ length c.args.self.now = c.loop-place.invariant.2 in
    record {
      posts = c.loop-place.invariant.0;
      places = c.loop-place.invariant.1;
      over = holds_all (IsOverHere g.M.Machine.rules) workers c.loop-place.place c.loop-place.invariant.4 (omega (arith, c.loop-place-test.false));
    }
