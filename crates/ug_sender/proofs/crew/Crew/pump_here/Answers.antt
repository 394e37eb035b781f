use Rattle.std.proofs.Common.{◌≡◌, ◌<◌, length, sym, ◌∙◌, ap, subst, arith}
use Rattle.std.specs.Prelude.{is_some}
use Rattle.std.proofs.Math.Seq.{map-set_same}
use Rattle.ug_sender.specs.Posts.{AreHere, Rests, here_deeds}
use Rattle.ug_sender.proofs.Seats.{here_in}
use Rattle.ug_sender.proofs.Crews.{holds_more, holds_all, as_many, total_same, total_kept, total_done}
use Rattle.ug_sender.proofs.crew.Crew.pump_here.Goals.{then-pump_out, else-pump_out}
use Rattle.ug_sender.proofs.crew.Crew.pump_here.Goals as goal

pub pump_out-requires-clause-here : goal.pump_out-requires-clause-here
pump_out-requires-clause-here g c κs within =
    let workers = c.loop-place.self-inside.workers.items in
    let here = subst (λ ps. AreHere c.args.turnstile.now.id ps) (sym c.loop-place.invariant.0) c.requires.here in
    let many : length workers ≡ length c.args.self.now = as_many workers c.args.self.now c.loop-place.invariant.0 in
    let end : c.len-place-end.result ≡ length c.args.self.now = c.loop-place.invariant.2 in
    let below : c.loop-place.place < c.len-place-end.result = c.loop-place-test.true in
    here_in c.args.turnstile.now.id workers c.loop-place.place c.index_mut.result.now here (omega arith) c.index_mut.ensures.value

pub loop-place-preserved : goal.loop-place-preserved
loop-place-preserved g c =
    let workers = c.loop-place.self-inside.workers.items in
    let place = c.loop-place.place in
    let old = c.index_mut.result.now in
    let new = c.pump_out.new.self in
    let many : length workers ≡ length c.args.self.now = as_many workers c.args.self.now c.loop-place.invariant.0 in
    let end : c.len-place-end.result ≡ length c.args.self.now = c.loop-place.invariant.2 in
    let below : c.loop-place.place < c.len-place-end.result = c.loop-place-test.true in
    let within : place < length workers = omega arith in
    let kept = total_kept g.M.Machine.rules workers place old new within c.index_mut.ensures.value c.pump_out.ensures.kept in (
      map-set_same (λ w. w.post) workers place new old (c.pump_out.ensures.post ∙ ap (λ w. w.post) c.index_mut.ensures.value) ∙ c.loop-place.invariant.0,
      map-set_same (λ w. is_some w.here) workers place new old (c.pump_out.ensures.place ∙ ap (λ w. is_some w.here) c.index_mut.ensures.value) ∙ c.loop-place.invariant.1,
      c.loop-place.invariant.2,
      c.loop-place.invariant.3,
      holds_more (Rests g.M.Machine.rules) workers place new c.loop-place.invariant.4 c.pump_out.ensures.rests,
      elim c.if-pump_out.branch [
        | then-pump_out w ↦ λ none. let bad = w.has_done-is in absurd cc
        | else-pump_out w ↦ λ none.
            map-set_same (λ worker. here_deeds g.M.Machine.rules worker.here) workers place new old
            (c.pump_out.ensures.still w.if-pump_out.false ∙ ap (λ worker. here_deeds g.M.Machine.rules worker.here) c.index_mut.ensures.value)
            ∙ c.loop-place.invariant.5 (sym w.has_done-is ∙ none)
      ],
      omega (arith, c.loop-place.invariant.6, kept),
      elim c.if-pump_out.branch [
        | then-pump_out w ↦ λ has.
            let more = total_done g.M.Machine.rules workers place old new within c.index_mut.ensures.value c.pump_out.ensures.kept (c.pump_out.ensures.done w.if-pump_out.true) in
            omega (arith, c.loop-place.invariant.6)
        | else-pump_out w ↦ λ has. let before = c.loop-place.invariant.7 (sym w.has_done-is ∙ has) in omega (arith, kept)
      ],
    )

pub returns : goal.returns
returns g c =
    let workers = c.loop-place.self-inside.workers.items in
    let many : length workers ≡ length c.args.self.now = as_many workers c.args.self.now c.loop-place.invariant.0 in
    let end : c.len-place-end.result ≡ length c.args.self.now = c.loop-place.invariant.2 in
    record {
      posts = c.loop-place.invariant.0;
      places = c.loop-place.invariant.1;
      rest = holds_all (Rests g.M.Machine.rules) workers c.loop-place.place c.loop-place.invariant.4 (omega (arith, c.loop-place-test.false));
      still = c.loop-place.invariant.5;
      done = λ has same.
          let more = c.loop-place.invariant.7 has in
          let as_before = total_same g.M.Machine.rules workers c.args.self.now same in
          omega arith;
    }
