use Rattle.std.proofs.Common.{rules, ◌≡◌, List, ◌∷◌, subst}
use Rattle.std.specs.Vec.Iter.{into_iter_items}
use Rattle.ug_events.specs.declared.event.Event.{Event}
use Rattle.ug_event_loop.proofs.Admitting.{HasAdmitted, admitted-some}
use Rattle.ug_event_loop.proofs.reading.admit_all.Goals as goal

pub returns-in-Err-clause-stopped : goal.returns-in-Err-clause-stopped
returns-in-Err-clause-stopped g c held stands =
    let is : into_iter_items c.loop-event.event-iterator ≡ c.in-Some.event ∷ into_iter_items c.next.new.self = search rules in
    let was = subst (λ (left : List Event). HasAdmitted g.S.Machine.rules g.S.Speaker.speech c.args.first.items left c.args.builder.now c.loop-event.builder held) is (c.loop-event.invariant.taken held stands) in
    admitted-some g.S.Machine.rules g.S.Speaker.speech c.args.first.items (into_iter_items c.next.new.self) c.in-Some.event c.args.builder.now c.loop-event.builder c.admit.new.self held c.in-Err.ensures.stopped was
