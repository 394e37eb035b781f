use Rattle.std.proofs.Common.{◌≡◌, ap, ◌∙◌}
use Rattle.std.specs.Prelude.{◌&&◌}
use Rattle.std.proofs.lemmas.Result.{IfOk-weaker}
use Rattle.ug_events.specs.Views.{event_of}
use Rattle.ug_world.specs.declared.peer_state.PeerState.{PeerState}
use Rattle.ug_world.specs.World.{World}
use Rattle.ug_world.specs.Touches.{is_about}
use Rattle.ug_speaker.specs.Speech.{is_request}
use Rattle.ug_group_rules.specs.Machine as machine
use Rattle.ug_group_rules.specs.Machine.{System, Said, Took, marks_at, take_event}
use Rattle.ug_groups.proofs.groups.take.Goals as goal

pub returns-clause-said : goal.returns-clause-said
returns-clause-said g c =
    let e = event_of c.args.event.now in
    let s = c.args.state.now in
    let world = c.group_laws.ensures.speaks.steps.world_after_job (machine.Take e) s c.requires.legal in
    IfOk-weaker _ _ _
    (λ (said : Said) (k : said ≡ Took c.in_ok-marks.marks.items).
    k
    ∙ ap Took
    (c.in_ok-marks.ensures
    ∙ ap (λ (t : System). marks_at (λ (p : PeerState). is_request e && is_about e p) 0 t.world.peers t) c.in_ok-take.ensures.state
    ∙ ap (λ (w : World). marks_at (λ (p : PeerState). is_request e && is_about e p) 0 w.peers (take_event e s)) world))
    c.took.ensures
