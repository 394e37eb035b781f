use Rattle.std.proofs.Common.{◌≡◌, ℕ, Bool, List, ap, ◌∙◌}
use Rattle.ug_group_rules.specs.Machine.{System}
use Rattle.ug_groups.specs.Rows.{Rows}
use Rattle.ug_groups.specs.declared.member.Member.{Member}
use Rattle.ug_groups.specs.Members.{system}
use Rattle.std.specs.Prelude.{◌&&◌}
use Rattle.std.proofs.lemmas.Result.{IfOk-weaker}
use Rattle.ug_types.specs.Listed.{Listed}
use Rattle.ug_types.specs.declared.mark.Mark.{Mark}
use Rattle.ug_events.specs.Views.{event_of}
use Rattle.ug_world.specs.declared.peer_state.PeerState.{PeerState}
use Rattle.ug_world.specs.Touches.{is_about}
use Rattle.ug_speaker.specs.Speech.{is_request}
use Rattle.ug_group_rules.specs.Machine.{marks_at}
use Rattle.ug_groups.proofs.state.GroupState.mark_of_asker.Goals as goal

pub returns : goal.returns
returns c =
    let i = c.self.inside in
    let e = event_of c.args.event.now in
    IfOk-weaker _ _ _
    (λ (marks : Listed Mark) (k : (closed : Bool) (made : ℕ) (rows : Rows) → marks.items ≡ marks_at (λ (s : PeerState). is_request e && is_about e s) 0 i.world.peers (system i.world closed made rows c.deref.result.now)).
    k i.closed i.made i.subgroups
    ∙ ap (λ (l : List Member). marks_at (λ (s : PeerState). is_request e && is_about e s) 0 i.world.peers (system i.world i.closed i.made i.subgroups l)) c.deref.ensures.value
    ∙ ap (λ (s : System). marks_at (λ (s : PeerState). is_request e && is_about e s) 0 s.world.peers s) c.self.view_is)
    c.marks_of_asker.ensures
