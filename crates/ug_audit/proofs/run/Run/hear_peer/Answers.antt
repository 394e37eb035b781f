use Rattle.std.proofs.Common.{rules, arith, ◌≡◌, ◌+◌, ◌-◌, ◌++◌, ℕ, List, ap, subst, sym, refl, ◌∙◌, length}
use Rattle.ug_edge.specs.Told.{file_told, AppendsAll}
use Rattle.ug_audit_rules.specs.Timelines.{IsTimeline, HasSessions}
use Rattle.ug_audit_rules.specs.Histories.{AreTimelines}
use Rattle.ug_audit.specs.Sessions.{sessions_from}
use Rattle.ug_audit.specs.Auditing.{worlds_of, last_of}
use Rattle.ug_audit.specs.Stopping.{IsAt, last_in}
use Rattle.ug_audit.proofs.Placed.{peer_first, peer_last, next_peer, kept_of, sessions_of_kept, at_number, at_begin, at_then, at_end, stopped_then}
use Rattle.ug_audit.proofs.Steps.{starves_between}
use Rattle.ug_audit.proofs.run.Run.hear_peer.Goals as goal

pub timeline-requires-clause-id : goal.timeline-requires-clause-id
timeline-requires-clause-id g c = peer_first c.args.self.now c.args.id c.requires.id

pub peer-peer-requires : goal.peer-peer-requires
peer-peer-requires g c = peer_last c.args.self.now c.args.id c.requires.run c.requires.id

pub timeline-requires-clause-timelines : goal.timeline-requires-clause-timelines
timeline-requires-clause-timelines g c =
    subst (λ (events : List ℕ). AreTimelines (worlds_of c.args.self.now.first events) (last_of c.args.self.now.first events) c.args.self.now.timelines) (sym c.as_slice.ensures) c.requires.run.timelines

pub returns-then-peer-eq0-clause-went : goal.returns-then-peer-eq0-clause-went
returns-then-peer-eq0-clause-went g c = λ command names s left same there at.
    let count = sessions_of_kept s c.peer-peer.result.now (kept_of c.args.self.now c.args.id s c.peer-peer.result.now c.requires.run there c.peer-peer.ensures) in
    let none = c.if-peer-eq0.true in
    subst (λ (n : ℕ). IsAt command (file_told (g.E.Source.files c.args.site.now)) c.args.self.now names (g.E.Source.picks c.args.site.now).names (sessions_from c.args.id s 1 n ++ left) c.args.text.now) (count ∙ none) at

pub returns-in-Err-clause-stopped : goal.returns-in-Err-clause-stopped
returns-in-Err-clause-stopped g c = λ command names s left same there at.
    starves_between command (file_told (g.E.Source.files c.args.site.now)) c.args.self.now names (g.E.Source.picks c.args.site.now).names _ c.args.text.now at

pub loop-before-init : goal.loop-before-init
loop-before-init g c =
    let run = c.args.self.now in
    let timeline = subst (λ (events : List ℕ). IsTimeline c.args.id (worlds_of run.first events) c.in-Ok.timeline) c.as_slice.ensures c.in-Ok.ensures.timeline in
    let sessions = subst (λ (events : List ℕ). HasSessions c.args.id (last_of run.first events) c.in-Ok.timeline) c.as_slice.ensures c.in-Ok.ensures.sessions in
    record {
      asked = c.of-asked.ensures.asked c.args.id (worlds_of run.first run.events.items) timeline;
      begun = λ s there. ap (λ v. length v.items) c.of-asked.ensures.begun ∙ sessions s there;
      went = λ command names s left same there at. at_begin command (file_told (g.E.Source.files c.args.site.now)) run names (g.E.Source.picks c.args.site.now).names c.args.id s left c.args.text.now at;
      faults = refl;
      files = refl;
      made = refl;
      wire_faults = refl;
    }

pub hear_session-requires-clause-had : goal.hear_session-requires-clause-had
hear_session-requires-clause-had g c κs within =
    let run = c.args.self.now in
    let one = next_peer (last_in run).peers c.args.id c.requires.id in
    let count = sessions_of_kept one.0 c.peer-peer.result.now (kept_of run c.args.id one.0 c.peer-peer.result.now c.requires.run one.1 c.peer-peer.ensures) in
    let begun = c.loop-before.invariant.begun one.0 one.1 in
    let test = c.loop-before-test.true in
    omega (arith, begun, count, test)

pub returns-in-Err-hear_session-clause-stopped : goal.returns-in-Err-hear_session-clause-stopped
returns-in-Err-hear_session-clause-stopped g c = λ command names s left same there at.
    let run = c.args.self.now in
    let before = c.loop-before.before in
    let told = g.E.Source.files c.args.site.now in
    let told' = g.E.Source.files c.loop-before.site in
    let files : told' ≡ told = c.loop-before.invariant.files in
    let count = sessions_of_kept s c.peer-peer.result.now (kept_of run c.args.id s c.peer-peer.result.now c.requires.run there c.peer-peer.ensures) in
    let here = at_number command told told' files run names (g.E.Source.picks c.loop-before.site).names c.args.id s before c.peer-peer.result.now.sessions left c.loop-before.text count c.loop-before-test.true
    (c.loop-before.invariant.went command names s left same there at) in
    stopped_then command told told' files (AppendsAll names (g.E.Source.picks c.hear_session.new.site).names) c.in-Err-hear_session.stop
    (c.in-Err-hear_session.ensures.stopped command names s (sessions_from c.args.id s (before + 1 + 1) (s.sessions - (before + 1)) ++ left) same there c.loop-before.invariant.asked here)

pub loop-before-preserved : goal.loop-before-preserved
loop-before-preserved g c =
    let run = c.args.self.now in
    let before = c.loop-before.before in
    let told = g.E.Source.files c.args.site.now in
    let told' = g.E.Source.files c.loop-before.site in
    let files : told' ≡ told = c.loop-before.invariant.files in
    record {
      asked = c.in-Ok-hear_session.ensures.asked c.loop-before.invariant.asked;
      begun = λ s there. ap (λ v. length v.items) c.hear_session.ensures.begun ∙ c.loop-before.invariant.begun s there;
      went = λ command names s left same there at.
          let count = sessions_of_kept s c.peer-peer.result.now (kept_of run c.args.id s c.peer-peer.result.now c.requires.run there c.peer-peer.ensures) in
          let more = sessions_from c.args.id s (before + 1 + 1) (s.sessions - (before + 1)) ++ left in
          let here = at_number command told told' files run names (g.E.Source.picks c.loop-before.site).names c.args.id s before c.peer-peer.result.now.sessions left c.loop-before.text count c.loop-before-test.true
          (c.loop-before.invariant.went command names s left same there at) in
          at_then command told told' files run names (g.E.Source.picks c.hear_session.new.site).names more c.hear_session.new.text
          (c.in-Ok-hear_session.ensures.went command names s more same there c.loop-before.invariant.asked here);
      faults = search rules;
      files = c.hear_session.ensures.files ∙ files;
      made = c.hear_session.ensures.made ∙ c.loop-before.invariant.made;
      wire_faults = c.hear_session.ensures.wire_faults ∙ c.loop-before.invariant.wire_faults;
    }

pub returns-clause-went : goal.returns-clause-went
returns-clause-went g c = λ command names s left same there at.
    let run = c.args.self.now in
    let count = sessions_of_kept s c.peer-peer.result.now (kept_of run c.args.id s c.peer-peer.result.now c.requires.run there c.peer-peer.ensures) in
    at_end command (file_told (g.E.Source.files c.args.site.now)) run names (g.E.Source.picks c.loop-before.site).names c.args.id s c.loop-before.before c.peer-peer.result.now.sessions left c.loop-before.text count c.loop-before-test.false
    (c.loop-before.invariant.went command names s left same there at)
