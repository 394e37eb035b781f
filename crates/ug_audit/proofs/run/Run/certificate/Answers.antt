use Rattle.std.proofs.Common.{rules, arith, ◌≡◌, ◌+◌, ◌<◌, ◌≤◌, List, [], length, drop, ap, subst, ◌∙◌}
use Rattle.ug_edge.specs.Told.{file_told, AppendsAll}
use Rattle.ug_audit.specs.Sessions.{SessionOf, sessions_of_peers}
use Rattle.ug_audit.specs.Stopping.{last_in, IsAt}
use Rattle.ug_audit.proofs.Placed.{first_peer, next_peer, no_peer, past_last, at_peer, at_then, stopped_then}
use Rattle.ug_audit.proofs.run.Run.certificate.Goals as goal

pub hear_peer-requires-clause-id : goal.hear_peer-requires-clause-id
hear_peer-requires-clause-id g c κs within = first_peer c.args.self.now c.loop-id.id (omega (arith, c.loop-id-test.true, c.peers-id-end.ensures))

pub returns-in-Err-clause-stopped : goal.returns-in-Err-clause-stopped
returns-in-Err-clause-stopped g c = λ command names same at.
    let run = c.args.self.now in
    let id = c.loop-id.id in
    let told = g.E.Source.files c.args.site.now in
    let told' = g.E.Source.files c.loop-id.site in
    let files : told' ≡ told = c.loop-id.invariant.files in
    let inside : id < length (last_in run).peers = first_peer run id (omega (arith, c.loop-id-test.true, c.peers-id-end.ensures)) in
    let next = next_peer (last_in run).peers id inside in
    let here = at_peer command told told' files run names (g.E.Source.picks c.loop-id.site).names id next.0 c.loop-id.text next.2 (c.loop-id.invariant.went command names same at) in
    stopped_then command told told' files (AppendsAll names (g.E.Source.picks c.hear_peer.new.site).names) c.in-Err.stop
    (c.in-Err.ensures.stopped command names next.0 (sessions_of_peers (id + 1) (drop (id + 1) (last_in run).peers)) same next.1 here)

pub loop-id-preserved : goal.loop-id-preserved
loop-id-preserved g c =
    let run = c.args.self.now in
    let id = c.loop-id.id in
    let told = g.E.Source.files c.args.site.now in
    let told' = g.E.Source.files c.loop-id.site in
    let files : told' ≡ told = c.loop-id.invariant.files in
    let inside : id < length (last_in run).peers = first_peer run id (omega (arith, c.loop-id-test.true, c.peers-id-end.ensures)) in
    let next = next_peer (last_in run).peers id inside in
    let left = sessions_of_peers (id + 1) (drop (id + 1) (last_in run).peers) in
    record {
      went = λ command names same at.
          let here = at_peer command told told' files run names (g.E.Source.picks c.loop-id.site).names id next.0 c.loop-id.text next.2 (c.loop-id.invariant.went command names same at) in
          at_then command told told' files run names (g.E.Source.picks c.hear_peer.new.site).names left c.hear_peer.new.text (c.in-Ok.ensures.went command names next.0 left same next.1 here);
      faults = search rules;
      files = c.hear_peer.ensures.files ∙ files;
      made = c.hear_peer.ensures.made ∙ c.loop-id.invariant.made;
      wire_faults = c.hear_peer.ensures.wire_faults ∙ c.loop-id.invariant.wire_faults;
    }

pub returns-clause-went : goal.returns-clause-went
returns-clause-went g c = λ command names same at.
    let run = c.args.self.now in
    let id = c.loop-id.id in
    let far : length (last_in run).peers ≤ id = past_last run id (omega (arith, c.loop-id-test.false, c.peers-id-end.ensures)) in
    subst (λ (left : List SessionOf). IsAt command (file_told (g.E.Source.files c.args.site.now)) run names (g.E.Source.picks c.loop-id.site).names left c.loop-id.text)
    (ap (sessions_of_peers id) (no_peer (last_in run).peers id far)) (c.loop-id.invariant.went command names same at)
