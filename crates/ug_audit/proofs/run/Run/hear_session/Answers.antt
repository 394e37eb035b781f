use Rattle.std.proofs.Common.{subst, sym}
use Rattle.ug_edge.specs.Told.{file_told}
use Rattle.ug_hearing.specs.declared.session.Session.{Session}
use Rattle.ug_audit.specs.Asked.{IsAsked}
use Rattle.ug_audit.specs.Auditing.{worlds_of}
use Rattle.ug_audit.specs.Stopping.{last_in}
use Rattle.ug_audit.proofs.Placed.{version_few, peer_last, kept_of, aims_by, file_stops, starves_picked, broken_stops, right_goes_on}
use Rattle.ug_audit.proofs.Steps.{starves_between}
use Rattle.ug_audit.proofs.run.Run.hear_session.Goals as goal

pub peer-peer-requires : goal.peer-peer-requires
peer-peer-requires g c = peer_last c.args.self.now c.args.id c.requires.run c.requires.id

pub aim-requires-clause-version : goal.aim-requires-clause-version
aim-requires-clause-version g c = version_few c.args.self.now c.requires.run

pub returns-in-Err-clause-stopped : goal.returns-in-Err-clause-stopped
returns-in-Err-clause-stopped g c = λ command names s left same there asked at.
    starves_between command (file_told (g.E.Source.files c.args.site.now)) c.args.self.now names (g.E.Source.picks c.args.site.now).names _ c.args.text.now at

pub returns-in-Err-hear_file-clause-stopped : goal.returns-in-Err-hear_file-clause-stopped
returns-in-Err-hear_file-clause-stopped g c = λ command names s left same there asked at.
    file_stops command (file_told (g.E.Source.files c.args.site.now)) c.args.self.now names (g.E.Source.picks c.args.site.now).names (g.E.Source.picks c.hear_file.new.site).names c.args.id c.args.number s left c.args.text.now c.args.dir.now
    c.peer-peer.result.now same (kept_of c.args.self.now c.args.id s c.peer-peer.result.now c.requires.run there c.peer-peer.ensures) at c.in-Err-hear_file.stop c.in-Err-hear_file.ensures.stopped

pub returns-in-Broken-clause-stopped : goal.returns-in-Broken-clause-stopped
returns-in-Broken-clause-stopped g c = λ command names s left same there asked at.
    broken_stops command (file_told (g.E.Source.files c.args.site.now)) c.args.self.now names (g.E.Source.picks c.args.site.now).names (g.E.Source.picks c.hear_file.new.site).names c.args.id c.args.number s left c.args.text.now c.args.dir.now
    c.peer-peer.result.now same (kept_of c.args.self.now c.args.id s c.peer-peer.result.now c.requires.run there c.peer-peer.ensures) at c.requires.run c.requires.some c.args.asked.now c.aim.new.self.session c.deref.result.now c.deref.ensures.value asked (aims_by c.args.id c.args.number (last_in c.args.self.now) c.args.self.now.last s c.peer-peer.result.now c.is_up_with-is_open.result c.deref.result.now c.args.asked.now c.aim.new.self.session c.requires.run.last
    (kept_of c.args.self.now c.args.id s c.peer-peer.result.now c.requires.run there c.peer-peer.ensures) c.is_up_with-is_open.ensures c.in-Ok.ensures.aimed) c.in-Ok-hear_file.verdict
    c.in-Ok-hear_file.ensures.heard c.in-Ok-hear_file.ensures.named c.text-name.result.now c.text-name.ensures.value c.in-Broken.breach c.refuted.result c.in-Broken.is c.refuted.ensures

pub returns-in-Ok-add_session-clause-asked : goal.returns-in-Ok-add_session-clause-asked
returns-in-Ok-add_session-clause-asked g c = λ asked.
    subst (λ (x : Session). IsAsked c.args.id (worlds_of c.args.self.now.first c.args.self.now.events.items) (record { session = x; begun = c.aim.new.self.begun; ended = c.aim.new.self.ended })) (sym c.hear_file.ensures.same)
    (c.in-Ok.ensures.asked (worlds_of c.args.self.now.first c.args.self.now.events.items) asked)

pub returns-in-Ok-add_session-clause-went : goal.returns-in-Ok-add_session-clause-went
returns-in-Ok-add_session-clause-went g c = λ command names s left same there asked at.
    right_goes_on command (file_told (g.E.Source.files c.args.site.now)) c.args.self.now names (g.E.Source.picks c.args.site.now).names (g.E.Source.picks c.hear_file.new.site).names c.args.id c.args.number s left c.args.text.now c.args.dir.now
    c.peer-peer.result.now same (kept_of c.args.self.now c.args.id s c.peer-peer.result.now c.requires.run there c.peer-peer.ensures) at c.requires.run c.requires.some c.args.asked.now c.aim.new.self.session c.deref.result.now c.deref.ensures.value asked (aims_by c.args.id c.args.number (last_in c.args.self.now) c.args.self.now.last s c.peer-peer.result.now c.is_up_with-is_open.result c.deref.result.now c.args.asked.now c.aim.new.self.session c.requires.run.last
    (kept_of c.args.self.now c.args.id s c.peer-peer.result.now c.requires.run there c.peer-peer.ensures) c.is_up_with-is_open.ensures c.in-Ok.ensures.aimed) c.in-Ok-hear_file.verdict
    c.in-Ok-hear_file.ensures.heard c.in-Ok-hear_file.ensures.named c.text-name.result.now c.text-name.ensures.value c.in-Right.judge c.add_session.new.out c.in-Right.is c.in-Ok-add_session.ensures

pub returns-clause-stopped : goal.returns-clause-stopped
returns-clause-stopped g c = λ command names s left same there asked at.
    starves_picked command (file_told (g.E.Source.files c.args.site.now)) c.args.self.now names (g.E.Source.picks c.args.site.now).names (g.E.Source.picks c.hear_file.new.site).names c.args.id c.args.number s left c.args.text.now c.args.dir.now
    c.peer-peer.result.now same (kept_of c.args.self.now c.args.id s c.peer-peer.result.now c.requires.run there c.peer-peer.ensures) at c.in-Ok-hear_file.ensures.named
