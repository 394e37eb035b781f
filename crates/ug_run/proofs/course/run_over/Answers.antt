use Rattle.ug_report.specs.Statuses.{row_of}
use Rattle.std.proofs.Common.{◌≡◌, true, inl, inr, Err, map, ◌∙◌, ap, sym, subst, refl, arith}
use Rattle.ug_pieces.specs.ReadingLaws.{Rose-later}
use Rattle.ug_edge.specs.Told.{HasPicked, file_told}
use Rattle.ug_report.specs.declared.status.Status.TheVariants as statuses
use Rattle.ug_run.proofs.Starting.{unmade-early, unmade-unread, unbegun-early, unbegun-made, early-completed, early-reported, early-home, unread-unpicked, unread-closed, unread-open, err_same, ok_no_err}
use Rattle.ug_commands.proofs.Ends.{unbegun_cause}
use Rattle.ug_events.specs.Views.{event_of}
use Rattle.ug_speaker.specs.Owes.{AreEvents}
use Rattle.ug_event_loop.specs.Reading.{Outside, first_of, HasEnded}
use Rattle.ug_event_loop.specs.declared.reading.End.TheVariants as ends
use Rattle.ug_run.proofs.Wired.{made_home}
use Rattle.ug_run.proofs.Homing.{first-sound, finished-made, finished-whole, home-for, home-read, home-unharmed, home-report, home-whole, came-home, counted-home}
use Rattle.ug_run.proofs.course.run_over.Goals as goal

pub returns-in-Err-clause-promised : goal.returns-in-Err-clause-promised
returns-in-Err-clause-promised g c =
    inl (early-home g.E.Wire.Wire.sessions g.E.Wire.Wire.begun g.E.Wire.Wire.faults c.args.plan.world c.args.events.now _ _ _ _ _ _ _ _ _ _ _ c.in-Err.status c.end.result c.idle.result.status c.prepare.new.wires.items c.idle.result.wires.items
    c.idle.result.history.items c.idle.result.spent c.idle.ensures.status c.end.ensures.status c.idle.ensures.wires c.idle.ensures.history c.idle.ensures.unspent
    (unmade-early c.in-Err.status c.in-Err.ensures.status) (λ is. unmade-unread c.in-Err.status _ c.in-Err.ensures.status is) (unread-unpicked c.args.events.now (file_told (g.E.Source.files c.args.site.now) c.args.events.now) (g.E.Source.picks c.args.site.now) (g.E.Source.picks c.prepare.new.site) _ _ c.prepare.ensures.picks)
    c.prepare.ensures.most c.prepare.ensures.fresh c.end.ensures.report)

pub returns-in-Err-clause-read : goal.returns-in-Err-clause-read
returns-in-Err-clause-read g c = λ is. unmade-unread c.in-Err.status _ c.in-Err.ensures.status (sym (c.idle.ensures.status ∙ c.end.ensures.status) ∙ is)

pub returns-in-Err-clause-report : goal.returns-in-Err-clause-report
returns-in-Err-clause-report g c = λ is. early-reported c.in-Err.status _ (unmade-early c.in-Err.status c.in-Err.ensures.status) (sym (c.idle.ensures.status ∙ c.end.ensures.status) ∙ is)

pub returns-in-Err-clause-site : goal.returns-in-Err-clause-site
returns-in-Err-clause-site g c = λ is. c.in-Err.ensures.failed (ap Err (sym (c.idle.ensures.status ∙ c.end.ensures.status) ∙ is))

pub returns-in-Err-clause-ended : goal.returns-in-Err-clause-ended
returns-in-Err-clause-ended g c = λ is. early-completed c.in-Err.status _ (unmade-early c.in-Err.status c.in-Err.ensures.status) (subst (λ s. (row_of s).completed ≡ true) (c.idle.ensures.status ∙ c.end.ensures.status) is)

pub returns-in-Err-pick-clause-promised : goal.returns-in-Err-pick-clause-promised
returns-in-Err-pick-clause-promised g c =
    inl (early-home g.E.Wire.Wire.sessions g.E.Wire.Wire.begun g.E.Wire.Wire.faults c.args.plan.world c.args.events.now _ _ _ _ _ _ _ _ _ _ _ c.in-Err-pick.status c.end-in-Err-pick.result c.idle-in-Err-pick.result.status c.prepare.new.wires.items c.idle-in-Err-pick.result.wires.items
    c.idle-in-Err-pick.result.history.items c.idle-in-Err-pick.result.spent c.idle-in-Err-pick.ensures.status c.end-in-Err-pick.ensures.status c.idle-in-Err-pick.ensures.wires c.idle-in-Err-pick.ensures.history c.idle-in-Err-pick.ensures.unspent
    (unbegun-early c.in-Err-pick.status c.in-Err-pick.ensures.status) (λ _. (c.in-Err-pick.ensures.is_closed, c.in-Ok.ensures.all))
    (unread-closed c.args.events.now (file_told (g.E.Source.files c.args.site.now) c.args.events.now) (g.E.Source.picks c.args.site.now) (g.E.Source.picks c.prepare.new.site) (g.E.Source.picks c.pick.new.site) _ _ c.prepare.ensures.picks c.in-Err-pick.ensures.is_closed c.pick.ensures.once)
    c.prepare.ensures.most c.prepare.ensures.fresh c.end-in-Err-pick.ensures.report)

pub returns-in-Err-pick-clause-read : goal.returns-in-Err-pick-clause-read
returns-in-Err-pick-clause-read g c = λ is. rw (sym c.prepare.ensures.faults) (c.in-Err-pick.ensures.failed (ap Err (sym (c.idle-in-Err-pick.ensures.status ∙ c.end-in-Err-pick.ensures.status) ∙ is)))

pub returns-in-Err-pick-clause-report : goal.returns-in-Err-pick-clause-report
returns-in-Err-pick-clause-report g c = λ is. early-reported c.in-Err-pick.status _ (unbegun-early c.in-Err-pick.status c.in-Err-pick.ensures.status) (sym (c.idle-in-Err-pick.ensures.status ∙ c.end-in-Err-pick.ensures.status) ∙ is)

pub returns-in-Err-pick-clause-site : goal.returns-in-Err-pick-clause-site
returns-in-Err-pick-clause-site g c = λ is. unbegun-made c.in-Err-pick.status _ c.in-Err-pick.ensures.status (sym (c.idle-in-Err-pick.ensures.status ∙ c.end-in-Err-pick.ensures.status) ∙ is)

pub returns-in-Err-pick-clause-ended : goal.returns-in-Err-pick-clause-ended
returns-in-Err-pick-clause-ended g c = λ is. early-completed c.in-Err-pick.status _ (unbegun-early c.in-Err-pick.status c.in-Err-pick.ensures.status) (subst (λ s. (row_of s).completed ≡ true) (c.idle-in-Err-pick.ensures.status ∙ c.end-in-Err-pick.ensures.status) is)

pub returns-in-Err-begin-clause-promised : goal.returns-in-Err-begin-clause-promised
returns-in-Err-begin-clause-promised g c =
    inl (early-home g.E.Wire.Wire.sessions g.E.Wire.Wire.begun g.E.Wire.Wire.faults c.args.plan.world c.args.events.now _ _ _ _ _ _ _ _ _ _ _ statuses.NoMemory c.end-in-Err-begin.result c.idle-in-Err-begin.result.status c.prepare.new.wires.items c.idle-in-Err-begin.result.wires.items
    c.idle-in-Err-begin.result.history.items c.idle-in-Err-begin.result.spent c.idle-in-Err-begin.ensures.status c.end-in-Err-begin.ensures.status (c.idle-in-Err-begin.ensures.wires ∙ c.in-Err-begin.ensures.returned) c.idle-in-Err-begin.ensures.history c.idle-in-Err-begin.ensures.unspent
    (inr (inr refl)) (λ is. absurd cc)
    (unread-open c.args.events.now (g.E.Source.files c.args.site.now) (g.E.Source.files c.prepare.new.site) (g.E.Source.picks c.args.site.now) (g.E.Source.picks c.prepare.new.site) (g.E.Source.picks c.pick.new.site) _
    c.prepare.ensures.files c.prepare.ensures.picks c.in-Ok-pick.ensures.is_open c.in-Ok-pick.ensures.named c.in-Ok-pick.ensures.picked)
    c.prepare.ensures.most c.prepare.ensures.fresh c.end-in-Err-begin.ensures.report)

pub returns-in-Err-clause-made : goal.returns-in-Err-clause-made
returns-in-Err-clause-made g c = made_home g.E.Wire.Wire.made_for c.prepare.new.wires.items c.idle.result.wires.items _ _ _ c.args.dir.now _ c.prepare.ensures.made c.prepare.ensures.made_for refl (ap (map g.E.Wire.Wire.made_for) c.idle.ensures.wires)

pub returns-in-Err-pick-clause-made : goal.returns-in-Err-pick-clause-made
returns-in-Err-pick-clause-made g c =
    made_home g.E.Wire.Wire.made_for c.prepare.new.wires.items c.idle-in-Err-pick.result.wires.items _ _ _ c.args.dir.now _ c.prepare.ensures.made c.prepare.ensures.made_for c.pick.ensures.made (ap (map g.E.Wire.Wire.made_for) c.idle-in-Err-pick.ensures.wires)

pub returns-in-Err-begin-clause-made : goal.returns-in-Err-begin-clause-made
returns-in-Err-begin-clause-made g c =
    made_home g.E.Wire.Wire.made_for c.prepare.new.wires.items c.idle-in-Err-begin.result.wires.items _ _ _ c.args.dir.now _ c.prepare.ensures.made c.prepare.ensures.made_for c.pick.ensures.made (ap (map g.E.Wire.Wire.made_for) (c.idle-in-Err-begin.ensures.wires ∙ c.in-Err-begin.ensures.returned))

pub returns-in-Err-clause-counted : goal.returns-in-Err-clause-counted
returns-in-Err-clause-counted g c = inl (c.idle.ensures.history, refl)

pub returns-in-Err-pick-clause-counted : goal.returns-in-Err-pick-clause-counted
returns-in-Err-pick-clause-counted g c = inl (c.idle-in-Err-pick.ensures.history, refl)

pub returns-in-Err-begin-clause-counted : goal.returns-in-Err-begin-clause-counted
returns-in-Err-begin-clause-counted g c = inl (c.idle-in-Err-begin.ensures.history, refl)

pub returns-in-Err-pick-clause-unharmed : goal.returns-in-Err-pick-clause-unharmed
returns-in-Err-pick-clause-unharmed g c = λ not_read.
    unbegun_cause c.in-Err-pick.status _ c.in-Err-pick.ensures.status (λ is. not_read (c.idle-in-Err-pick.ensures.status ∙ (c.end-in-Err-pick.ensures.status ∙ is)))
    (λ is. c.in-Err-pick.ensures.starved (ap Err is) ∙ c.prepare.ensures.faults)

pub returns-in-Err-clause-all_wired : goal.returns-in-Err-clause-all_wired
returns-in-Err-clause-all_wired g c = λ not_site. c.in-Err.ensures.unharmed (λ e. not_site (c.idle.ensures.status ∙ (c.end.ensures.status ∙ err_same c.in-Err.status statuses.SiteFault _ _ refl refl e)))

pub returns-in-Err-pick-clause-all_wired : goal.returns-in-Err-pick-clause-all_wired
returns-in-Err-pick-clause-all_wired g c = λ not_site. c.pick.ensures.wire_faults ∙ c.in-Ok.ensures.unharmed (λ e. ok_no_err _ statuses.SiteFault e)

pub returns-in-Err-begin-clause-all_wired : goal.returns-in-Err-begin-clause-all_wired
returns-in-Err-begin-clause-all_wired g c = λ not_site. c.pick.ensures.wire_faults ∙ c.in-Ok.ensures.unharmed (λ e. ok_no_err _ statuses.SiteFault e)

-- ---- the run

pub read-ending-requires-clause-form : goal.read-ending-requires-clause-form
read-ending-requires-clause-form g c κs within = subst (λ es. AreEvents (map event_of es)) (sym c.in-Ok-begin.ensures.ahead) c.requires.form

pub returns-clause-promised : goal.returns-clause-promised
returns-clause-promised g c =
    let machine = g.met.S.Machine g.world.𝓛 g.world.𝓜 g.world.𝓡 ((λ s x. x), (λ x. x), (λ x. x), λ x. x) in
    let speaker = g.met.S.Speaker g.world.𝓛 g.world.𝓜 g.world.𝓡 ((λ s x. x), (λ x. x), (λ x. x), λ x. x) in
    let o : Outside = record { left = g.E.Source.left c.pick.new.site; reads_failed = g.E.Source.faults c.pick.new.site; held = g.K.Sink.held c.args.report.now; writes_failed = g.K.Sink.faults c.args.report.now; steps = c.args.steps.now } in
    let o' : Outside = record { left = g.E.Source.left c.read-ending.new.site; reads_failed = g.E.Source.faults c.read-ending.new.site; held = g.K.Sink.held c.read-ending.new.report; writes_failed = g.K.Sink.faults c.read-ending.new.report; steps = c.read-ending.new.steps } in
    let ended = subst (λ es. HasEnded g.S.Machine.rules g.S.Speaker.speech (first_of es) c.in-Ok-begin.run'.builder c.read-ending.new.self.builder o o' c.read-ending.result) c.in-Ok-begin.ensures.ahead c.read-ending.ensures.ended in
    inr (
      rw (c.read-ending.ensures.picks, sym c.prepare.ensures.picks) c.in-Ok-pick.ensures.named,
      came-home g.S.Machine.rules g.S.Speaker.speech g.E.Wire.Wire.made_for c.args.plan.world c.args.plan.grammar c.prepare.new.wires.items c.in-Ok-begin.run' c.read-ending.new.self c.in-Ok-begin.ensures.begun (first_of c.args.plan.first.items) o o' c.read-ending.result ended
          machine.lawful speaker.speaks g.E.Wire.Wire.sessions g.E.Wire.Wire.begun g.E.Wire.Wire.faults c.read-ending.ensures.posts c.close.result.history.items c.close.ensures.history
          c.requires.opening (first-sound c.args.plan.first.items c.requires.form) c.close.ensures.kept c.args.events.now
          (record { files = g.E.Source.files c.args.site.now; picks = g.E.Source.picks c.args.site.now; made = g.E.Source.made c.args.site.now; held = g.K.Sink.held c.args.report.now; faults = g.K.Sink.faults c.args.report.now })
          (record { picks = g.E.Source.picks c.read-ending.new.site; left = g.E.Source.left c.read-ending.new.site; made = g.E.Source.made c.read-ending.new.site; held = g.K.Sink.held c.close.new.report; faults = g.K.Sink.faults c.close.new.report })
          (subst (λ fs. HasPicked fs c.args.events.now (g.E.Source.left c.pick.new.site)) c.prepare.ensures.files c.in-Ok-pick.ensures.picked) refl (ap (λ p. p.is_open) c.read-ending.ensures.picks ∙ c.in-Ok-pick.ensures.is_open) refl
          (map g.E.Wire.Wire.made_for c.close.result.wires.items) _ (λ rose. Rose-later _ _ _ ended.writes c.close.ensures.faults rose) c.close.result.status c.close.ensures.finished
          c.close.result.wires.items c.close.ensures.wires c.close.result.spent c.close.ensures.spent c.close.ensures.open,
    )

pub returns-clause-made : goal.returns-clause-made
returns-clause-made g c =
    made_home g.E.Wire.Wire.made_for c.prepare.new.wires.items c.close.result.wires.items _ _ _ c.args.dir.now _ c.prepare.ensures.made c.prepare.ensures.made_for (c.read-ending.ensures.made ∙ c.pick.ensures.made)
    (c.close.ensures.made_for
    ∙ home-for g.S.Machine.rules g.S.Speaker.speech g.E.Wire.Wire.made_for c.args.plan.world c.args.plan.grammar c.prepare.new.wires.items c.in-Ok-begin.run' c.read-ending.new.self c.in-Ok-begin.ensures.begun _ _ _ _ c.read-ending.ensures.ended c.read-ending.ensures.posts)

pub returns-clause-read : goal.returns-clause-read
returns-clause-read g c = λ is.
    let same = c.prepare.ensures.faults in
    let risen = c.pick.ensures.faults in
    Rose-later _ _ _ (omega arith) c.read-ending.ensures.ended.reads
    (home-read g.S.Machine.rules g.S.Speaker.speech g.E.Wire.Wire.made_for c.args.plan.world c.args.plan.grammar c.prepare.new.wires.items c.in-Ok-begin.run' c.read-ending.new.self c.in-Ok-begin.ensures.begun _ _ _ _ c.read-ending.ensures.ended
    _ _ _ _ _ _ _ _ c.close.result.status c.close.ensures.finished is)

pub returns-clause-unharmed : goal.returns-clause-unharmed
returns-clause-unharmed g c = λ not_read.
    home-unharmed g.S.Machine.rules g.S.Speaker.speech g.E.Wire.Wire.made_for c.args.plan.world c.args.plan.grammar c.prepare.new.wires.items c.in-Ok-begin.run' c.read-ending.new.self c.in-Ok-begin.ensures.begun _ _ _ _ c.read-ending.ensures.ended
    _ _ _ _ _ _ _ _ c.close.result.status c.close.ensures.finished not_read
    ∙ (c.in-Ok-pick.ensures.unharmed ∙ c.prepare.ensures.faults)

pub returns-clause-report : goal.returns-clause-report
returns-clause-report g c = λ is.
    home-report g.S.Machine.rules g.S.Speaker.speech g.E.Wire.Wire.made_for c.args.plan.world c.args.plan.grammar c.prepare.new.wires.items c.in-Ok-begin.run' c.read-ending.new.self c.in-Ok-begin.ensures.begun _ _ _ _ c.read-ending.ensures.ended
    _ _ _ _ _ _ _ _ c.close.result.status c.close.ensures.finished (g.K.Sink.faults c.close.new.report) c.close.ensures.faults (λ rose. rose) is

pub returns-clause-site : goal.returns-clause-site
returns-clause-site g c = λ is. absurd (finished-made _ _ _ _ _ _ _ c.read-ending.result _ c.close.result.status c.close.ensures.finished is)

pub returns-clause-all_wired : goal.returns-clause-all_wired
returns-clause-all_wired g c = λ not_site. c.read-ending.ensures.wire_faults ∙ (c.pick.ensures.wire_faults ∙ c.in-Ok.ensures.unharmed (λ e. ok_no_err _ statuses.SiteFault e))

pub returns-clause-ended : goal.returns-clause-ended
returns-clause-ended g c = λ done.
    home-whole g.S.Machine.rules g.S.Speaker.speech g.E.Wire.Wire.made_for c.args.plan.world c.args.plan.grammar c.prepare.new.wires.items c.in-Ok-begin.run' c.read-ending.new.self c.in-Ok-begin.ensures.begun _ _ _ _ c.read-ending.ensures.ended
    _ _ _ _ _ _ _ _ c.close.result.status c.close.ensures.finished done

pub returns-clause-faults : goal.returns-clause-faults
returns-clause-faults g c =
    let same = c.prepare.ensures.faults in
    let risen = c.pick.ensures.faults in
    let more = c.read-ending.ensures.ended.reads in
    omega arith

pub returns-clause-counted : goal.returns-clause-counted
returns-clause-counted g c =
    counted-home g.S.Machine.rules g.S.Speaker.speech g.E.Wire.Wire.made_for c.args.plan.world c.args.plan.grammar c.prepare.new.wires.items c.in-Ok-begin.run' c.read-ending.new.self c.in-Ok-begin.ensures.begun _ _ _ _ c.read-ending.ensures.ended
    c.close.result.history.items c.close.ensures.history (row_of c.close.result.status).completed
    (λ done. finished-whole _ _ _ _ _ _ _ (c.read-ending.result ≡ ends.Complete) c.read-ending.result _ c.close.result.status c.close.ensures.finished (λ is. is) done)
