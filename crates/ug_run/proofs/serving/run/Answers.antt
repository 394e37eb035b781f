use Rattle.std.proofs.Common.{◌≡◌, ℕ, [], true, inl, inr, refl, map, sym, subst, ◌∙◌, ap}
use Rattle.ug_edge.specs.Told.{Rose, file_told}
use Rattle.ug_pieces.specs.ReadingLaws.{Rose-later}
use Rattle.ug_commands.specs.Files.{AppendsThenStatus}
use Rattle.ug_report.specs.Statuses.{row_of, status_text}
use Rattle.ug_commands.specs.declared.stop.Stop.TheVariants as stops
use Rattle.ug_run.specs.Commands.{IsUnconfigured}
use Rattle.ug_run.proofs.Starting.{unset-completed, err_same, ok_no_err}
use Rattle.ug_run.proofs.serving.run.Goals as goal

pub returns-clause-promised : goal.returns-clause-promised
returns-clause-promised g c = inr (record {
  there = c.in-Ok.ensures.there;
  world = c.in-Ok.world;
  configured = c.in-Ok.ensures.world;
  then_picks = g.E.Source.picks c.configure.new.site;
  picked = c.in-Ok.ensures.named;
  made_all = rw (sym c.configure.ensures.made) c.run_over.ensures.made;
  promised = let none = rw c.new-2.ensures.items at c.run_over.ensures.promised in rw (sym c.configure.ensures.files, sym c.configure.ensures.made) none;
})

pub returns-in-Err-clause-promised : goal.returns-in-Err-clause-promised
returns-in-Err-clause-promised g c =
    let file = file_told (g.E.Source.files c.args.site.now) c.args.words.now.config.now in
    let same = sym c.idle.ensures.status in
    inl (record {
      cause = subst (λ s. IsUnconfigured file s) same (c.end_unset-status.ensures.cause file c.in-Err.ensures.stopped);
      picked = elim c.configure.ensures.picked [
        | inl named ↦ inl named
        | inr none ↦ inr (c.idle.ensures.status ∙ c.end_unset-status.ensures.starved (err_same c.in-Err.stop stops.NoMemory _ _ refl refl (sym c.in-Err.is ∙ none.0)), none.1)
      ];
      no_wires = ap (map _) (c.idle.ensures.wires ∙ c.new.ensures);
      unmade = c.configure.ensures.made;
      none = c.idle.ensures.history;
      unspent = c.idle.ensures.unspent;
      report = subst (λ s. AppendsThenStatus (g.K.Sink.held c.args.report.now) (g.K.Sink.held c.end_unset-status.new.report) (Rose (g.K.Sink.faults c.args.report.now) (g.K.Sink.faults c.end_unset-status.new.report)) [] (status_text s)) same c.end_unset-status.ensures.report;
    })

pub returns-in-Err-clause-report : goal.returns-in-Err-clause-report
returns-in-Err-clause-report g c = λ is.
    let file = file_told (g.E.Source.files c.args.site.now) c.args.words.now.config.now in
    absurd (subst (λ s. IsUnconfigured file s) (sym c.idle.ensures.status ∙ is) (c.end_unset-status.ensures.cause file c.in-Err.ensures.stopped))

pub returns-in-Err-clause-site : goal.returns-in-Err-clause-site
returns-in-Err-clause-site g c = λ is.
    let file = file_told (g.E.Source.files c.args.site.now) c.args.words.now.config.now in
    absurd (subst (λ s. IsUnconfigured file s) (sym c.idle.ensures.status ∙ is) (c.end_unset-status.ensures.cause file c.in-Err.ensures.stopped))

pub returns-in-Err-clause-ended : goal.returns-in-Err-clause-ended
returns-in-Err-clause-ended g c = λ is.
    let file = file_told (g.E.Source.files c.args.site.now) c.args.words.now.config.now in
    unset-completed file c.end_unset-status.result _ (c.end_unset-status.ensures.cause file c.in-Err.ensures.stopped) (subst (λ s. (row_of s).completed ≡ true) c.idle.ensures.status is)

pub returns-in-Err-clause-usage : goal.returns-in-Err-clause-usage
returns-in-Err-clause-usage g c = λ is.
    let file = file_told (g.E.Source.files c.args.site.now) c.args.words.now.config.now in
    absurd (subst (λ s. IsUnconfigured file s) (sym c.idle.ensures.status ∙ is) (c.end_unset-status.ensures.cause file c.in-Err.ensures.stopped))

pub returns-clause-read : goal.returns-clause-read
returns-clause-read g c = λ is. Rose-later _ _ _ c.configure.ensures.faults c.run_over.ensures.faults (c.run_over.ensures.read is)

pub returns-in-Err-clause-counted : goal.returns-in-Err-clause-counted
returns-in-Err-clause-counted g c = inl (c.idle.ensures.history, refl)

pub returns-clause-counted : goal.returns-clause-counted
returns-clause-counted g c =
    elim c.run_over.ensures.counted [
      | inl none ↦ inl none
      | inr counted ↦ inr (c.in-Ok.world, c.in-Ok.ensures.world, counted)
    ]

pub returns-in-Err-clause-unharmed : goal.returns-in-Err-clause-unharmed
returns-in-Err-clause-unharmed g c = λ not_read.
    c.in-Err.ensures.unharmed (λ e. not_read (c.idle.ensures.status ∙ c.end_unset-status.ensures.unread (err_same c.in-Err.stop stops.Read _ _ refl refl e)))

pub returns-clause-unharmed : goal.returns-clause-unharmed
returns-clause-unharmed g c = λ not_read. c.run_over.ensures.unharmed not_read ∙ c.in-Ok.ensures.unharmed (λ e. ok_no_err _ stops.Read e)

pub returns-clause-all_wired : goal.returns-clause-all_wired
returns-clause-all_wired g c = λ not_site. c.run_over.ensures.all_wired not_site ∙ c.configure.ensures.wire_faults

pub returns-clause-site : goal.returns-clause-site
returns-clause-site g c = λ is. subst (λ (n : ℕ). Rose n (g.E.Source.wire_faults c.run_over.new.site)) c.configure.ensures.wire_faults (c.run_over.ensures.site is)
