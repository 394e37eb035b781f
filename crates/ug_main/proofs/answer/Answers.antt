use Rattle.std.proofs.Common.{◌≡◌, Option, Some, None, ap, subst, ◌∙◌}
use Rattle.ug_run.specs.Commands.{has_sessions, IsRunOf}
use Rattle.ug_edge.specs.Told.{Rose}
use Rattle.ug_group_rules.specs.Rules.{group_rules, group_speech}
use Rattle.ug_main.specs.Ran.{Ran, IsOneRun, HasDrawn}
use Rattle.ug_main.proofs.answer.Goals as goal

none-some : {A Q : Type 0} (x : A) (o : Option A) → o ≡ None → o ≡ Some x → Q
none-some x o none some = absurd cc

-- a command with sessions isn't answered alone

pub returns-in-Some-clause-one : goal.returns-in-Some-clause-one
returns-in-Some-clause-one g c command is = none-some c.in-Some.status c.answer_alone.result (c.answer_alone.ensures.alone.1 (ap has_sessions is)) c.in-Some.is

pub returns-in-Some-clause-run : goal.returns-in-Some-clause-run
returns-in-Some-clause-run g c command is = none-some c.in-Some.status c.answer_alone.result (c.answer_alone.ensures.alone.1 (ap has_sessions is)) c.in-Some.is

pub returns-in-Some-clause-drawn : goal.returns-in-Some-clause-drawn
returns-in-Some-clause-drawn g c command is = none-some c.in-Some.status c.answer_alone.result (c.answer_alone.ensures.alone.1 (ap has_sessions is)) c.in-Some.is

pub returns-clause-one : goal.returns-clause-one
returns-clause-one g c command is =
    let left = c.in_default.ensures.untouched in
    subst (λ site. Ran (record { files = g.E.Source.files site; picks = g.E.Source.picks site; made = g.E.Source.made site; held = g.K.Sink.held c.args.report.now; faults = g.K.Sink.faults c.args.report.now })
    (record { picks = g.E.Source.picks c.begin.new.site; left = g.E.Source.left c.begin.new.site; made = g.E.Source.made c.begin.new.site; held = g.K.Sink.held c.begin.new.report; faults = g.K.Sink.faults c.begin.new.report })
    c.begin.result (IsOneRun command))
    left.0
    (subst (λ report. Ran (record { files = g.E.Source.files c.answer_alone.new.site; picks = g.E.Source.picks c.answer_alone.new.site; made = g.E.Source.made c.answer_alone.new.site; held = g.K.Sink.held report; faults = g.K.Sink.faults report })
    (record { picks = g.E.Source.picks c.begin.new.site; left = g.E.Source.left c.begin.new.site; made = g.E.Source.made c.begin.new.site; held = g.K.Sink.held c.begin.new.report; faults = g.K.Sink.faults c.begin.new.report })
    c.begin.result (IsOneRun command))
    left.1 (c.begin.ensures.one command is))

pub returns-clause-run : goal.returns-clause-run
returns-clause-run g c command is =
    let left = c.in_default.ensures.untouched in
    subst (λ site. Ran (record { files = g.E.Source.files site; picks = g.E.Source.picks site; made = g.E.Source.made site; held = g.K.Sink.held c.args.report.now; faults = g.K.Sink.faults c.args.report.now })
    (record { picks = g.E.Source.picks c.begin.new.site; left = g.E.Source.left c.begin.new.site; made = g.E.Source.made c.begin.new.site; held = g.K.Sink.held c.begin.new.report; faults = g.K.Sink.faults c.begin.new.report })
    c.begin.result (IsRunOf group_rules group_speech command))
    left.0
    (subst (λ report. Ran (record { files = g.E.Source.files c.answer_alone.new.site; picks = g.E.Source.picks c.answer_alone.new.site; made = g.E.Source.made c.answer_alone.new.site; held = g.K.Sink.held report; faults = g.K.Sink.faults report })
    (record { picks = g.E.Source.picks c.begin.new.site; left = g.E.Source.left c.begin.new.site; made = g.E.Source.made c.begin.new.site; held = g.K.Sink.held c.begin.new.report; faults = g.K.Sink.faults c.begin.new.report })
    c.begin.result (IsRunOf group_rules group_speech command))
    left.1 (c.begin.ensures.run command is))

pub returns-clause-drawn : goal.returns-clause-drawn
returns-clause-drawn g c command is =
    subst (λ report. HasDrawn command.number c.begin.result (g.K.Sink.held report) (g.K.Sink.held c.begin.new.report) (Rose (g.K.Sink.faults report) (g.K.Sink.faults c.begin.new.report)))
    c.in_default.ensures.untouched.1 (c.begin.ensures.drawn command is)

pub returns-in-Some-clause-audit_right : goal.returns-in-Some-clause-audit_right
returns-in-Some-clause-audit_right g c command is told files ok = c.answer_alone.ensures.audit_right command is told files (c.in-Some.is ∙ ap Some ok)

pub returns-in-Some-clause-audit_refuted : goal.returns-in-Some-clause-audit_refuted
returns-in-Some-clause-audit_refuted g c command is told files peer session kind message key refuted =
    c.answer_alone.ensures.audit_refuted command is told files peer session kind message key (c.in-Some.is ∙ ap Some refuted)
