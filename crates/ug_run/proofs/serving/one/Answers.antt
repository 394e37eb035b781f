use Rattle.std.proofs.Common.{[], inl, inr, refl, ◌∙◌, arith}
use Rattle.ug_report.specs.Report.{names_in}
use Rattle.ug_config.specs.One.{one_world}
use Rattle.ug_report.specs.declared.status.Status.TheVariants as statuses
use Rattle.ug_run.proofs.Starting.{early-home, made-idle, unread-unpicked}
use Rattle.ug_run.proofs.serving.one.Goals as goal

pub returns-in_default-clause-promised : goal.returns-in_default-clause-promised
returns-in_default-clause-promised g c =
    inl (early-home g.E.Wire.Wire.sessions g.E.Wire.Wire.begun g.E.Wire.Wire.faults one_world c.args.words.now.events.now _ _ _ _ _ _ _ _ _ _ _ statuses.NoMemory c.end.result c.idle.result.status [] c.idle.result.wires.items
    c.idle.result.history.items c.idle.result.spent c.idle.ensures.status c.end.ensures.status (c.idle.ensures.wires ∙ c.new.ensures) c.idle.ensures.history c.idle.ensures.unspent
    (inr (inr refl)) (λ is. absurd cc) (unread-unpicked _ _ (g.E.Source.picks c.args.site.now) (g.E.Source.picks c.args.site.now) _ _ refl) (omega arith) tt c.end.ensures.report)

pub returns-in_default-up_p1-clause-promised : goal.returns-in_default-up_p1-clause-promised
returns-in_default-up_p1-clause-promised g c =
    inl (early-home g.E.Wire.Wire.sessions g.E.Wire.Wire.begun g.E.Wire.Wire.faults one_world c.args.words.now.events.now _ _ _ _ _ _ _ _ _ _ _ statuses.NoMemory c.end-in_default-up_p1.result c.idle-in_default-up_p1.result.status [] c.idle-in_default-up_p1.result.wires.items
    c.idle-in_default-up_p1.result.history.items c.idle-in_default-up_p1.result.spent c.idle-in_default-up_p1.ensures.status c.end-in_default-up_p1.ensures.status (c.idle-in_default-up_p1.ensures.wires ∙ c.new-in_default-up_p1.ensures)
    c.idle-in_default-up_p1.ensures.history c.idle-in_default-up_p1.ensures.unspent
    (inr (inr refl)) (λ is. absurd cc) (unread-unpicked _ _ (g.E.Source.picks c.args.site.now) (g.E.Source.picks c.args.site.now) _ _ refl) (omega arith) tt c.end-in_default-up_p1.ensures.report)

pub returns-in_default-up_p1-clause-made : goal.returns-in_default-up_p1-clause-made
returns-in_default-up_p1-clause-made g c = made-idle g.E.Wire.Wire.made_for c.idle-in_default-up_p1.result.wires.items _ _ (names_in one_world) (c.idle-in_default-up_p1.ensures.wires ∙ c.new-in_default-up_p1.ensures)

pub returns-in_default-clause-counted : goal.returns-in_default-clause-counted
returns-in_default-clause-counted g c = inl (c.idle.ensures.history, refl)

pub returns-in_default-up_p1-clause-counted : goal.returns-in_default-up_p1-clause-counted
returns-in_default-up_p1-clause-counted g c = inl (c.idle-in_default-up_p1.ensures.history, refl)
