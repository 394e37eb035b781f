use Rattle.std.proofs.Common.{◌≡◌, true, refl, sym, ◌∙◌, ap, subst, arith}
use Rattle.std.specs.Prelude.{◌⊎◌}
use Rattle.ug_sender.specs.declared.pumped.Pumped.TheVariants.{Idle as WasIdle, Stopped as WasStopped}
use Rattle.ug_sender.specs.Lanes.{MissesLoss, pass_deeds}
use Rattle.ug_sender.specs.Rounds.{TellsTurn}
use Rattle.ug_sender.proofs.Wires.{begun-counted}
use Rattle.ug_sender.proofs.Rounds.{round-kept, courses_of, kept_of}
use Rattle.ug_sender.proofs.Outcomes.{filled-none, below-as, sent-outcome, round-still, round-tells, round-done}
use Rattle.ug_sender.proofs.Missing.{round-missed}
use Rattle.ug_sender.proofs.lane.Lane.pump_round.Goals as goal

pub send_taken-sent-requires-clause-latest : goal.send_taken-sent-requires-clause-latest
send_taken-sent-requires-clause-latest g c κs within none =
    filled-none c.take_turn-taken.result c.take_turn-taken.new.buf _ _
    (subst (λ o. TellsTurn o c.take_turn-taken.result c.take_turn-taken.new.buf (pass_deeds g.M.Machine.rules c.self.inside.pass) (pass_deeds g.M.Machine.rules c.take_turn-taken.new.pass)) none c.take_turn-taken.ensures.told)

pub begin_taken-begun-requires-clause-further : goal.begin_taken-begun-requires-clause-further
begin_taken-begun-requires-clause-further g c κs within =
    let lane = c.self.invariant.0 in
    below-as c.take_turn-taken.result.ending _ _
    (c.send_taken-sent.ensures.begun ∙ begun-counted lane.courses _ _ _ _ _ _ lane.kept) c.take_turn-taken.ensures.told.further

pub invariant_of-self : goal.invariant_of-self
invariant_of-self g c =
    let lane = c.self.invariant.0 in
    let all = round-kept lane.courses c.take_turn-taken.result c.take_turn-taken.new.buf c.send_taken-sent.result c.begin_taken-begun.result c.self.inside.latest _ _ _ _ _ _ _ _ _ _ _ _ _ c.self.inside.unnoted
    lane.kept c.take_turn-taken.ensures.told c.send_taken-sent.ensures.sent c.send_taken-sent.ensures.begun c.send_taken-sent.ensures.faults c.send_taken-sent.ensures.told
    c.begin_taken-begun.ensures.begun c.begin_taken-begun.ensures.faults c.begin_taken-begun.ensures.told in (
      record {
        free = c.begin_taken-begun.ensures.free;
        own = c.begin_taken-begun.ensures.own;
        courses = courses_of _ _ _ _ _ _ all;
        kept = rw (c.open_after-self-inside.ensures, c.with_calls-self-inside.ensures) (kept_of _ _ _ _ _ _ all);
      },
      c.self.invariant.1,
    )

pub returns-clause-told : goal.returns-clause-told
returns-clause-told g c =
    round-tells _ _ _ _ _ _ _ c.take_turn-taken.result c.take_turn-taken.new.buf c.send_taken-sent.result c.begin_taken-begun.result c.self.inside.latest c.self.inside.unnoted _ _ _
    c.take_turn-taken.ensures.told c.send_taken-sent.ensures.told c.begin_taken-begun.ensures.told
    refl c.outcome.ensures (sym (ap (λ l. pass_deeds g.M.Machine.rules l.pass) c.self.view_is)) (sym (ap (λ l. l.latest) c.self.view_is)) (sym (ap (λ l. l.unnoted) c.self.view_is))
    c.open_after-self-inside.ensures c.with_calls-self-inside.ensures

pub returns-clause-still : goal.returns-clause-still
returns-clause-still g c none is =
    let ended = subst (λ e. (e ≡ WasIdle) ⊎ (e ≡ WasStopped)) c.outcome.ensures is in
    let same = round-still c.take_turn-taken.result c.take_turn-taken.new.buf c.send_taken-sent.result c.begin_taken-begun.result c.self.inside.latest _ _ _ _ _ _ _ _
    c.take_turn-taken.ensures.told c.send_taken-sent.ensures.sent c.send_taken-sent.ensures.begun c.begin_taken-begun.ensures.begun none ended in
    (same.0 ∙ ap (λ l. g.W.Wire.sessions l.wire) c.self.view_is, same.1 ∙ ap (λ l. g.W.Wire.begun l.wire) c.self.view_is)

pub returns-clause-sent : goal.returns-clause-sent
returns-clause-sent g c is =
    c.take_turn-taken.ensures.more (sent-outcome c.take_turn-taken.result.ending c.send_taken-sent.result c.begin_taken-begun.result (sym c.outcome.ensures ∙ is)) (omega (arith, c.self.invariant.1))

pub returns-clause-done : goal.returns-clause-done
returns-clause-done g c same =
    subst (λ e. (e ≡ WasIdle) ⊎ (e ≡ WasStopped)) (sym c.outcome.ensures)
    (round-done c.take_turn-taken.result c.take_turn-taken.new.buf c.send_taken-sent.result c.begin_taken-begun.result c.self.inside.latest _ _ _ _
    c.take_turn-taken.ensures.told c.send_taken-sent.ensures.told c.begin_taken-begun.ensures.told c.send_taken-sent.ensures.none
    (λ more. c.take_turn-taken.ensures.more more (omega (arith, c.self.invariant.1)))
    (same ∙ sym (ap (λ l. pass_deeds g.M.Machine.rules l.pass) c.self.view_is)))

pub returns-clause-unnoted : goal.returns-clause-unnoted
returns-clause-unnoted g c has =
    subst (λ l. (l.unnoted ≡ true) ⊎ MissesLoss g.M.Machine.rules l.peer l.latest l.pass c.begin_taken-begun.new.pass) c.self.view_is
    (round-missed g.M.Machine.rules c.take_turn-taken.result c.take_turn-taken.new.buf c.send_taken-sent.result c.begin_taken-begun.result c.self.inside.unnoted _ c.self.inside.peer c.self.inside.latest
    c.self.inside.pass c.take_turn-taken.new.pass c.send_taken-sent.new.pass c.begin_taken-begun.new.pass
    c.with_calls-self-inside.ensures c.take_turn-taken.ensures.same c.send_taken-sent.ensures.same c.begin_taken-begun.ensures.same
    c.take_turn-taken.ensures.seen c.send_taken-sent.ensures.seen c.begin_taken-begun.ensures.seen
    c.take_turn-taken.ensures.told c.send_taken-sent.ensures.told c.begin_taken-begun.ensures.told
    c.send_taken-sent.ensures.passed c.begin_taken-begun.ensures.passed has)
