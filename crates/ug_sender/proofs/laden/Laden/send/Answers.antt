use Rattle.std.proofs.Common.{◌≡◌, sym, ◌∙◌, ap, subst}
use Rattle.std.specs.Prelude.{◌⊎◌}
use Rattle.ug_edge.specs.Told.{Rose}
use Rattle.ug_sender.specs.declared.turn.Taken.{Taken}
use Rattle.ug_sender.specs.Lanes.{pass_deeds}
use Rattle.ug_sender.specs.Loads.{TellsSend}
use Rattle.ug_sender.specs.Rounds.{TellsTurn}
use Rattle.ug_sender.proofs.Loads.{both-losses}
use Rattle.ug_sender.proofs.Wires.{begun-counted}
use Rattle.ug_sender.proofs.Rounds.{round-kept, courses_of, kept_of}
use Rattle.ug_sender.proofs.Outcomes.{filled-none, below-as, unnoted-rose}
use Rattle.ug_sender.proofs.Missing.{load-missed}
use Rattle.ug_sender.proofs.laden.Laden.send.Goals as goal

pub send_taken-sent-requires-clause-latest : goal.send_taken-sent-requires-clause-latest
send_taken-sent-requires-clause-latest g c κs within none =
    let lane = c.self.invariant.0 in
    let taken : Taken = record { packets = lane.count; filled = c.self.inside.filled; ending = c.self.inside.ending } in
    filled-none taken c.self.inside.buf.items _ _
    (subst (λ o. TellsTurn o taken c.self.inside.buf.items lane.before (pass_deeds g.M.Machine.rules c.self.inside.pass)) none lane.load)

pub begin_taken-begun-requires-clause-further : goal.begin_taken-begun-requires-clause-further
begin_taken-begun-requires-clause-further g c κs within =
    let lane = c.self.invariant.0 in
    below-as c.self.inside.ending _ _
    (c.send_taken-sent.ensures.begun ∙ begun-counted lane.courses _ _ _ _ _ _ lane.kept) lane.load.further

pub invariant_of-result : goal.invariant_of-result
invariant_of-result g c =
    let lane = c.self.invariant.0 in
    let taken : Taken = record { packets = lane.count; filled = c.self.inside.filled; ending = c.self.inside.ending } in
    let load = subst (λ b. TellsTurn c.self.inside.latest taken b lane.before (pass_deeds g.M.Machine.rules c.self.inside.pass)) (sym c.as_mut_slice-bytes.ensures.value) lane.load in
    let all = round-kept lane.courses taken _ c.send_taken-sent.result c.begin_taken-begun.result c.self.inside.latest _ _ _ _ _ _ _ _ _ _ _ _ _ c.self.inside.unnoted
    lane.kept load c.send_taken-sent.ensures.sent c.send_taken-sent.ensures.begun c.send_taken-sent.ensures.faults c.send_taken-sent.ensures.told
    c.begin_taken-begun.ensures.begun c.begin_taken-begun.ensures.faults c.begin_taken-begun.ensures.told in (
      record {
        free = c.begin_taken-begun.ensures.free;
        own = c.begin_taken-begun.ensures.own;
        courses = courses_of _ _ _ _ _ _ all;
        kept = rw (c.open_after.ensures, c.with_calls.ensures) (kept_of _ _ _ _ _ _ all);
      },
      c.self.invariant.1,
    )

pub returns-clause-told : goal.returns-clause-told
returns-clause-told g c =
    subst (λ d. TellsSend d (pass_deeds g.M.Machine.rules c.begin_taken-begun.new.pass)) (ap (λ l. pass_deeds g.M.Machine.rules l.lane.pass) c.self.view_is)
    (both-losses c.send_taken-sent.result c.begin_taken-begun.result _ _ _ _ _ c.send_taken-sent.ensures.told c.begin_taken-begun.ensures.told)

pub returns-clause-unnoted : goal.returns-clause-unnoted
returns-clause-unnoted g c has =
    load-missed g.M.Machine.rules _ _ c.send_taken-sent.result c.begin_taken-begun.result _ c.send_taken-sent.new.pass c.begin_taken-begun.new.pass
    c.self.view_is c.with_calls.ensures c.send_taken-sent.ensures.same c.begin_taken-begun.ensures.same
    c.send_taken-sent.ensures.seen c.begin_taken-begun.ensures.seen
    c.send_taken-sent.ensures.passed c.begin_taken-begun.ensures.passed has

pub returns-clause-harmed : goal.returns-clause-harmed
returns-clause-harmed g c =
    subst (λ l. (c.with_calls.result ≡ l.lane.unnoted) ⊎ Rose (g.W.Wire.faults l.lane.wire) (g.W.Wire.faults c.begin_taken-begun.new.wire)) c.self.view_is
    (unnoted-rose c.send_taken-sent.result c.begin_taken-begun.result c.self.inside.unnoted _ _ _ _ c.with_calls.ensures c.send_taken-sent.ensures.faults c.begin_taken-begun.ensures.faults)
