use Rattle.std.proofs.Common.{rules, arith, length, ◌≡◌, [], ◌∷◌, ◌++◌, take, true, false, ◌∙◌, ap, subst}
use Rattle.std.specs.Prelude.{◌⊎◌}
use Rattle.ug_edge.specs.Told.{SendsPiece}
use Rattle.ug_sender.specs.Courses.{Whole, fate_of}
use Rattle.ug_sender.specs.Pieces.{SendsFront}
use Rattle.ug_sender.proofs.Wires.{change_last, begun_course, handed_course, other_course, begun-below, begun-well, begun-ill, sent-well, sent-ill, sent-other}
use Rattle.ug_sender.proofs.Pieces.{front-of}
use Rattle.ug_sender.specs.Lanes.{MissesLoss}
use Rattle.ug_sender.proofs.Missing.{begun-missed, sent-missed}
use Rattle.ug_sender.proofs.lane.Lane.pump.Goals as goal

pub begin_session-requires-clause-fewer : goal.begin_session-requires-clause-fewer
begin_session-requires-clause-fewer g c κs within =
    let lane = c.self.invariant.0 in
    begun-below lane.courses _ _ _ _ _ _ lane.kept c.in-Begun.session c.in-Begun.ensures.told.1

pub invariant_of-self : goal.invariant_of-self
invariant_of-self g c =
    let lane = c.self.invariant.0 in (
      record {
        free = c.ask_loss-is_noted.ensures.free;
        own = c.ask_loss-is_noted.ensures.own;
        courses = lane.courses ++ begun_course c.in-Begun.session (fate_of c.ask_loss-is_noted.result) ∷ [];
        kept = rw c.with_loss-self-inside.ensures
            (begun-ill lane.courses _ _ _ _ _ _ lane.kept c.ask_loss-is_noted.result c.in-Begun.session _ _ _ _ _
            c.in-Begun.ensures.told.0 c.ask_loss-is_noted.ensures.told c.begin_session.ensures.numbered
            c.begin_session.ensures.sessions c.begin_session.ensures.begun c.begin_session.ensures.faults c.in_default.ensures.failed);
      },
      c.self.invariant.1,
    )

pub invariant_of-self-in-Begun : goal.invariant_of-self-in-Begun
invariant_of-self-in-Begun g c =
    let lane = c.self.invariant.0 in (
      record {
        free = c.ask_next-said.ensures.free;
        own = c.ask_next-said.ensures.own;
        courses = lane.courses ++ begun_course c.in-Begun.session Whole ∷ [];
        kept = begun-well lane.courses _ _ _ _ _ _ lane.kept c.in-Begun.session _ _ _ _
            c.in-Begun.ensures.told.0 c.begin_session.ensures.numbered
            c.begin_session.ensures.sessions c.begin_session.ensures.begun c.in-Ok.ensures.unharmed;
      },
      c.self.invariant.1,
    )

pub invariant_of-self-then-not-is_open : goal.invariant_of-self-then-not-is_open
invariant_of-self-then-not-is_open g c =
    let lane = c.self.invariant.0 in
    let closed : c.is_open.result ≡ false = search rules in (
      record {
        free = c.ask_next-said.ensures.free;
        own = c.ask_next-said.ensures.own;
        courses = change_last (other_course c.in-Hand.session (take c.in-Hand.len c.ask_next-said.new.buf)) lane.courses;
        kept = sent-other lane.courses _ _ _ _ _ _ lane.kept c.in-Hand.session _ _ (c.is_open.ensures.no closed) c.in-Hand.ensures.told.0;
      },
      c.self.invariant.1,
    )

pub invariant_of-self-in-Ok-send_all : goal.invariant_of-self-in-Ok-send_all
invariant_of-self-in-Ok-send_all g c =
    let lane = c.self.invariant.0 in
    let bytes = take c.in-Hand.len c.ask_next-said.new.buf in
    let yes : c.is_open.result ≡ true = search rules in
    let whole : length c.ask_next-said.new.buf ≡ c.self.inside.buf.len = omega (arith, c.ask_next-said.auto.buf, c.as_mut_slice.ensures.len) in
    let text : c.split_at.result.0.now ≡ take c.in-Hand.len c.ask_next-said.new.buf = c.split_at.ensures.front ∙ (ap (take c.in-Hand.len) c.as_slice.ensures.value ∙ front-of c.in-Hand.len c.self.inside.buf.len c.ask_next-said.new.buf _ whole) in
    let sends = subst (λ m. SendsPiece (g.W.Wire.sessions c.self.inside.wire) (g.W.Wire.sessions c.send_all.new.wire) m) text c.in-Ok-send_all.ensures.ok in (
      record {
        free = c.ask_next-said.ensures.free;
        own = c.ask_next-said.ensures.own;
        courses = change_last (handed_course c.in-Hand.session bytes (λ _. Whole)) lane.courses;
        kept = sent-well lane.courses _ _ _ _ _ _ lane.kept c.in-Hand.session bytes _ _ _ _
            (c.is_open.ensures.yes yes) c.in-Hand.ensures.told.0 sends c.send_all.ensures.begun c.in-Ok-send_all.ensures.unharmed;
      },
      c.self.invariant.1,
    )

pub invariant_of-self-in_default-send_all : goal.invariant_of-self-in_default-send_all
invariant_of-self-in_default-send_all g c =
    let lane = c.self.invariant.0 in
    let bytes = take c.in-Hand.len c.ask_next-said.new.buf in
    let yes : c.is_open.result ≡ true = search rules in
    let whole : length c.ask_next-said.new.buf ≡ c.self.inside.buf.len = omega (arith, c.ask_next-said.auto.buf, c.as_mut_slice.ensures.len) in
    let text : c.split_at.result.0.now ≡ take c.in-Hand.len c.ask_next-said.new.buf = c.split_at.ensures.front ∙ (ap (take c.in-Hand.len) c.as_slice.ensures.value ∙ front-of c.in-Hand.len c.self.inside.buf.len c.ask_next-said.new.buf _ whole) in
    let sends = subst (λ m. SendsFront (g.W.Wire.sessions c.self.inside.wire) (g.W.Wire.sessions c.send_all.new.wire) m) text c.in_default-send_all.ensures.err in (
      record {
        free = c.ask_loss-is_noted-in_default-send_all.ensures.free;
        own = c.ask_loss-is_noted-in_default-send_all.ensures.own;
        courses = change_last (handed_course c.in-Hand.session bytes (λ _. fate_of c.ask_loss-is_noted-in_default-send_all.result)) lane.courses;
        kept = rw c.with_loss-self-inside-in_default-send_all.ensures
            (sent-ill lane.courses _ _ _ _ _ _ lane.kept c.ask_loss-is_noted-in_default-send_all.result c.in-Hand.session bytes _ _ _ _ _
            (c.is_open.ensures.yes yes) c.in-Hand.ensures.told.0 c.ask_loss-is_noted-in_default-send_all.ensures.told sends
            c.send_all.ensures.begun c.send_all.ensures.faults c.in_default-send_all.ensures.failed);
      },
      c.self.invariant.1,
    )

pub returns-in_default-clause-unnoted : goal.returns-in_default-clause-unnoted
returns-in_default-clause-unnoted g c has =
    subst (λ l. (l.unnoted ≡ true) ⊎ MissesLoss g.M.Machine.rules l.peer l.latest l.pass c.ask_loss-is_noted.new.pass) c.self.view_is
    (begun-missed g.M.Machine.rules c.in-Begun.session c.ask_loss-is_noted.result c.self.inside.unnoted _ c.self.inside.peer c.self.inside.latest
    c.self.inside.pass c.ask_next-said.new.pass c.ask_loss-is_noted.new.pass
    c.with_loss-self-inside.ensures c.ask_next-said.ensures.same c.ask_loss-is_noted.ensures.same c.ask_next-said.ensures.seen c.ask_loss-is_noted.ensures.seen
    c.in-Begun.ensures.told.0 c.ask_loss-is_noted.ensures.told c.ask_loss-is_noted.ensures.passed has)

pub returns-in_default-send_all-clause-unnoted : goal.returns-in_default-send_all-clause-unnoted
returns-in_default-send_all-clause-unnoted g c has =
    let yes : c.is_open.result ≡ true = search rules in
    subst (λ l. (l.unnoted ≡ true) ⊎ MissesLoss g.M.Machine.rules l.peer l.latest l.pass c.ask_loss-is_noted-in_default-send_all.new.pass) c.self.view_is
    (sent-missed g.M.Machine.rules c.in-Hand.session c.ask_loss-is_noted-in_default-send_all.result c.self.inside.unnoted _ c.self.inside.peer c.self.inside.latest
    c.self.inside.pass c.ask_next-said.new.pass c.ask_loss-is_noted-in_default-send_all.new.pass
    c.with_loss-self-inside-in_default-send_all.ensures c.ask_next-said.ensures.same c.ask_loss-is_noted-in_default-send_all.ensures.same
    c.ask_next-said.ensures.seen c.ask_loss-is_noted-in_default-send_all.ensures.seen
    (c.is_open.ensures.yes yes) c.ask_loss-is_noted-in_default-send_all.ensures.passed has)
