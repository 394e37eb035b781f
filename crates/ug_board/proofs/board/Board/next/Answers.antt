use Rattle.std.proofs.Common.{refl, sym, ◌∙◌, ap}
use Rattle.ug_board.specs.declared.steps.BoardStep.TheVariants.{Lane as LaneTakes}
use Rattle.ug_board.specs.declared.steps.BoardSaid.TheVariants.{Lane as LaneGot}
use Rattle.ug_board.specs.declared.steps.LaneStep.TheVariants.{Next}
use Rattle.ug_board.specs.declared.steps.LaneSaid.TheVariants.{Begun}
use Rattle.ug_board.specs.Kept.{hand_entry}
use Rattle.ug_board.specs.Rules.{says_more}
use Rattle.ug_board.proofs.Histories.{IsLegal-grown, IsInStep-lane}
use Rattle.ug_board.proofs.board.Board.next.Goals as goal

pub returns-in-Begun-clause-legal : goal.returns-in-Begun-clause-legal
returns-in-Begun-clause-legal g c =
    let in_step = c.self.invariant.1 c.if-self.false in
    let said = sym c.in-Begun.is ∙ c.lane_behind-said.ensures.said in
    IsLegal-grown g.M.Machine.rules _ _ _ _ (record { pass = c.args.pass; step = LaneTakes (Next c.args.peer); said = LaneGot (Begun c.in-Begun.session) }) (g.M.Machine.state c.self.inside.machine.value)
    c.lane_behind-said.ensures.opening in_step.stands c.self.invariant.0
    (ap says_more (sym said), said) c.add_begun.ensures.items

pub invariant_of-self : goal.invariant_of-self
invariant_of-self g c =
    let laws = g.met.M.Machine g.world.𝓛 g.world.𝓜 g.world.𝓡 ((λ s x. x), (λ x. x), (λ x. x), λ x. x) in
    let in_step = c.self.invariant.1 c.if-self.false in
    let said = sym c.in-Begun.is ∙ c.lane_behind-said.ensures.said in (
      returns-in-Begun-clause-legal g c,
      λ same. IsInStep-lane g.M.Machine.rules laws.lawful _ _ _ _ (record { pass = c.args.pass; step = LaneTakes (Next c.args.peer); said = LaneGot (Begun c.in-Begun.session) }) _ _ _ _ _ _ (Next c.args.peer)
          c.lane_behind-said.ensures.opening in_step refl (ap says_more (sym said)) c.lane_behind-said.ensures.state
          c.add_begun.ensures.items c.add_begun.ensures.spare c.lane_behind-said.ensures.jobs,
      λ spent. let unspent = c.if-self.false in absurd cc,
    )

pub returns-in-Hand-clause-legal : goal.returns-in-Hand-clause-legal
returns-in-Hand-clause-legal g c =
    let in_step = c.self.invariant.1 c.if-self.false in
    let said = sym c.in-Hand.is ∙ c.lane_behind-said.ensures.said in
    IsLegal-grown g.M.Machine.rules _ _ _ _ (hand_entry c.args.pass c.args.peer c.in-Hand.session c.in-Hand.made c.in-Hand.len) (g.M.Machine.state c.self.inside.machine.value)
    c.lane_behind-said.ensures.opening in_step.stands c.self.invariant.0
    (ap says_more (sym said), said) c.add_hand.ensures.items

pub invariant_of-self-in-Hand : goal.invariant_of-self-in-Hand
invariant_of-self-in-Hand g c =
    let laws = g.met.M.Machine g.world.𝓛 g.world.𝓜 g.world.𝓡 ((λ s x. x), (λ x. x), (λ x. x), λ x. x) in
    let in_step = c.self.invariant.1 c.if-self.false in
    let said = sym c.in-Hand.is ∙ c.lane_behind-said.ensures.said in (
      returns-in-Hand-clause-legal g c,
      λ same. IsInStep-lane g.M.Machine.rules laws.lawful _ _ _ _ (hand_entry c.args.pass c.args.peer c.in-Hand.session c.in-Hand.made c.in-Hand.len) _ _ _ _ _ _ (Next c.args.peer)
          c.lane_behind-said.ensures.opening in_step refl (ap says_more (sym said)) c.lane_behind-said.ensures.state
          c.add_hand.ensures.items c.add_hand.ensures.spare c.lane_behind-said.ensures.jobs,
      λ spent. let unspent = c.if-self.false in absurd cc,
    )
