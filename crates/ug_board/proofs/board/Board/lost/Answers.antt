use Rattle.std.proofs.Common.{rules, ◌≡◌, true, false, refl, sym, ◌∙◌}
use Rattle.ug_board.specs.declared.steps.BoardStep.TheVariants.{Lane as LaneTakes}
use Rattle.ug_board.specs.declared.steps.BoardSaid.TheVariants.{Lane as LaneGot}
use Rattle.ug_board.specs.declared.steps.LaneStep.TheVariants.{Lost}
use Rattle.ug_board.specs.declared.steps.LaneSaid.TheVariants.{Noted}
use Rattle.ug_board.specs.Rules.{counts}
use Rattle.ug_board.proofs.Histories.{IsLegal-grown, IsInStep-lane}
use Rattle.ug_board.proofs.board.Board.lost.Goals as goal

pub returns-then-may_lose_behind-clause-legal : goal.returns-then-may_lose_behind-clause-legal
returns-then-may_lose_behind-clause-legal g c =
    let unspent : c.self.inside.spent ≡ false = search rules in
    let in_step = c.self.invariant.1 unspent in
    let may : counts g.M.Machine.rules (Lost c.args.peer c.args.session) (g.M.Machine.state c.self.inside.machine.value) ≡ true =
    sym c.may_lose_behind.ensures ∙ c.if-may_lose_behind.true in
    IsLegal-grown g.M.Machine.rules _ _ _ _ (record { pass = c.args.pass; step = LaneTakes (Lost c.args.peer c.args.session); said = LaneGot Noted }) (g.M.Machine.state c.self.inside.machine.value)
    c.lane_behind-said.ensures.opening in_step.stands c.self.invariant.0
    (may, refl) c.add_lost.ensures.items

pub invariant_of-self : goal.invariant_of-self
invariant_of-self g c =
    let laws = g.met.M.Machine g.world.𝓛 g.world.𝓜 g.world.𝓡 ((λ s x. x), (λ x. x), (λ x. x), λ x. x) in
    let unspent : c.self.inside.spent ≡ false = search rules in
    let in_step = c.self.invariant.1 unspent in
    let may : counts g.M.Machine.rules (Lost c.args.peer c.args.session) (g.M.Machine.state c.self.inside.machine.value) ≡ true =
    sym c.may_lose_behind.ensures ∙ c.if-may_lose_behind.true in (
      returns-then-may_lose_behind-clause-legal g c,
      λ same. IsInStep-lane g.M.Machine.rules laws.lawful _ _ _ _ (record { pass = c.args.pass; step = LaneTakes (Lost c.args.peer c.args.session); said = LaneGot Noted }) _ _ _ _ _ _ (Lost c.args.peer c.args.session)
          c.lane_behind-said.ensures.opening in_step refl may c.lane_behind-said.ensures.state
          c.add_lost.ensures.items c.add_lost.ensures.spare c.lane_behind-said.ensures.jobs,
      λ spent. let same = unspent in absurd cc,
    )
