use Rattle.std.proofs.Common.{arith, subst}
use Rattle.ug_board.specs.Deeds.{deeds, to_peer, IsInTurn}
use Rattle.ug_board.proofs.Beginnings.{in_turn-all, begins-all, begins-at_most}
use Rattle.ug_board.proofs.Folding.{length-sessions_of}
use Rattle.ug_board.proofs.laws.laws_of_sessions.Goals as goal

pub returns-clause-in_turn : goal.returns-clause-in_turn
returns-clause-in_turn g c = λ told peer opening history legal.
    let laws = g.met.M.Machine g.world.𝓛 g.world.𝓜 g.world.𝓡 ((λ s x. x), (λ x. x), (λ x. x), λ x. x) in
    let rules = g.M.Machine.rules in
    subst (λ n. IsInTurn n (deeds rules told (to_peer peer) opening history)) (laws.lawful.none_begun opening peer)
    (in_turn-all rules told laws.lawful peer (rules.start opening) history legal)

pub returns-clause-begun : goal.returns-clause-begun
returns-clause-begun g c = λ told peer opening history legal.
    let laws = g.met.M.Machine g.world.𝓛 g.world.𝓜 g.world.𝓡 ((λ s x. x), (λ x. x), (λ x. x), λ x. x) in
    let rules = g.M.Machine.rules in
    let none = laws.lawful.none_begun opening peer in
    let all = begins-all rules told laws.lawful peer (rules.start opening) history legal in
    omega arith

pub returns-clause-at_most : goal.returns-clause-at_most
returns-clause-at_most g c = λ told peer chosen opening history legal to.
    let laws = g.met.M.Machine g.world.𝓛 g.world.𝓜 g.world.𝓡 ((λ s x. x), (λ x. x), (λ x. x), λ x. x) in
    let rules = g.M.Machine.rules in
    let none = laws.lawful.none_begun opening peer in
    let all = begins-at_most rules told laws.lawful peer chosen (rules.start opening) history legal to in
    omega arith

pub returns-clause-made : goal.returns-clause-made
returns-clause-made g c = λ told. length-sessions_of told
