use Rattle.std.proofs.Common.{◌≡◌, Some, sym, ◌∙◌, ap}
use Rattle.ug_sender.specs.Rounds.{TellsTurn}
use Rattle.ug_sender.proofs.Turns.{own-before, deeds-before, deeds-same, told-over}
use Rattle.ug_sender.proofs.turn.take_turn.Goals as goal

pub turn_on-taken-requires-clause-own : goal.turn_on-taken-requires-clause-own
turn_on-taken-requires-clause-own g c κs within =
    let agrees = c.take-turn.ensures.agrees in
    rw (c.number-number.ensures, c.state.ensures.value)
    (own-before g.M.Machine.rules c.args.peer c.args.pass.now.number c.args.pass.now.seen c.take-turn.result.history agrees.1 agrees.2 c.requires.own)

pub returns-clause-told : goal.returns-clause-told
returns-clause-told g c =
    let rules = g.M.Machine.rules in
    let agrees = c.take-turn.ensures.agrees in
    let taken = c.take-turn.ensures.same in
    let given = c.give.ensures.same in
    let lent = c.state.ensures.value in
    let opening : c.take-turn.result.opening ≡ c.turn_on-taken.new.board.opening =
    sym (c.turn_on-taken.ensures.opening ∙ ap (λ b. b.opening) lent) in
    let root = given.2 ∙ (taken.2 ∙ (agrees.0 ∙ ap Some opening)) in
    let number = given.1 ∙ (taken.1 ∙ sym c.number-number.ensures) in
    told-over (λ a b. TellsTurn c.args.latest c.turn_on-taken.result c.turn_on-taken.new.buf a b) _ _ _ _
    (deeds-before rules c.args.pass.now.root c.take-turn.result.opening c.args.pass.now.number c.args.pass.now.seen c.take-turn.result.history agrees.0 agrees.1 agrees.2
    ∙ deeds-same rules _ _ _ _ _ _ (ap Some (sym (ap (λ b. b.opening) lent))) (sym c.number-number.ensures) (sym (ap (λ b. b.history) lent)))
    (deeds-same rules _ _ _ _ _ _ root number c.give.ensures.seen)
    c.turn_on-taken.ensures.told
