use Rattle.ug_sender.proofs.Turns.{next-told}
use Rattle.ug_sender.proofs.asking.next_on.Goals as goal

pub returns-clause-told : goal.returns-clause-told
returns-clause-told g c =
    let laws = g.met.M.Machine g.world.𝓛 g.world.𝓜 g.world.𝓡 ((λ s x. x), (λ x. x), (λ x. x), λ x. x) in
    next-told g.M.Machine.rules laws.lawful c.args.board.now.spent c.args.board.now.opening c.lane.new.self.opening
    c.args.board.now.history c.lane.new.self.history c.args.peer c.args.number c.lane.result c.lane.new.buf
    c.lane.ensures.opening c.lane.ensures.legal c.requires.own c.lane.ensures.said c.lane.ensures.history
    c.lane.ensures.handed c.lane.ensures.spent_said c.lane.ensures.spent_history
