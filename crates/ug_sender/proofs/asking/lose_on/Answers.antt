use Rattle.ug_sender.proofs.Turns.{loss-told, loss-passed}
use Rattle.ug_sender.proofs.asking.lose_on.Goals as goal

pub returns-clause-told : goal.returns-clause-told
returns-clause-told g c =
    loss-told g.M.Machine.rules c.args.board.now.spent c.may_lose_on-is_noted.result c.args.board.now.opening c.lane-said.new.self.opening
    c.args.board.now.history c.lane-said.new.self.history c.args.peer c.args.number c.args.session
    c.lane-said.ensures.opening c.may_lose_on-is_noted.ensures.spent c.may_lose_on-is_noted.ensures.may
    c.lane-said.ensures.history c.lane-said.ensures.spent_history

pub returns-clause-passed : goal.returns-clause-passed
returns-clause-passed g c =
    loss-passed g.M.Machine.rules c.args.board.now.spent c.may_lose_on-is_noted.result c.lane-said.new.self.spent c.args.board.now.opening c.lane-said.new.self.opening
    c.args.board.now.history c.lane-said.new.self.history c.args.peer c.args.number c.args.session
    c.lane-said.ensures.opening c.lane-said.ensures.spent c.may_lose_on-is_noted.ensures.may c.lane-said.ensures.history
