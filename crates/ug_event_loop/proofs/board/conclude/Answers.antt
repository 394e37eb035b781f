use Rattle.ug_event_loop.proofs.Turning.{adds_further, winds_by_going, winds_behind}
use Rattle.ug_event_loop.proofs.board.conclude.Goals as goal

pub returns-in_err-close-clause-adds : goal.returns-in_err-close-clause-adds
returns-in_err-close-clause-adds g c =
    adds_further (λ entry. entry.pass) 0 c.args.board.now.history c.prepare.new.board.history c.close.new.board.history c.prepare.ensures.adds c.close.ensures.adds

pub returns-clause-adds : goal.returns-clause-adds
returns-clause-adds g c =
    adds_further (λ entry. entry.pass) 0 c.args.board.now.history c.prepare.new.board.history c.close.new.board.history c.prepare.ensures.adds c.close.ensures.adds

pub returns-in_err-prepare-clause-history : goal.returns-in_err-prepare-clause-history
returns-in_err-prepare-clause-history g c =
    winds_by_going g.S.Machine.rules g.S.Speaker.speech c.args.board.now.history c.prepare.new.board.history c.prepare.ensures.history

pub returns-then-not-is_drained-clause-history : goal.returns-then-not-is_drained-clause-history
returns-then-not-is_drained-clause-history g c =
    winds_by_going g.S.Machine.rules g.S.Speaker.speech c.args.board.now.history c.prepare.new.board.history c.prepare.ensures.history

pub returns-in_err-close-clause-history : goal.returns-in_err-close-clause-history
returns-in_err-close-clause-history g c =
    winds_behind g.S.Machine.rules g.S.Speaker.speech c.args.board.now.history c.prepare.new.board.history c.close.new.board.history c.prepare.ensures.history c.close.ensures.history

pub returns-clause-history : goal.returns-clause-history
returns-clause-history g c =
    winds_behind g.S.Machine.rules g.S.Speaker.speech c.args.board.now.history c.prepare.new.board.history c.close.new.board.history c.prepare.ensures.history c.close.ensures.history
