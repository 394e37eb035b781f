use Rattle.ug_audit.proofs.Listening.{piece-passed, piece-read}
use Rattle.ug_audit.proofs.listener.Listener.feed.Goals as goal

pub returns-then-self-clause-heard : goal.returns-then-self-clause-heard
returns-then-self-clause-heard c = λ caps stream h. record {
  messages = h.messages;
  read = piece-passed caps c.args.self.now.faulty c.args.self.now.reader stream c.args.piece.now h.messages c.if-self.true h.read;
  judged = h.judged;
}

pub returns-clause-heard : goal.returns-clause-heard
returns-clause-heard c = λ caps stream h. record {
  messages = h.messages;
  read = piece-read caps c.args.self.now.faulty c.args.self.now.reader c.feed.new.self stream c.args.piece.now h.messages c.if-self.false c.in_ok-feed.ensures.ok c.in_ok-feed.ensures.stream h.read;
  judged = h.judged;
}
