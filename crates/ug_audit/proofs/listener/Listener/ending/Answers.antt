use Rattle.std.proofs.Common.{arith}
use Rattle.ug_audit.proofs.Listening.{ends-malformed, ends-cut, ends-whole, nothing_left, something_left}
use Rattle.ug_audit.proofs.listener.Listener.ending.Goals as goal

pub returns-then-self : goal.returns-then-self
returns-then-self c = λ caps session stream h. ends-malformed caps c.args.self.now.faulty c.args.self.now.reader stream h.heard.messages c.if-self.true h.heard.read

pub returns-then-rest-gt0 : goal.returns-then-rest-gt0
returns-then-rest-gt0 c = λ caps session stream h.
    ends-cut caps c.args.self.now.faulty c.args.self.now.reader stream h.heard.messages c.if-self.false h.unfinished
    (something_left c.args.self.now.reader.left (let some = c.if-rest-gt0.true in let rest = c.rest.ensures.rest in omega (arith, some, rest))) h.heard.read

pub returns : goal.returns
returns c = λ caps session stream h.
    ends-whole caps c.args.self.now.faulty c.args.self.now.reader stream h.heard.messages c.if-self.false h.unfinished
    (nothing_left c.args.self.now.reader.left (let none = c.if-rest-gt0.false in let rest = c.rest.ensures.rest in omega (arith, none, rest))) h.heard.read
