use Rattle.ug_audit.proofs.Refuting.{found_none}
use Rattle.ug_audit.proofs.reader.verdict_of.Goals as goal

pub returns-in-Some : goal.returns-in-Some
returns-in-Some c = λ caps stream h.
    let s = c.in_ok-settle.ensures.heard caps stream h in
    record {
      messages = s.heard.messages;
      ending = c.ending.result;
      is = c.ending.ensures caps c.args.session.now stream s;
      agrees = λ past tables ses. c.in-Some.ensures past tables s.heard.messages ses (s.heard.judged past tables ses);
    }

pub returns-in-None : goal.returns-in-None
returns-in-None c = λ caps stream h.
    let s = c.in_ok-settle.ensures.heard caps stream h in
    record {
      messages = s.heard.messages;
      ending = c.ending.result;
      is = c.ending.ensures caps c.args.session.now stream s;
      agrees = λ past tables ses.
          let j = s.heard.judged past tables ses in
          let right = c.in-None.ensures past tables s.heard.messages ses j in
          (right, j, found_none c.args.session.now past tables c.settle.new.self.judge s.heard.messages c.ending.result j right);
    }
