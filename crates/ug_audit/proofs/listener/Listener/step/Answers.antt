use Rattle.std.proofs.Common.{ℕ, List, ◌++◌, ◌∷◌, [], sym, ap, ◌∙◌, subst}
use Rattle.ug_types.specs.declared.message.Next.{Next}
use Rattle.ug_types.specs.Messages.{Message, message_of}
use Rattle.ug_update.specs.Readers.{answer_of, given_by, HasRead, IsRight}
use Rattle.ug_audit.proofs.Reading.{gave-less}
use Rattle.ug_audit.proofs.Listening.{message-read, awaits-read, still_live}
use Rattle.ug_audit.proofs.listener.Listener.step.Goals as goal

pub returns-in-NeedMore-clause-last : goal.returns-in-NeedMore-clause-last
returns-in-NeedMore-clause-last c = λ e caps stream h.
    let r = c.args.self.now.reader in
    let new = c.next.new.self in
    let is = c.in-NeedMore.is in
    let given = subst (λ (n : Next). (stream : List ℕ) → (given : List Message) → HasRead r stream given → HasRead new stream (given ++ given_by n)) is c.in_ok-next.ensures.given in
    let right = subst (λ (n : Next). (stream : List ℕ) → (given : List Message) → HasRead r stream given → IsRight new stream given n) is c.in_ok-next.ensures.right in
    let live = still_live caps c.args.self.now.faulty r new stream h.messages c.if-self.false (sym (ap answer_of is) ∙ c.in_ok-next.ensures.answer) c.in_ok-next.ensures.state h.read in
    let read = awaits-read caps c.args.self.now.faulty r new stream h.messages c.if-self.false c.in_ok-next.ensures.state given right live h.read in
    record { heard = record { messages = h.messages; read = read.0; judged = h.judged }; unfinished = λ clear. read.1 }

pub returns-in_ok-message-in-Message-clause-heard : goal.returns-in_ok-message-in-Message-clause-heard
returns-in_ok-message-in-Message-clause-heard c = λ caps stream h.
    let r = c.args.self.now.reader in
    let new = c.next.new.self in
    let m = message_of c.in-Message.item in
    let is = c.in-Message.is in
    let given = subst (λ (n : Next). (stream : List ℕ) → (given : List Message) → HasRead r stream given → HasRead new stream (given ++ given_by n)) is c.in_ok-next.ensures.given in
    record {
      messages = h.messages ++ m ∷ [];
      read = message-read caps c.args.self.now.faulty r new m stream h.messages c.if-self.false (sym (ap answer_of is) ∙ c.in_ok-next.ensures.answer) c.in_ok-next.ensures.state given h.read;
      judged = λ past tables session. c.in_ok-message-in-Message.ensures past tables h.messages session (h.judged past tables session);
    }

pub returns-in_ok-message-in-Message-clause-more : goal.returns-in_ok-message-in-Message-clause-more
returns-in_ok-message-in-Message-clause-more c = λ e. gave-less c.args.self.now.reader c.next.new.self (message_of c.in-Message.item) (sym (ap answer_of c.in-Message.is) ∙ c.in_ok-next.ensures.answer) c.in_ok-next.ensures.state
