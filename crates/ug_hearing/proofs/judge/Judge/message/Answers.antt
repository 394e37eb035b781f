use Rattle.std.proofs.Common.{◌≡◌, ◌+◌, ℕ, suc, List, [], ◌∷◌, ◌++◌, length, Some, sym, ◌∙◌, subst, arith}
use Rattle.ug_types.specs.declared.key.Key.{Key}
use Rattle.ug_types.specs.Messages.{message_of}
use Rattle.ug_hearing.specs.declared.judge.Judge.{Judge}
use Rattle.ug_hearing.specs.Least.{IsLeastOf}
use Rattle.ug_hearing.specs.Judged.{IsJudged}
use Rattle.ug_hearing.proofs.Messages.{none-there, clear-of, stuck-so, goes-so}
use Rattle.ug_hearing.proofs.judge.Judge.message.Goals as goal

numbered : (a b : ℕ) → a ≡ b → a + 1 ≡ suc b
numbered a b same = omega (arith, same)

pub returns-in-Some : goal.returns-in-Some
returns-in-Some c = λ past tables ms is judged.
    let s = c.args.session.now in
    let none = none-there c.args.self.now.found (sym c.is_some.ensures ∙ c.if-is_some.false) in
    let m = message_of c.args.item.now in
    let clear = clear-of s past tables is c.args.self.now ms judged none in
    let taken = c.in_ok-failed.ensures.taken past tables ms is.course (numbered c.args.self.now.messages (length ms) judged.count) clear.heard in
    let room = c.if-self.false in
    subst (λ (j : Judge). IsJudged s past tables j (ms ++ m ∷ [])) (sym c.find.ensures)
    (stuck-so s past tables is c.args.self.now ms m judged none (omega arith) c.take.new.self c.in_ok-failed.failed.items taken c.in-Some.key
    (subst (λ (ks : List Key). IsLeastOf ks (Some c.in-Some.key)) c.deref.ensures.value c.in-Some.ensures))

pub returns : goal.returns
returns c = λ past tables ms is judged.
    let s = c.args.session.now in
    let none = none-there c.args.self.now.found (sym c.is_some.ensures ∙ c.if-is_some.false) in
    let m = message_of c.args.item.now in
    let clear = clear-of s past tables is c.args.self.now ms judged none in
    let taken = c.in_ok-failed.ensures.taken past tables ms is.course (numbered c.args.self.now.messages (length ms) judged.count) clear.heard in
    let room = c.if-self.false in
    let watched = c.in_ok-hear.ensures s.course.changes s.course.from c.args.self.now.hearing.standings.rows c.take.new.self.standings.rows c.in_ok-failed.ensures.others clear.watched in
    goes-so s past tables is c.args.self.now ms m judged none (omega arith) c.take.new.self c.in_ok-failed.failed.items taken c.hear.new.self c.check.new.self (sym c.deref.ensures.value ∙ c.in_default.ensures)
    c.in_ok-check.ensures.marks (c.in_ok-check.ensures.worst watched) (c.in_ok-check.ensures.watched watched)
