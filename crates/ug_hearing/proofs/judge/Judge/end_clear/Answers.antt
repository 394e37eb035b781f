use Rattle.std.proofs.Common.{sym, ◌∙◌, subst, arith}
use Rattle.ug_hearing.specs.declared.breach.Breach.{Breach}
use Rattle.ug_hearing.specs.Ended.{IsEnd, EndsShort, EndsOff, EndsUnread}
use Rattle.ug_hearing.proofs.judge.Judge.end_clear.Goals as goal

pub returns-then-is_short : goal.returns-then-is_short
returns-then-is_short c =
    subst (λ (b : Breach). IsEnd c.args.session.now c.args.self.now c.args.ending b) (sym c.breach.ensures) (EndsShort (sym c.is_short.ensures ∙ c.if-is_short.true))

pub returns-in-Some : goal.returns-in-Some
returns-in-Some c =
    subst (λ (b : Breach). IsEnd c.args.session.now c.args.self.now c.args.ending b) (sym c.breach-in-Some.ensures) (EndsOff c.in-Some.key (sym c.is_short.ensures ∙ c.if-is_short.false) c.in-Some.ensures)

pub returns : goal.returns
returns c =
    EndsUnread c.saturating_add.result (sym c.is_short.ensures ∙ c.if-is_short.false) c.in_default.ensures (sym c.is_unread.ensures ∙ c.if-not-is_unread.false)
    (λ few. let is = c.saturating_add.ensures in omega arith)
