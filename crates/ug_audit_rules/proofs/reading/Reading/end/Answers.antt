use Rattle.std.proofs.Common.{◌≡◌, ◌++◌, ◌∷◌, [], ℕ, List, sym, ap, subst, ◌∙◌}
use Rattle.ug_audit_rules.proofs.Between.{GoesOn, StopsAt, rest_none, rest_some, end_none, end_more, end_stop}
use Rattle.ug_audit_rules.proofs.reading.Reading.end.Goals as goal

pub returns-then-is_empty-clause-read : goal.returns-then-is_empty-clause-read
returns-then-is_empty-clause-read c = λ stream h. end_none c.args.last.now c.args.self.now stream (rest_none c.args.self.now.rest c.is_empty.result c.is_empty.ensures c.if-is_empty.true) h

pub returns-in-Ok-clause-read : goal.returns-in-Ok-clause-read
returns-in-Ok-clause-read c = λ stream h.
    end_more c.args.last.now c.args.self.now (record { told = c.take_line.new.self; rest = c.args.self.now.rest; most = c.args.self.now.most }) stream (rest_some c.args.self.now.rest c.is_empty.result c.is_empty.ensures c.if-is_empty.false)
    (subst (λ (line : List ℕ). GoesOn c.args.last.now line c.args.self.now.told c.take_line.new.self) c.deref.ensures.value c.in-Ok.ensures.told) h

pub returns-in-Err-clause-stopped : goal.returns-in-Err-clause-stopped
returns-in-Err-clause-stopped c = λ stream h.
    end_stop c.args.last.now c.args.self.now stream c.in-Err.stop (rest_some c.args.self.now.rest c.is_empty.result c.is_empty.ensures c.if-is_empty.false)
    (subst (λ (line : List ℕ). StopsAt c.args.last.now line c.args.self.now.told c.in-Err.stop) c.deref.ensures.value c.in-Err.ensures.stopped) h
