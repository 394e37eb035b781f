use Rattle.ug_audit_rules.proofs.Digits.{tens_over, sum_over}
use Rattle.ug_audit_rules.proofs.number.value_of.Goals as goal

pub returns-in_default-clause-none : goal.returns-in_default-clause-none
returns-in_default-clause-none c = λ all. tens_over c.args.word.now c.loop-digit.digit-index c.loop-digit.value c.loop-digit-test.true c.loop-digit.invariant.spells c.in_default.ensures

pub returns-in_default-checked_add-clause-none : goal.returns-in_default-checked_add-clause-none
returns-in_default-checked_add-clause-none c = λ all.
    sum_over c.args.word.now c.loop-digit.digit-index c.loop-digit.value c.in-Some.tens c.loop-digit-test.true c.loop-digit.invariant.spells c.if-digit-lt48.false c.if-digit-gt57.false c.in-Some.ensures.1
    c.in_default-checked_add.ensures
