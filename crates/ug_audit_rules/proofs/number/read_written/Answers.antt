use Rattle.std.proofs.Common.{sym, ◌∙◌}
use Rattle.ug_audit_rules.proofs.Digits.{no_number, read_is}
use Rattle.ug_audit_rules.proofs.number.read_written.Goals as goal

pub returns-then-not-begins_well : goal.returns-then-not-begins_well
returns-then-not-begins_well c = sym (no_number c.args.word.now (sym c.begins_well.ensures ∙ c.if-not-begins_well.true))

pub returns : goal.returns
returns c = read_is c.args.word.now c.value_of.result (sym c.begins_well.ensures ∙ c.if-not-begins_well.false) c.value_of.ensures.digits c.value_of.ensures.value c.value_of.ensures.fits c.value_of.ensures.none
