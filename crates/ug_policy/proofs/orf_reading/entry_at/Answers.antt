use Rattle.std.proofs.Common.{refl, arith}
use Rattle.ug_policy.proofs.OrfWalks.{entry_is}
use Rattle.ug_policy.proofs.orf_reading.entry_at.Goals as goal

pub returns-clause-read : goal.returns-clause-read
returns-clause-read c =
    rw (entry_is c.args.bytes.now _ _ c.entry_field.result refl refl c.entry_field.ensures c.if-action-eq3.false c.if-action-eq2.false (omega (arith, c.if-bytes-lt8.false)) (omega (arith, c.if-bytes-gt32.false)) (omega (arith, c.if-bytes-size.false)))
    c.added_or_removed.ensures.read

pub returns-clause-refused : goal.returns-clause-refused
returns-clause-refused c =
    rw (entry_is c.args.bytes.now _ _ c.entry_field.result refl refl c.entry_field.ensures c.if-action-eq3.false c.if-action-eq2.false (omega (arith, c.if-bytes-lt8.false)) (omega (arith, c.if-bytes-gt32.false)) (omega (arith, c.if-bytes-size.false)))
    c.added_or_removed.ensures.refused
