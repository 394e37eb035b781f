use Rattle.std.proofs.Common.{◌≡◌, ◌-◌, suc, false, length, sym, arith}
use Rattle.ug_audit_rules.proofs.Holding.{last-index}
use Rattle.ug_audit_rules.proofs.seat.was_up.Goals as goal

pub returns : goal.returns
returns c = let some = c.if-count-eq0.false in let size : length c.args.ups.now ≡ suc (length c.args.ups.now - 1) = omega arith in sym (last-index false c.args.ups.now (length c.args.ups.now - 1) _ size)
