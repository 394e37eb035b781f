use Rattle.ug_adjout.proofs.Known.{nothing_stored}
use Rattle.ug_adjout.proofs.table.Table.new.Goals as goal

pub invariant_of-result : goal.invariant_of-result
invariant_of-result g c = rw (c.new.ensures.rows, c.new.ensures.waiting) nothing_stored
