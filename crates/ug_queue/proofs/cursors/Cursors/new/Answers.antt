use Rattle.ug_queue.proofs.Searches.{none_sorted}
use Rattle.ug_queue.proofs.cursors.Cursors.new.Goals as goal

pub invariant_of-result : goal.invariant_of-result
invariant_of-result c = none_sorted c.new.result.items c.new.ensures.items
