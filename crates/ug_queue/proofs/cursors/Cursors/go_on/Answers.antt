use Rattle.ug_queue.proofs.Searches.{gone_on, gone_on_sorted}
use Rattle.ug_queue.proofs.cursors.Cursors.go_on.Goals as goal

pub invariant_of-self : goal.invariant_of-self
invariant_of-self c = gone_on_sorted c.self.inside.entries.items _ c.args.index c.index_mut-entry.result.now c.self.invariant c.self.view_is c.index_mut-entry.ensures.value c.requires

pub returns-clause-entries : goal.returns-clause-entries
returns-clause-entries c = gone_on c.self.inside.entries.items _ c.args.index c.index_mut-entry.result.now c.self.invariant c.self.view_is c.index_mut-entry.ensures.value

pub returns-clause-ordered : goal.returns-clause-ordered
returns-clause-ordered c = gone_on_sorted c.self.inside.entries.items _ c.args.index c.index_mut-entry.result.now c.self.invariant c.self.view_is c.index_mut-entry.ensures.value c.requires
