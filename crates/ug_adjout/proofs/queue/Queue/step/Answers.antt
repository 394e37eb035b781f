use Rattle.ug_adjout.proofs.queue.Queue.step.Goals as goal

pub step-requires-clause-lined : goal.step-requires-clause-lined
step-requires-clause-lined g c = c.self.invariant

pub step-requires-clause-ready : goal.step-requires-clause-ready
step-requires-clause-ready g c = rw (← c.self.view_is) at c.requires.ready

pub step-requires-clause-kept : goal.step-requires-clause-kept
step-requires-clause-kept g c = rw (← c.self.view_is) at c.requires.kept

pub invariant_of-self : goal.invariant_of-self
invariant_of-self g c = rw (c.in_err-was.ensures.err_rows, c.in_err-was.ensures.err_line) c.self.invariant

pub invariant_of-self-2 : goal.invariant_of-self-2
invariant_of-self-2 g c = c.in_ok-was.ensures.lined
