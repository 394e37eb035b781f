use Rattle.ug_audit.proofs.listener.Listener.settle.Goals as goal

pub returns-then-not-more-clause-heard : goal.returns-then-not-more-clause-heard
returns-then-not-more-clause-heard c = λ caps stream h. c.in_ok-more.ensures.last c.if-not-more.true caps stream (c.loop-more.invariant.heard caps stream h)
