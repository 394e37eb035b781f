use Rattle.ug_edge.proofs.wire.MemWireWire.begin.Goals as goal

pub returns-then-is_listed-clause-starved : goal.returns-then-is_listed-clause-starved
returns-then-is_listed-clause-starved c = rw (← c.self.view_is) (λ unlisted. cc)

pub returns-then-is_kept-clause-listed : goal.returns-then-is_kept-clause-listed
returns-then-is_kept-clause-listed c = rw (← c.self.view_is) (λ listed. cc)

pub returns-clause-listed : goal.returns-clause-listed
returns-clause-listed c = rw (← c.self.view_is) (λ listed. cc)
