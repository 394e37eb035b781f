use Rattle.std.proofs.Common.{sym, ◌∙◌}
use Rattle.ug_adjout.specs.Seats.{seat_at}
use Rattle.ug_adjout.proofs.Seated.{seat_found, row_missing, only_handle}
use Rattle.ug_adjout.proofs.rows.Rows.handle.Goals as goal

pub returns-in-Some-clause-key : goal.returns-in-Some-clause-key
returns-in-Some-clause-key g c = rw (← c.self.view_is) (seat_found g.met.K.Ord.total g.met.K.OutKey.exact c.self.inside.index.entries (seat_at c.self.inside.seats.slots) c.self.invariant.seats c.args.key.now _ (sym c.in-Some.ensures.value))

pub returns-in-Some-clause-only : goal.returns-in-Some-clause-only
returns-in-Some-clause-only g c = rw (← c.self.view_is) (λ other e. c.in-Some.ensures.value ∙ only_handle g.met.K.Ord.total g.met.K.OutKey.exact c.self.inside.index.entries (seat_at c.self.inside.seats.slots) c.self.invariant.seats c.args.key.now other e)

pub returns-in-None-clause-missing : goal.returns-in-None-clause-missing
returns-in-None-clause-missing g c = rw (← c.self.view_is) (λ _. row_missing g.met.K.Ord.total g.met.K.OutKey.exact c.self.inside.index.entries (seat_at c.self.inside.seats.slots) c.self.invariant.seats c.args.key.now (sym c.in-None.ensures.value))

pub returns-in-None-clause-only : goal.returns-in-None-clause-only
returns-in-None-clause-only g c = rw (← c.self.view_is) (λ other e. c.in-None.ensures.value ∙ only_handle g.met.K.Ord.total g.met.K.OutKey.exact c.self.inside.index.entries (seat_at c.self.inside.seats.slots) c.self.invariant.seats c.args.key.now other e)
