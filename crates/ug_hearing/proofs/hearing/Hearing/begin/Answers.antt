use Rattle.std.proofs.Common.{◌+◌, List, ◌∷◌, [], ◌++◌, true, refl, sym, subst}
use Rattle.ug_types.specs.declared.key.Key.{Key}
use Rattle.ug_types.specs.Messages.{Begins}
use Rattle.ug_hearing.specs.Heard.{IsTaken}
use Rattle.ug_hearing.proofs.Taking.{begins}
use Rattle.ug_hearing.proofs.hearing.Hearing.begin.Goals as goal

pub returns-clause-taken : goal.returns-clause-taken
returns-clause-taken c = λ entries from to past tables ms course heard.
    subst (λ (f : List Key). IsTaken entries from to past tables f (record { rows = c.args.self.now.standings.rows; moves = c.args.self.now.standings.moves; refreshes = c.args.self.now.standings.refreshes + 1; near = c.args.self.now.standings.near }) true (ms ++ Begins ∷ []))
    (sym c.new.ensures.items)
    (begins entries from to past tables course ms c.args.self.now.standings c.args.self.now.refreshing heard
    (record { rows = c.args.self.now.standings.rows; moves = c.args.self.now.standings.moves; refreshes = c.args.self.now.standings.refreshes + 1; near = c.args.self.now.standings.near }) refl refl refl)
