use Rattle.std.proofs.Common.{subst, sym}
use Rattle.ug_sender.specs.Posts.{IsRosterOf}
use Rattle.ug_event_loop.proofs.beside.beside.Goals as goal

pub gather-requires-clause-roster : goal.gather-requires-clause-roster
gather-requires-clause-roster g c κs within = subst (λ ps. IsRosterOf g.N.Roster.post ps) (sym c.beside_docks-crew.ensures.posts) c.requires.roster
