use Rattle.ug_sender.proofs.Seats.{roster-same}
use Rattle.ug_sender.proofs.crew.Crew.gather.Goals as goal

pub gather-requires-clause-roster : goal.gather-requires-clause-roster
gather-requires-clause-roster g c κs within = roster-same g.N.Roster.post c.self.inside.workers.items c.args.self c.self.view_is c.requires.roster
