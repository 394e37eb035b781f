use Rattle.std.proofs.Common.{sym, subst}
use Rattle.ug_groups.specs.Standings.{IsFit, seen}
use Rattle.ug_groups.specs.Subgroups.{Grouped}
use Rattle.ug_groups.proofs.subgroup.Subgroup.format.Goals as goal

pub next_packet-requires-clause-fit : goal.next_packet-requires-clause-fit
next_packet-requires-clause-fit c = subst (λ (g : Grouped). IsFit (seen c.args.pool.now g.point)) (sym c.self.view_is) c.requires.fit
