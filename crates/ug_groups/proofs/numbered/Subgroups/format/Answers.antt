use Rattle.std.specs.Prelude.{None}
use Rattle.ug_groups.specs.Standings.{IsFit}
use Rattle.ug_groups.specs.Rows.{formatted_row}
use Rattle.ug_groups.proofs.Accounts.{kept_done, rows_seen, if_in}
use Rattle.ug_groups.proofs.numbered.Subgroups.format.Goals as goal

pub format-requires-clause-fit : goal.format-requires-clause-fit
format-requires-clause-fit c = if_in (λ r. IsFit r.sub) c.self.inside.pool c.self.inside.live c.args.g c.args.self.now c.self.view_is c.requires.fit

pub invariant_of-self-in_default : goal.invariant_of-self-in_default
invariant_of-self-in_default c = c.clear.ensures c.self.inside.classes

pub invariant_of-self : goal.invariant_of-self
invariant_of-self c = let i = c.self.inside in kept_done i.pool c.format.new.pool i.live c.format.new.live c.args.g (formatted_row c.args.made) c.in-Ok.ensures i.classes None c.self.invariant

pub returns : goal.returns
returns c = let i = c.self.inside in rows_seen i.pool c.format.new.pool i.live c.format.new.live c.args.g (formatted_row c.args.made) i.classes None c.self.invariant c.args.self.now c.self.view_is c.in-Ok.ensures
