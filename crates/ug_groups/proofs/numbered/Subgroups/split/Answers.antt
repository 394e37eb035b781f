use Rattle.std.specs.Prelude.{None}
use Rattle.ug_groups.proofs.PartAndMeet.{kept_or, kept_split, seen_split}
use Rattle.ug_groups.proofs.numbered.Subgroups.split.Goals as goal

pub invariant_of-self : goal.invariant_of-self
invariant_of-self c =
    let i = c.self.inside in
    kept_or c.split.result i.pool c.split.new.pool i.live c.split.new.live i.classes None c.self.invariant (λ done. kept_split i.pool c.split.new.pool i.live c.split.new.live c.args.g c.args.members.now.items done i.classes None c.self.invariant)
    c.split.ensures.ok c.split.ensures.err

pub returns-clause-rows : goal.returns-clause-rows
returns-clause-rows c =
    let i = c.self.inside in
    seen_split c.split.result i.pool c.split.new.pool i.live c.split.new.live c.args.g c.args.members.now.items i.classes None c.args.self.now c.self.invariant c.self.view_is c.split.ensures.ok
