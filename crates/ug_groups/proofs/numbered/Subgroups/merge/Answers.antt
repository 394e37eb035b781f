use Rattle.std.specs.Prelude.{None}
use Rattle.ug_groups.proofs.PartAndMeet.{kept_or, kept_merged, seen_merged, apart_in}
use Rattle.ug_groups.proofs.numbered.Subgroups.merge.Goals as goal

pub merge-requires-clause-apart : goal.merge-requires-clause-apart
merge-requires-clause-apart c = let i = c.self.inside in apart_in i.pool i.live c.args.g c.args.h c.args.self.now c.self.view_is c.requires.apart

pub invariant_of-self : goal.invariant_of-self
invariant_of-self c =
    let i = c.self.inside in
    kept_or c.merge.result i.pool c.merge.new.pool i.live c.merge.new.live i.classes None c.self.invariant (λ done. kept_merged i.pool c.merge.new.pool i.live c.merge.new.live c.args.g c.args.h c.requires.other done i.classes None c.self.invariant)
    c.merge.ensures.ok c.merge.ensures.err

pub returns : goal.returns
returns c =
    let i = c.self.inside in
    record { rows = seen_merged c.merge.result i.pool c.merge.new.pool i.live c.merge.new.live c.args.g c.args.h i.classes None c.args.self.now c.requires.other c.self.invariant c.self.view_is c.merge.ensures.ok }
