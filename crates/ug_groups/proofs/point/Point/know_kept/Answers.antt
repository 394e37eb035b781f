use Rattle.std.proofs.Common.{subst}
use Rattle.ug_types.specs.declared.family.Family.{Family}
use Rattle.ug_groups.specs.Standings.{Standing, IsKept}
use Rattle.ug_groups.proofs.point.Point.know_kept.Goals as goal

pub returns : goal.returns
returns c =
    subst (λ (k : Standing). IsKept k.key k.key.family k.adj) c.self.view_is
    (subst (λ (f : Family). IsKept c.self.inside.key f c.self.inside.out.adj) c.self.invariant.family_is c.self.invariant)
