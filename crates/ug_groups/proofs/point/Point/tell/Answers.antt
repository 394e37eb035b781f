use Rattle.std.proofs.Common.{sym, subst, nat_eq}
use Rattle.ug_adjout.specs.Pending.{with_all_formatted}
use Rattle.ug_pack.specs.Ready.{key_order}
use Rattle.ug_types.specs.declared.family.Family.{Family}
use Rattle.ug_groups.specs.FamilyRibs.{AreDue}
use Rattle.ug_groups.specs.Standings.{Standing}
use Rattle.ug_groups.proofs.KeptRibs.{kept_by, kept_told}
use Rattle.ug_groups.proofs.point.Point.tell.Goals as goal

pub tell-requires-clause-keys : goal.tell-requires-clause-keys
tell-requires-clause-keys c =
    subst (λ (f : Family). AreDue (record { family = f; adj = c.self.inside.out.adj }) c.args.keys.now) (sym c.self.invariant.family_is)
    (subst (λ (k : Standing). AreDue (record { family = k.key.family; adj = k.adj }) c.args.keys.now) (sym c.self.view_is) c.requires.keys)

pub invariant_of-self : goal.invariant_of-self
invariant_of-self c =
    kept_by c.self.inside.key c.tell.new.out.family c.self.inside.out.family c.tell.new.out.adj (with_all_formatted key_order nat_eq c.self.inside.out.adj c.args.keys.now)
    c.tell.ensures.family c.tell.ensures.adj (kept_told c.self.inside.key c.self.inside.out.family c.args.keys.now c.self.inside.out.adj c.self.invariant)
