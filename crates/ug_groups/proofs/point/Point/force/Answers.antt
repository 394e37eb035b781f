use Rattle.std.proofs.Common.{ap, ◌∙◌, nat_eq}
use Rattle.ug_adjout.specs.Pending.{with_all_forced}
use Rattle.ug_pack.specs.Ready.{key_order}
use Rattle.ug_groups.specs.FamilyRibs.{FamilyRib}
use Rattle.ug_groups.proofs.KeptRibs.{kept_as, kept_by, kept_nothing, kept_forced}
use Rattle.ug_groups.proofs.point.Point.force.Goals as goal

pub invariant_of-self : goal.invariant_of-self
invariant_of-self c = kept_as c.self.inside.key c.replace-out.new.dest _ (c.replace-out.ensures.after ∙ c.new-nothing.ensures) (kept_nothing c.self.inside.key)

pub invariant_of-self-2 : goal.invariant_of-self-2
invariant_of-self-2 c =
    kept_by c.self.inside.key c.force_all.new.self.family c.self.inside.out.family c.force_all.new.self.adj (with_all_forced key_order nat_eq c.self.inside.out.adj)
    (c.in_ok-force_all.ensures.family ∙ ap (λ (o : FamilyRib). o.family) c.replace-out.ensures.value)
    (c.in_ok-force_all.ensures.adj ∙ ap (λ (o : FamilyRib). with_all_forced key_order nat_eq o.adj) c.replace-out.ensures.value)
    (kept_forced c.self.inside.key c.self.inside.out.family c.self.inside.out.adj c.self.invariant)
