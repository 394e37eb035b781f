use Rattle.std.proofs.Common.{sym, subst, nat_eq}
use Rattle.ug_adjout.specs.Pending.{with_desired}
use Rattle.ug_pack.specs.Ready.{key_order, IsKeyOf}
use Rattle.ug_groups.specs.Standings.{Standing}
use Rattle.ug_groups.proofs.KeptRibs.{kept_by, kept_desired}
use Rattle.ug_groups.proofs.point.Point.want.Goals as goal

pub invariant_of-self-2 : goal.invariant_of-self-2
invariant_of-self-2 c =
    let i = c.self.inside in
    kept_by i.key c.want.new.self.family i.out.family c.want.new.self.adj (with_desired key_order nat_eq i.out.adj c.args.key.now c.args.id) c.in_ok-was.ensures.family c.in_ok-was.ensures.adj
    (kept_desired i.key i.out.family i.out.adj c.args.key.now c.args.id c.self.invariant (subst (λ (k : Standing). IsKeyOf k.key.family k.key.add_path c.args.key.now) (sym c.self.view_is) c.requires.own))
