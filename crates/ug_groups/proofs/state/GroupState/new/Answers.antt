use Rattle.std.proofs.Common.{false, sym, ap, subst, ◌∙◌}
use Rattle.ug_groups.specs.Rows.{Rows}
use Rattle.ug_groups.specs.Members.{system}
use Rattle.ug_groups.specs.Kept.{IsKept}
use Rattle.ug_groups.proofs.FreshMembers.{first-kept, first-view}
use Rattle.ug_groups.proofs.state.GroupState.new.Goals as goal

pub invariant_of-result : goal.invariant_of-result
invariant_of-result c =
    subst (λ (l : Rows). IsKept c.args.world false 0 l c.in-Ok.members.items) (sym c.new.ensures) (first-kept c.args.world c.in-Ok.members.items c.requires c.in-Ok.ensures)

pub returns-clause-ok : goal.returns-clause-ok
returns-clause-ok c =
    ap (λ (l : Rows). system c.args.world false 0 l c.in-Ok.members.items) c.new.ensures ∙ first-view c.args.world c.in-Ok.members.items c.in-Ok.ensures
