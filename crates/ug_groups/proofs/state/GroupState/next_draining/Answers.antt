use Rattle.std.proofs.Common.{Bool, sym, ap, subst, ◌∙◌}
use Rattle.ug_groups.specs.Members.{system}
use Rattle.ug_groups.specs.Kept.{IsKept}
use Rattle.std.proofs.lemmas.Option.{IfSome_then}
use Rattle.ug_group_rules.specs.Machine.{legal}
use Rattle.ug_groups.proofs.WorkDue.{work-prepares, work-legal, no-work-illegal, none_then}
use Rattle.ug_groups.proofs.state.GroupState.next_draining.Goals as goal

pub returns-clause-prepares : goal.returns-clause-prepares
returns-clause-prepares c = IfSome_then c.next_draining.result c.next_draining.ensures.some (λ job k. work-prepares c.self.inside.world.local.slow_after c.self.inside.subgroups job k)

pub returns-clause-legal : goal.returns-clause-legal
returns-clause-legal c =
    let i = c.self.inside in
    let kept = subst (λ (b : Bool). IsKept i.world b i.made i.subgroups i.members.items) c.if-self.false c.self.invariant in
    let view = ap (λ (b : Bool). system i.world b i.made i.subgroups i.members.items) (sym c.if-self.false) ∙ c.self.view_is in
    IfSome_then c.next_draining.result c.next_draining.ensures.some
    (λ job k. ap (legal job) (sym view) ∙ work-legal i.world i.made i.subgroups i.members.items kept c.know_rows.ensures job k)

pub returns-clause-prepared : goal.returns-clause-prepared
returns-clause-prepared c =
    let i = c.self.inside in
    let kept = subst (λ (b : Bool). IsKept i.world b i.made i.subgroups i.members.items) c.if-self.false c.self.invariant in
    let view = ap (λ (b : Bool). system i.world b i.made i.subgroups i.members.items) (sym c.if-self.false) ∙ c.self.view_is in
    none_then c.next_draining.result
    (λ none job is. ap (legal job) (sym view) ∙ no-work-illegal i.world i.made i.subgroups i.members.items kept c.know_rows.ensures none job is)
    c.next_draining.ensures.none
