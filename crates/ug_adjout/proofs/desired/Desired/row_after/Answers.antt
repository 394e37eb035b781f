use Rattle.std.proofs.Common.{sym, ap, ◌∙◌, slice_get}
use Rattle.std.specs.BTreeMap.Range.{entries_between}
use Rattle.std.specs.declared.ops.Bound.TheVariants.{Unbounded}
use Rattle.ug_adjout.proofs.Rest.{between_after}
use Rattle.ug_adjout.proofs.desired.Desired.row_after.Goals as goal

pub returns-in-Some : goal.returns-in-Some
returns-in-Some g c =
    let e = c.range.ensures.between tt ∙ ap (λ b. entries_between g.K.Ord.cmp b Unbounded c.self.inside.rows.entries) c.start_of.ensures ∙ between_after g.K.Ord.cmp _ c.self.inside.rows.entries in
    rw (← c.self.view_is) (sym (ap (λ l. slice_get l 0) (sym e ∙ c.in-Some.ensures.steps)))

pub returns-in-None : goal.returns-in-None
returns-in-None g c =
    let e = c.range.ensures.between tt ∙ ap (λ b. entries_between g.K.Ord.cmp b Unbounded c.self.inside.rows.entries) c.start_of.ensures ∙ between_after g.K.Ord.cmp _ c.self.inside.rows.entries in
    rw (← c.self.view_is) (sym (ap (λ l. slice_get l 0) (sym e ∙ c.in-None.ensures.steps.0)))
