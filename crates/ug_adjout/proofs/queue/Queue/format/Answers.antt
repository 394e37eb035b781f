use Rattle.std.proofs.Common.{refl, sym, ap, subst, ◌∙◌}
use Rattle.ug_adjout.specs.Tables.{value_at, with_value}
use Rattle.ug_adjout.specs.declared.step.Step.TheVariants.{Format}
use Rattle.ug_adjout.specs.Seats.{HaveRows}
use Rattle.ug_adjout.specs.Stepped.{known, stepped, lined}
use Rattle.ug_adjout.proofs.queue.Queue.format.Goals as goal

pub step_at-requires-clause-found : goal.step_at-requires-clause-found
step_at-requires-clause-found g c = sym c.in-Some.ensures.handle

pub step_at-requires-clause-lined : goal.step_at-requires-clause-lined
step_at-requires-clause-lined g c = c.self.invariant

pub step_at-requires-clause-ready : goal.step_at-requires-clause-ready
step_at-requires-clause-ready g c = rw (← c.self.view_is) at c.requires.ready

pub step_at-requires-clause-kept : goal.step_at-requires-clause-kept
step_at-requires-clause-kept g c =
    subst
    (λ v. HaveRows g.K.Ord.cmp (with_value g.K.Ord.cmp v.rows c.args.key (stepped Format (known (value_at g.K.Ord.cmp v.rows c.args.key)))) (lined Format c.args.key (known (value_at g.K.Ord.cmp v.rows c.args.key)) v.waiting))
    (sym c.self.view_is) c.requires.kept

pub returns-in_default-clause-was : goal.returns-in_default-clause-was
returns-in_default-clause-was g c = rw (← c.self.view_is) (sym (c.in_default.ensures.missing refl))

pub returns-clause-was : goal.returns-clause-was
returns-clause-was g c = rw (← c.self.view_is) (sym c.in-Ok.ensures.was)

pub returns-clause-rows : goal.returns-clause-rows
returns-clause-rows g c =
    λ _. c.in-Ok.ensures.rows ∙ ap (λ v. with_value g.K.Ord.cmp v.rows c.args.key (stepped Format (known (value_at g.K.Ord.cmp v.rows c.args.key)))) c.self.view_is

pub returns-clause-waiting : goal.returns-clause-waiting
returns-clause-waiting g c = rw (← c.self.view_is) (λ _. c.in-Ok.ensures.line)
