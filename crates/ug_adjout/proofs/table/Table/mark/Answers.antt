use Rattle.std.proofs.Common.{is_some, refl, sym, ap, ◌∙◌}
use Rattle.ug_adjout.specs.Tables.{value_at}
use Rattle.ug_adjout.specs.declared.row.Row.{Row}
use Rattle.ug_adjout.specs.Stored.{desired_of, pends}
use Rattle.ug_adjout.specs.Stepped.{known}
use Rattle.ug_adjout.proofs.Views.{pending_at, formatted_at, desired_at, waiting_desired}
use Rattle.ug_adjout.proofs.Stepped.{have_rows, formatting, format_kept, format_told, format_nothing, told_waits, told_formatted, told_desired}
use Rattle.ug_adjout.proofs.table.Table.mark.Goals as goal

pub format-requires-clause-ready : goal.format-requires-clause-ready
format-requires-clause-ready g c = formatting g.met.K.Ord.total g.met.K.OutKey.exact _ _ _ c.self.invariant c.args.key

pub format-requires-clause-kept : goal.format-requires-clause-kept
format-requires-clause-kept g c = have_rows (format_kept g.met.K.Ord.total g.met.K.OutKey.exact _ _ _ c.self.invariant c.args.key)

pub invariant_of-self : goal.invariant_of-self
invariant_of-self g c = rw (c.in_default.ensures.none refl) c.self.invariant

pub returns-in_default-clause-waits : goal.returns-in_default-clause-waits
returns-in_default-clause-waits g c =
    rw (← c.self.view_is) (sym (pending_at g.met.K.Ord.total g.met.K.OutKey.exact _ _ _ c.self.invariant c.args.key ∙ ap pends (sym c.in_default.ensures.was)))

pub returns-in_default-clause-none : goal.returns-in_default-clause-none
returns-in_default-clause-none g c = rw (c.in_default.ensures.none refl) c.self.view_is

pub invariant_of-self-in_default-change : goal.invariant_of-self-in_default-change
invariant_of-self-in_default-change g c =
    rw (c.in-Some.ensures.rows refl, c.in-Some.ensures.waiting refl) (format_kept g.met.K.Ord.total g.met.K.OutKey.exact _ _ _ c.self.invariant c.args.key)

pub returns-in_default-change-clause-waits : goal.returns-in_default-change-clause-waits
returns-in_default-change-clause-waits g c =
    rw (← c.self.view_is)
    (sym (ap is_some c.in_default-change.is) ∙ ap (λ (r : Row). is_some r.change) (ap known c.in-Some.ensures.was) ∙ told_waits (value_at g.K.Ord.cmp c.self.inside.queue.rows c.args.key)
    ∙ sym (pending_at g.met.K.Ord.total g.met.K.OutKey.exact _ _ _ c.self.invariant c.args.key))

pub returns-in_default-change-clause-none : goal.returns-in_default-change-clause-none
returns-in_default-change-clause-none g c =
    let nothing = format_nothing g.met.K.Ord.total g.met.K.OutKey.exact _ _ _ c.self.invariant c.args.key
    (ap (λ (r : Row). r.change) (sym (ap known c.in-Some.ensures.was)) ∙ c.in_default-change.is) in
    rw (c.in-Some.ensures.rows refl ∙ nothing.0, c.in-Some.ensures.waiting refl ∙ nothing.1) c.self.view_is

pub invariant_of-self-2 : goal.invariant_of-self-2
invariant_of-self-2 g c =
    rw (c.in-Some.ensures.rows refl, c.in-Some.ensures.waiting refl) (format_kept g.met.K.Ord.total g.met.K.OutKey.exact _ _ _ c.self.invariant c.args.key)

pub returns-clause-waits : goal.returns-clause-waits
returns-clause-waits g c =
    rw (← c.self.view_is)
    (sym (ap is_some c.in-Some-change.is) ∙ ap (λ (r : Row). is_some r.change) (ap known c.in-Some.ensures.was) ∙ told_waits (value_at g.K.Ord.cmp c.self.inside.queue.rows c.args.key)
    ∙ sym (pending_at g.met.K.Ord.total g.met.K.OutKey.exact _ _ _ c.self.invariant c.args.key))

pub returns-clause-ok : goal.returns-clause-ok
returns-clause-ok g c =
    rw (c.in-Some.ensures.rows refl, c.in-Some.ensures.waiting refl, ← c.self.view_is)
    (format_told g.met.K.Ord.total g.met.K.OutKey.exact _ _ _ c.self.invariant c.args.key
    (sym (told_waits (value_at g.K.Ord.cmp c.self.inside.queue.rows c.args.key)) ∙ ap (λ (r : Row). is_some r.change) (sym (ap known c.in-Some.ensures.was)) ∙ ap is_some c.in-Some-change.is))

pub returns-clause-was : goal.returns-clause-was
returns-clause-was g c =
    rw (← c.self.view_is)
    (ap (λ (r : Row). r.formatted) (ap known c.in-Some.ensures.was) ∙ told_formatted (value_at g.K.Ord.cmp c.self.inside.queue.rows c.args.key)
    ∙ sym (formatted_at g.met.K.Ord.total g.met.K.OutKey.exact _ _ _ c.self.invariant c.args.key))

pub returns-clause-now : goal.returns-clause-now
returns-clause-now g c =
    rw (← c.self.view_is)
    (sym (waiting_desired c.in-Some.row c.in-Some-change.change c.in-Some-change.is) ∙ ap desired_of (ap known c.in-Some.ensures.was) ∙ told_desired (value_at g.K.Ord.cmp c.self.inside.queue.rows c.args.key)
    ∙ sym (desired_at g.met.K.Ord.total g.met.K.OutKey.exact _ _ _ c.self.invariant c.args.key))
