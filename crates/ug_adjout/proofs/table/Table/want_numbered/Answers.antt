use Rattle.std.proofs.Common.{sym, ap, ◌∙◌}
use Rattle.ug_adjout.specs.Tables.{value_at}
use Rattle.ug_adjout.specs.Stored.{desired_of}
use Rattle.ug_adjout.specs.Stepped.{known}
use Rattle.ug_adjout.proofs.Views.{desired_at}
use Rattle.ug_adjout.proofs.Stepped.{have_rows, wanting, want_kept, want_told, told_desired}
use Rattle.ug_adjout.proofs.table.Table.want_numbered.Goals as goal

pub step-requires-clause-ready : goal.step-requires-clause-ready
step-requires-clause-ready g c = wanting g.met.K.Ord.total g.met.K.OutKey.exact _ _ _ c.self.invariant c.args.key c.args.desired

pub step-requires-clause-kept : goal.step-requires-clause-kept
step-requires-clause-kept g c = have_rows (want_kept g.met.K.Ord.total g.met.K.OutKey.exact _ _ _ c.self.invariant c.args.key c.args.desired)

pub invariant_of-self-2 : goal.invariant_of-self-2
invariant_of-self-2 g c =
    rw (c.in_ok-was.ensures.rows, c.in_ok-was.ensures.waiting) (want_kept g.met.K.Ord.total g.met.K.OutKey.exact _ _ _ c.self.invariant c.args.key c.args.desired)

pub returns-clause-was : goal.returns-clause-was
returns-clause-was g c =
    rw (← c.self.view_is)
    (c.desired.ensures ∙ ap desired_of (c.known.ensures ∙ ap known c.in_ok-was.ensures.was) ∙ told_desired (value_at g.K.Ord.cmp c.self.inside.queue.rows c.args.key)
    ∙ sym (desired_at g.met.K.Ord.total g.met.K.OutKey.exact _ _ _ c.self.invariant c.args.key))

pub returns-clause-ok : goal.returns-clause-ok
returns-clause-ok g c =
    rw (c.in_ok-was.ensures.rows, c.in_ok-was.ensures.waiting, ← c.self.view_is) (want_told g.met.K.Ord.total g.met.K.OutKey.exact _ _ _ c.self.invariant c.args.key c.args.desired)
