use Rattle.std.proofs.Common.{refl, sym, ◌∙◌}
use Rattle.ug_adjout.proofs.Runs.{alike_are, alike_are_none, first_value_is, some_key}
use Rattle.ug_adjout.proofs.table.Table.first_announcement.Goals as goal

pub returns-in_default-clause-key : goal.returns-in_default-clause-key
returns-in_default-clause-key g c =
    rw (← c.self.view_is, alike_are_none g.met.K.Ord.total g.met.K.OutKey.exact _ _ _ c.self.invariant (sym c.first_value.ensures ∙ c.in_default.is)) refl

pub returns-in_default-clause-value : goal.returns-in_default-clause-value
returns-in_default-clause-value g c =
    rw (← c.self.view_is, first_value_is g.met.K.Ord.total g.met.K.OutKey.exact _ _ _ c.self.invariant) (sym c.in_default.is ∙ c.first_value.ensures)

pub unreachable-requires : goal.unreachable-requires
unreachable-requires g c = some_key _ c.self.inside.queue.waiting (sym c.in-Some.ensures) (sym c.first_of.ensures ∙ c.in_default-first_of.is)

pub returns-clause-key : goal.returns-clause-key
returns-clause-key g c =
    rw (← c.self.view_is, alike_are g.met.K.Ord.total g.met.K.OutKey.exact _ _ _ c.self.invariant _ (sym c.in-Some.ensures)) c.in-Some-first_of.ensures

pub returns-clause-value : goal.returns-clause-value
returns-clause-value g c =
    rw (← c.self.view_is, first_value_is g.met.K.Ord.total g.met.K.OutKey.exact _ _ _ c.self.invariant) c.in-Some.ensures
