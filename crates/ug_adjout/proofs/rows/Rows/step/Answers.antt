use Rattle.std.proofs.Common.{refl, sym, ap, ◌∙◌}
use Rattle.std.specs.BTreeMap.{is_at}
use Rattle.ug_adjout.specs.Tables.{with_value}
use Rattle.ug_adjout.specs.TableLaws.{removed_nothing}
use Rattle.ug_adjout.specs.Seats.{rows_in}
use Rattle.ug_adjout.specs.Stepped.{known, stepped}
use Rattle.ug_adjout.proofs.Stepped.{makes_none}
use Rattle.ug_adjout.proofs.rows.Rows.step.Goals as goal

pub returns-in_default-handle-clause-rows : goal.returns-in_default-handle-clause-rows
returns-in_default-handle-clause-rows g c =
    let none = c.in_default-handle.ensures.missing refl in
    sym (removed_nothing g.met.K.Ord.total g.met.K.OutKey.exact (is_at (g.K.Ord.cmp c.args.key)) (rows_in c.args.self.now) none)
    ∙ ap (with_value g.K.Ord.cmp (rows_in c.args.self.now) c.args.key)
    (sym (ap (λ o. stepped c.args.step (known o)) none ∙ makes_none c.args.step (sym c.makes_row.ensures ∙ c.if-makes_row.false)))
