use Rattle.std.proofs.Common.{slice_get, sym, ap, ◌∙◌}
use Rattle.std.specs.Option.{option_copied}
use Rattle.std.specs.BTreeMap.Range.{entries_between}
use Rattle.std.specs.declared.ops.Bound.TheVariants.{Unbounded}
use Rattle.ug_adjout.specs.Tables.{rows_after}
use Rattle.ug_adjout.specs.Seats.{seat_at, row_of}
use Rattle.ug_adjout.specs.Stored.{of_row, desired_of}
use Rattle.ug_adjout.proofs.Rest.{first_after, projected_twice}
use Rattle.ug_adjout.proofs.after.first_desired.Goals as goal

pub loop-key-init : goal.loop-key-init
loop-key-init g c =
    first_after g.K.Ord.cmp (λ handle. of_row desired_of (row_of (seat_at c.args.seats.now.slots handle))) _ c.args.index.now.entries _
    (c.into_iter-key-iterator.ensures.into_iter_gives ∙ c.range-key-items.ensures.between tt ∙ ap (λ b. entries_between g.K.Ord.cmp b Unbounded c.args.index.now.entries) c.start_of.ensures)
    ∙ ap (λ rows. slice_get (rows_after g.K.Ord.cmp (option_copied c.args.key) rows) 0)
    (sym (projected_twice (λ handle. row_of (seat_at c.args.seats.now.slots handle)) desired_of c.args.index.now.entries))
