use Rattle.std.specs.Prelude.{slice_get}
use Rattle.std.proofs.Common.{sym, ap, ◌∙◌}
use Rattle.ug_adjout.specs.Tables.{rows_after}
use Rattle.ug_groups.specs.Holders.{rows_of}
use Rattle.ug_groups.proofs.TableHolders.{freed_next, one_freed, shorter_freed, all_freed}
use Rattle.ug_groups.proofs.Holders.{used_live}
use Rattle.ug_groups.proofs.holding.let_all_go.Goals as goal

pub drop_one-requires : goal.drop_one-requires
drop_one-requires g c =
    let rows = rows_of c.args.side c.args.adj.now in
    let is = ap (λ o. slice_get (rows_after g.K.Ord.cmp o rows) 0) (sym c.as_ref.ensures.value) ∙ sym c.in-Some.ensures in
    used_live c.loop-row.pool c.in-Some.row.1 (freed_next g.met.K.Ord.total g.met.K.OutKey.exact c.args.pool.now c.loop-row.pool rows c.loop-row.at c.in-Some.row c.loop-row.invariant c.requires.sorted is)

pub loop-row-smaller : goal.loop-row-smaller
loop-row-smaller g c =
    let rows = rows_of c.args.side c.args.adj.now in
    let is = ap (λ o. slice_get (rows_after g.K.Ord.cmp o rows) 0) (sym c.as_ref.ensures.value) ∙ sym c.in-Some.ensures in
    shorter_freed g.met.K.Ord.total g.met.K.OutKey.exact c.args.pool.now c.loop-row.pool rows c.loop-row.at c.in-Some.row c.loop-row.invariant c.requires.sorted is

pub loop-row-preserved : goal.loop-row-preserved
loop-row-preserved g c =
    let rows = rows_of c.args.side c.args.adj.now in
    let is = ap (λ o. slice_get (rows_after g.K.Ord.cmp o rows) 0) (sym c.as_ref.ensures.value) ∙ sym c.in-Some.ensures in
    one_freed g.met.K.Ord.total g.met.K.OutKey.exact c.args.pool.now c.loop-row.pool rows c.loop-row.at c.in-Some.row c.loop-row.invariant c.requires.sorted is c.drop_one.new.self c.drop_one.ensures

pub returns-clause-uses : goal.returns-clause-uses
returns-clause-uses g c =
    let rows = rows_of c.args.side c.args.adj.now in
    all_freed g.K.Ord.cmp c.args.pool.now c.loop-row.pool rows c.loop-row.at c.loop-row.invariant (ap (λ o. slice_get (rows_after g.K.Ord.cmp o rows) 0) (sym c.as_ref.ensures.value) ∙ sym c.in_default.ensures)
