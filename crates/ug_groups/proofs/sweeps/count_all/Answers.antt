use Rattle.std.proofs.Common.{refl, sym, subst, arith}
use Rattle.ug_groups.specs.Rows.{counted_row}
use Rattle.ug_groups.specs.Entries.{Entries, row_in, rows_in, IsKept}
use Rattle.ug_groups.proofs.Lists.{length_map}
use Rattle.ug_groups.proofs.Accounts.{kept_done, rows_flat, row_gone}
use Rattle.ug_groups.proofs.Swept.{sweep_step, sweep_end}
use Rattle.ug_groups.proofs.sweeps.count_all.Goals as goal

pub returns-in_err-count-clause-kept : goal.returns-in_err-count-clause-kept
returns-in_err-count-clause-kept c next hand pool kept = subst (λ (xs : Entries). IsKept next hand pool xs) (sym c.in_err-count.ensures.err) (c.loop-g.invariant.kept next hand pool kept)

pub loop-g-preserved : goal.loop-g-preserved
loop-g-preserved c = record {
  kept = λ next hand pool kept. kept_done pool pool c.loop-g.live c.count.new.live c.in-Some.g counted_row (c.in_ok-count.ensures.ok pool) next hand (c.loop-g.invariant.kept next hand pool kept);
  rows = λ pool.
      let now = rows_in pool c.loop-g.live in
      sweep_step counted_row (rows_in pool c.args.live.now) now (rows_in pool c.count.new.live) c.loop-g.from c.in-Some.g (c.loop-g.invariant.rows pool) c.in-Some.ensures.there.0
      (λ k le less. row_gone pool c.loop-g.live k now refl (c.in-Some.ensures.skipped k le less)) (rows_flat pool c.loop-g.live c.count.new.live c.in-Some.g counted_row (c.in_ok-count.ensures.ok pool));
}

pub returns-clause-rows : goal.returns-clause-rows
returns-clause-rows c pool =
    let now = rows_in pool c.loop-g.live in let same = length_map (row_in pool) c.loop-g.live in
    sweep_end counted_row (rows_in pool c.args.live.now) now c.loop-g.from (c.loop-g.invariant.rows pool)
    (λ k le less. row_gone pool c.loop-g.live k now refl (c.in_default.ensures.none k le (omega (arith, less, same))))
