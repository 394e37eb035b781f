use Rattle.std.specs.Prelude.{Option}
use Rattle.std.proofs.Common.{ap, ◌∙◌, arith}
use Rattle.ug_types.specs.declared.route.OutAttrs.{OutAttrs}
use Rattle.ug_groups.specs.Values.{valued_by}
use Rattle.ug_groups.specs.Standings.{desiring}
use Rattle.ug_groups.specs.Rows.{with_row, of_key}
use Rattle.ug_groups.specs.Entries.{row_in, rows_in}
use Rattle.ug_groups.proofs.Lists.{length_map}
use Rattle.ug_groups.proofs.ClassSweeps.{row_passed}
use Rattle.ug_groups.proofs.Swept.{sweep_over, sweep_all}
use Rattle.ug_groups.proofs.sweeps.desire_each.Goals as goal

pub loop-g-preserved : goal.loop-g-preserved
loop-g-preserved c =
    let inv = c.loop-g.invariant in let pool = c.loop-g.pool in let live = c.loop-g.live in let now = rows_in pool live in
    record {
      kept = λ next kept. c.in_ok-desire_if.ensures.kept next (inv.kept next kept);
      class = λ group of_class. c.in_ok-desire_if.ensures.class group (inv.class group of_class);
      value = c.in_ok-desire_if.ensures.value ∙ inv.value;
      rows = λ group of_class.
          sweep_over (of_key group (desiring c.args.key.now (valued_by c.args.pool.now c.args.id))) (rows_in c.args.pool.now c.args.live.now) now (rows_in c.desire_if.new.pool c.desire_if.new.live) c.loop-g.from c.in-Some.g (inv.rows group of_class)
          c.in-Some.ensures.there.0 (λ k le less. row_passed c.args.class group (desiring c.args.key.now (valued_by c.args.pool.now c.args.id)) pool live (inv.class group of_class) k (λ e. c.in-Some.ensures.skipped k e le less))
          (c.in_ok-desire_if.ensures.rows group (inv.class group of_class) ∙ ap (λ (v : Option OutAttrs). with_row c.in-Some.g (of_key group (desiring c.args.key.now v)) now) inv.value);
    }

pub returns-clause-rows : goal.returns-clause-rows
returns-clause-rows c group of_class =
    let inv = c.loop-g.invariant in let pool = c.loop-g.pool in let live = c.loop-g.live in let now = rows_in pool live in let same = length_map (row_in pool) live in
    sweep_all (of_key group (desiring c.args.key.now (valued_by c.args.pool.now c.args.id))) (rows_in c.args.pool.now c.args.live.now) now c.loop-g.from (inv.rows group of_class)
    (λ k le less. row_passed c.args.class group (desiring c.args.key.now (valued_by c.args.pool.now c.args.id)) pool live (inv.class group of_class) k (λ e. c.in_default.ensures.none k e le (omega (arith, less, same))))
