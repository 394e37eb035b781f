use Rattle.std.proofs.Common.{◌≡◌, sym, ◌∙◌, arith}
use Rattle.std.specs.declared.cmp.Ordering.TheVariants.{Less, Greater}
use Rattle.ug_types.specs.Orders.{key_cmp}
use Rattle.ug_hearing.proofs.Ascending.{within-behind, within-before, nowhere}
use Rattle.ug_hearing.proofs.placing.place_between.Goals as goal

pub loop-low-preserved-in-Less : goal.loop-low-preserved-in-Less
loop-low-preserved-in-Less c =
    let order : key_cmp c.index-keys-at.result c.args.key.now ≡ Less = sym (c.comparison_laws.ensures.key_order c.index-keys-at.result c.args.key.now) ∙ (sym c.cmp.ensures ∙ c.in-Less.is) in
    record {
      high = c.loop-low.invariant.high;
      within =
          within-behind c.args.keys.now c.loop-low.low c.loop-low.high c.next_place-at.result c.args.key.now c.index-keys-at.result c.requires.sorted
          (let high = c.next_place-at.ensures.high in let within = c.loop-low.invariant.high in omega (arith, high, within)) c.index-keys-at.is order c.loop-low.invariant.within;
    }

pub loop-low-preserved : goal.loop-low-preserved
loop-low-preserved c =
    let order : key_cmp c.index-keys-at.result c.args.key.now ≡ Greater = sym (c.comparison_laws.ensures.key_order c.index-keys-at.result c.args.key.now) ∙ (sym c.cmp.ensures ∙ c.in-Greater.is) in
    let high = c.next_place-at.ensures.high in
    let within = c.loop-low.invariant.high in
    record {
      high = omega (arith, high, within);
      within =
          within-before c.args.keys.now c.loop-low.low c.loop-low.high c.next_place-at.result c.args.key.now c.index-keys-at.result c.requires.sorted (omega (arith, high, within)) c.index-keys-at.is order
          c.loop-low.invariant.within;
    }

pub returns-clause-none : goal.returns-clause-none
returns-clause-none c = nowhere c.args.keys.now c.args.key.now c.loop-low.low c.loop-low.high c.loop-low-test.false c.loop-low.invariant.within
