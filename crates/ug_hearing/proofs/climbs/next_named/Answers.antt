use Rattle.std.proofs.Common.{List, sym, ◌∙◌, ap, arith}
use Rattle.std.specs.Prelude.{filter}
use Rattle.ug_types.specs.declared.key.Key.{Key}
use Rattle.ug_hearing.specs.Climbed.{is_named}
use Rattle.ug_hearing.proofs.Between.{take-past}
use Rattle.ug_hearing.proofs.HandedOut.{next-is, not-next}
use Rattle.ug_hearing.proofs.climbs.next_named.Goals as goal

pub returns-in-Some-clause-found : goal.returns-in-Some-clause-found
returns-in-Some-clause-found c =
    next-is c.args.judge.now c.args.keys.now c.args.from c.loop-place.place c.index-keys-place.result c.loop-place-test.true c.index-keys-place.is c.loop-place.invariant.passed c.in-Some.moved c.loop-place.invariant.low
    (sym c.last_move.ensures ∙ c.in-Some.is)

pub loop-place-preserved : goal.loop-place-preserved
loop-place-preserved c =
    let low = c.loop-place.invariant.low in
    record {
      low = omega (arith, low);
      passed =
          not-next c.args.judge.now c.args.keys.now c.args.from c.loop-place.place c.index-keys-place.result c.loop-place-test.true c.index-keys-place.is c.loop-place.invariant.passed (sym c.last_move.ensures ∙ c.in-None.is);
    }

pub returns-clause-none : goal.returns-clause-none
returns-clause-none c = ap (λ (ks : List Key). filter (is_named c.args.judge.now) ks) (sym (take-past c.args.keys.now c.loop-place.place c.loop-place-test.false)) ∙ c.loop-place.invariant.passed
