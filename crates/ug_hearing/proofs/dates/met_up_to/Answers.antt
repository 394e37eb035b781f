use Rattle.std.proofs.Common.{◌≤◌, length, inl, inr, sym, subst, arith}
use Rattle.std.proofs.lemmas.Bool.{cases_lt}
use Rattle.std.specs.Map.{keys_of}
use Rattle.ug_types.specs.declared.key.Key.{Key}
use Rattle.ug_hearing.specs.Keyed.{IsPlaceOf}
use Rattle.ug_hearing.specs.declared.dated.Dated.{Dated}
use Rattle.ug_hearing.specs.Differences.{IsSame}
use Rattle.ug_hearing.proofs.Between.{beyond}
use Rattle.ug_hearing.proofs.Dating.{last-one}
use Rattle.ug_hearing.proofs.dates.met_up_to.Goals as goal

abbrev empty : Dated
empty = record { version = 0; place = 0 }

pub loop-i-preserved : goal.loop-i-preserved
loop-i-preserved c = record {
  same = λ j d is low high. elim (cases_lt j c.loop-i.i) [
    | inl sooner ↦ c.loop-i.invariant.same j d is low sooner
    | inr far ↦
        subst (λ (x : Dated). (q : Key) → IsPlaceOf q (keys_of c.args.course.now.changes) x.place → IsSame c.args.standings.now.rows c.args.course.now.changes c.args.course.now.from c.args.version q)
        (sym (last-one c.args.dates.now c.loop-i.i j empty d c.loop-i-test.true is high (λ less. omega (arith, less, far))))
        (c.is_as_at.ensures c.if-not-is_as_at.false)
  ];
  up_to = λ j d is low high. elim (cases_lt j c.loop-i.i) [
    | inl sooner ↦ c.loop-i.invariant.up_to j d is low sooner
    | inr far ↦
        subst (λ (x : Dated). x.version ≤ c.args.version)
        (sym (last-one c.args.dates.now c.loop-i.i j empty d c.loop-i-test.true is high (λ less. omega (arith, less, far)))) c.if-dates-i.false
  ];
}

pub returns : goal.returns
returns c = record {
  same = λ j d is low high. c.loop-i.invariant.same j d is low (let end = c.loop-i-test.false in omega arith);
  up_to = λ j d is low high. c.loop-i.invariant.up_to j d is low (let end = c.loop-i-test.false in omega arith);
  behind = λ d is. absurd (beyond c.args.dates.now (length c.args.dates.now) d (omega arith) is);
}
