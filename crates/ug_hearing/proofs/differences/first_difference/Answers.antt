use Rattle.std.proofs.Common.{◌+◌, List, take, drop, sym, ap, subst, arith}
use Rattle.std.specs.Map.{keys_of}
use Rattle.std.specs.List.{AllByRecursion}
use Rattle.ug_types.specs.declared.key.Key.{Key}
use Rattle.ug_hearing.specs.declared.change.Change.{Change}
use Rattle.ug_hearing.specs.Keyed.{items_or_none}
use Rattle.ug_hearing.specs.Differences.{IsSame}
use Rattle.ug_hearing.proofs.Compared.{all-same, first-least, one-more-of, entry-found}
use Rattle.ug_hearing.proofs.Walked.{seen-at, parted-at, seen-all}
use Rattle.ug_hearing.proofs.differences.first_difference.Goals as goal

pub is_as_by-requires : goal.is_as_by-requires
is_as_by-requires c =
    let all = c.args.course.now.changes in
    let e : Key × List Change = (c.at.result.0.now, c.at.result.1.now) in
    sym (ap items_or_none (entry-found (take c.loop-place.place all) (drop (c.loop-place.place + 1) all) e all (parted-at all c.loop-place.place e c.at.ensures) c.len-place-end.ensures.ascending))

pub returns-then-not-is_as_by-clause-first : goal.returns-then-not-is_as_by-clause-first
returns-then-not-is_as_by-clause-first c =
    let all = c.args.course.now.changes in
    let e : Key × List Change = (c.at.result.0.now, c.at.result.1.now) in
    first-least c.args.standings.now.rows all c.args.course.now.from c.args.version (take c.loop-place.place all) (drop (c.loop-place.place + 1) all) e (parted-at all c.loop-place.place e c.at.ensures) c.len-place-end.ensures.ascending
    c.loop-place.invariant

pub loop-place-preserved : goal.loop-place-preserved
loop-place-preserved c =
    let all = c.args.course.now.changes in
    let e : Key × List Change = (c.at.result.0.now, c.at.result.1.now) in
    let P : Key → Type 0 = λ k. IsSame c.args.standings.now.rows all c.args.course.now.from c.args.version k in
    subst (λ (es : List (Key × _)). AllByRecursion P (keys_of es)) (sym (seen-at all c.loop-place.place e c.at.ensures))
    (one-more-of P (take c.loop-place.place all) e c.loop-place.invariant (c.is_as_by.ensures.0 c.if-not-is_as_by.false))

pub returns-clause-none : goal.returns-clause-none
returns-clause-none c =
    let all = c.args.course.now.changes in
    let end = c.loop-place-test.false in
    let count = c.len-place-end.ensures.len in
    all-same c.args.standings.now.rows all c.args.course.now.from c.args.version (take c.loop-place.place all) (seen-all all c.loop-place.place (omega (arith, end, count))) c.loop-place.invariant
