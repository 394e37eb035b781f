use Rattle.std.proofs.Common.{List, ◌+◌, take, drop, sym, ap, subst, arith}
use Rattle.ug_types.specs.declared.key.Key.{Key}
use Rattle.ug_hearing.specs.declared.change.Change.{Change}
use Rattle.ug_hearing.specs.Keyed.{items_or_none}
use Rattle.ug_hearing.specs.Differences.{IsSame}
use Rattle.ug_hearing.proofs.Compared.{entry-found}
use Rattle.ug_hearing.proofs.Walked.{parted-at, none-beyond, key-at}
use Rattle.ug_hearing.proofs.differences.is_as_at.Goals as goal

pub is_as_by-requires : goal.is_as_by-requires
is_as_by-requires c =
    let all = c.args.course.now.changes in
    let e : Key × List Change = (c.at.result.0.now, c.at.result.1.now) in
    sym (ap items_or_none (entry-found (take c.args.place all) (drop (c.args.place + 1) all) e all (parted-at all c.args.place e c.at.ensures) c.len.ensures.ascending))

pub returns-then-place-len : goal.returns-then-place-len
returns-then-place-len c = λ is q there.
    let far = c.if-place-len.true in
    let count = c.len.ensures.len in
    absurd (none-beyond c.args.course.now.changes c.args.place q (omega (arith, far, count)) there)

pub returns : goal.returns
returns c = λ is q there.
    let all = c.args.course.now.changes in
    let e : Key × List Change = (c.at.result.0.now, c.at.result.1.now) in
    subst (λ (k : Key). IsSame c.args.standings.now.rows all c.args.course.now.from c.args.version k) (key-at all c.args.place e q c.at.ensures there) (c.is_as_by.ensures.0 is)
