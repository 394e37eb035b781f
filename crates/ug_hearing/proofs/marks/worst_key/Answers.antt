use Rattle.std.proofs.Common.{◌+◌, List, take, drop, sym, subst, arith}
use Rattle.std.specs.Map.{keys_of}
use Rattle.std.specs.List.{AllByRecursion}
use Rattle.ug_types.specs.declared.key.Key.{Key}
use Rattle.ug_hearing.specs.declared.change.Change.{Change}
use Rattle.ug_hearing.specs.Differences.{IsSame}
use Rattle.ug_hearing.specs.Marked.{IsSameAtAll}
use Rattle.ug_hearing.proofs.Compared.{all-same, first-least, one-more-of, all-map}
use Rattle.ug_hearing.proofs.Walked.{seen-at, parted-at, seen-all}
use Rattle.ug_hearing.proofs.marks.worst_key.Goals as goal

pub returns-then-differs_at_one : goal.returns-then-differs_at_one
returns-then-differs_at_one c =
    let s = c.args.session.now in
    let all = s.course.changes in
    let e : Key × List Change = (c.at.result.0.now, c.at.result.1.now) in
    let done = take c.loop-place.place all in
    let d = c.differs_at_one.ensures.differs c.if-differs_at_one.true in (
      d.0,
      d.1,
      d.2,
      λ o q mark other.
          first-least c.args.standings.now.rows all s.course.from o.version done (drop (c.loop-place.place + 1) all) e (parted-at all c.loop-place.place e c.at.ensures) c.len-place-end.ensures.ascending
          (all-map (λ k. IsSameAtAll c.args.standings.now.rows all s.course.from s.syncs.items c.args.from c.args.to k) (λ k. IsSame c.args.standings.now.rows all s.course.from o.version k) (keys_of done) (λ k all. all o mark)
          c.loop-place.invariant)
          q other,
    )

pub loop-place-preserved : goal.loop-place-preserved
loop-place-preserved c =
    let s = c.args.session.now in
    let all = s.course.changes in
    let e : Key × List Change = (c.at.result.0.now, c.at.result.1.now) in
    let P : Key → Type 0 = λ k. IsSameAtAll c.args.standings.now.rows all s.course.from s.syncs.items c.args.from c.args.to k in
    subst (λ (es : List (Key × _)). AllByRecursion P (keys_of es)) (sym (seen-at all c.loop-place.place e c.at.ensures))
    (one-more-of P (take c.loop-place.place all) e c.loop-place.invariant (c.differs_at_one.ensures.same c.if-differs_at_one.false))

pub returns : goal.returns
returns c = λ m mark.
    let s = c.args.session.now in
    let all = s.course.changes in
    let done = take c.loop-place.place all in
    let end = c.loop-place-test.false in
    let count = c.len-place-end.ensures.len in
    all-same c.args.standings.now.rows all s.course.from m.version done (seen-all all c.loop-place.place (omega (arith, end, count)))
    (all-map (λ k. IsSameAtAll c.args.standings.now.rows all s.course.from s.syncs.items c.args.from c.args.to k) (λ k. IsSame c.args.standings.now.rows all s.course.from m.version k) (keys_of done) (λ k all. all m mark)
    c.loop-place.invariant)
