use Rattle.std.proofs.Common.{◌+◌, List, ◌++◌, drop, map, ◌∙◌, sym, ap, append_assoc}
use Rattle.ug_types.specs.declared.key.Key.{Key}
use Rattle.ug_hearing.specs.declared.change.Change.{Change}
use Rattle.ug_hearing.specs.declared.dated.Dated.{Dated}
use Rattle.ug_hearing.specs.Watched.{dated_at, dates_from}
use Rattle.ug_hearing.proofs.Walked.{left-at}
use Rattle.ug_hearing.proofs.dates.dates_by_key.Goals as goal

pub loop-place-preserved : goal.loop-place-preserved
loop-place-preserved c =
    let all = c.args.course.now.changes in
    let n = c.loop-place.place in
    let e : Key × List Change = (c.at.result.0.now, c.at.result.1.now) in
    let rest = dates_from (n + 1) (drop (n + 1) all) in
    ap (λ (ds : List Dated). ds ++ rest) c.in_ok-add_dates.ensures
    ∙ (append_assoc c.loop-place.dates.items (map (dated_at n) c.at.result.1.now) rest
    ∙ (ap (λ (es : List (Key × List Change)). c.loop-place.dates.items ++ dates_from n es) (sym (left-at all n e c.at.ensures)) ∙ c.loop-place.invariant))
