use Rattle.std.proofs.lemmas.Option.{slice_get-get_or}
use Rattle.ug_hearing.proofs.Lying.{bounds-within}
use Rattle.ug_hearing.proofs.lists.bounds.Goals as goal

pub returns-clause-ordered : goal.returns-clause-ordered
returns-clause-ordered c =
    let there = slice_get-get_or c.args.ends.now c.args.place 0 c.requires.inside in
    let within = bounds-within 0 c.args.ends.now c.args.all c.args.place _ c.requires.laid there in
    rw c.start.ensures within.0

pub returns-clause-within : goal.returns-clause-within
returns-clause-within c =
    let there = slice_get-get_or c.args.ends.now c.args.place 0 c.requires.inside in
    (bounds-within 0 c.args.ends.now c.args.all c.args.place _ c.requires.laid there).1

pub returns-clause-end : goal.returns-clause-end
returns-clause-end c = slice_get-get_or c.args.ends.now c.args.place 0 c.requires.inside
