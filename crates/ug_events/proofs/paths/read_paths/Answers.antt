use Rattle.std.proofs.Common.{List, [], Ok, sym, ap, ◌∙◌, append-nil}
use Rattle.std.proofs.lemmas.Result.{err_from_is_err_and}
use Rattle.ug_events.specs.Events.{GivenPath}
use Rattle.ug_events.specs.Reads.{each_read, behind_read}
use Rattle.ug_events.specs.SeenFields.{runs_in}
use Rattle.ug_events.specs.Words.{words}
use Rattle.ug_events.specs.Paths.{path_of, paths_of}
use Rattle.ug_events.proofs.Each.{behind_nothing}
use Rattle.ug_events.proofs.Runs.{path_refused}
use Rattle.ug_events.proofs.InRange.{paths_fine}
use Rattle.ug_events.proofs.paths.read_paths.Goals as goal

pub returns-in_err-first-clause-read : goal.returns-in_err-first-clause-read
returns-in_err-first-clause-read c =
    let p = err_from_is_err_and c.from_residual.result c.from_residual.ensures.1 in
    let whole = paths_of c.args.family (words c.args.rest.now) in
    rw (p.1, p.2) (path_refused c.args.family [] c.in_err-first.field-0.0 c.args.rest.now whole (behind_nothing whole) c.in_err-first.ensures.read)

pub returns-clause-in_range : goal.returns-clause-in_range
returns-clause-in_range c =
    (paths_fine c.args.family (words c.args.rest.now) c.from_vec.result.items
    (sym c.loop-left.invariant.all ∙ ap (λ left. behind_read c.loop-left.paths.items (each_read (path_of c.args.family) (runs_in left))) c.in_default.is
    ∙ ap (λ (gs : List GivenPath). Ok gs) (append-nil c.loop-left.paths.items ∙ sym c.from_vec.ensures.items))).1
