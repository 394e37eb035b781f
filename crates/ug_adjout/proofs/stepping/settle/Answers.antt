use Rattle.std.proofs.Common.{Some, sym, ap, ◌∙◌}
use Rattle.ug_adjout.specs.Tables.{with_value}
use Rattle.ug_adjout.specs.TableLaws.{with_value-same}
use Rattle.ug_adjout.specs.Seats.{handle_with}
use Rattle.ug_adjout.proofs.stepping.settle.Goals as goal

pub returns-in-Some-clause-index : goal.returns-in-Some-clause-index
returns-in-Some-clause-index g c =
    sym (with_value-same g.met.K.Ord.total g.met.K.OutKey.exact c.args.index.now.entries c.args.key (Some c.args.handle) c.requires.ordered c.requires.found)
    ∙ ap (λ row. with_value g.K.Ord.cmp c.args.index.now.entries c.args.key (handle_with c.args.handle row)) (sym c.in-Some.is)
