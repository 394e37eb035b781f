use Rattle.std.proofs.Common.{sym, ap, ◌∙◌}
use Rattle.ug_events.specs.Fields.{Fields}
use Rattle.ug_events.specs.Words.{words}
use Rattle.ug_events.specs.Paths.{runs, first_of, fields_of}
use Rattle.ug_events.specs.Views.{fields_seen}
use Rattle.ug_events.proofs.InRange.{words_ipv4}
use Rattle.ug_events.proofs.paths.read_path.Goals as goal

pub into_path-requires : goal.into_path-requires
into_path-requires c =
    let run = first_of (runs (words c.args.rest.now)) in
    let first = ap (λ (f : Fields). fields_of c.args.family f run) c.new-fields.ensures in
    record { ipv4 = words_ipv4 c.args.family run (fields_seen c.read_fields.new.fields) (sym first ∙ c.in_ok-behind.ensures.read) }
