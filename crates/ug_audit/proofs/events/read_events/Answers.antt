use Rattle.ug_audit.proofs.Steps.{events_stop}
use Rattle.ug_audit.specs.Stopping.{said}
use Rattle.ug_edge.specs.Told.{file_told}
use Rattle.ug_audit.proofs.events.read_events.Goals as goal

pub returns-in-Err-clause-stopped : goal.returns-in-Err-clause-stopped
returns-in-Err-clause-stopped g c = λ w names first picked.
    events_stop (said c.args.words.now) (file_told (g.E.Source.files c.args.site.now)) names (g.E.Source.picks c.args.site.now).names (g.E.Source.picks c.read_text.new.site).names w c.in-Err.stop first picked c.in-Err.ensures.stopped
