use Rattle.ug_audit.proofs.Steps.{told_stop}
use Rattle.ug_audit.specs.Stopping.{said}
use Rattle.ug_edge.specs.Told.{file_told}
use Rattle.ug_audit.proofs.report.read_told.Goals as goal

pub returns-in-Err-clause-stopped : goal.returns-in-Err-clause-stopped
returns-in-Err-clause-stopped g c = λ w events names is before picked.
    told_stop (said c.args.words.now) (file_told (g.E.Source.files c.args.site.now)) names (g.E.Source.picks c.args.site.now).names (g.E.Source.picks c.read_lines.new.site).names w c.args.last.now events c.in-Err.stop is before picked
    c.in-Err.ensures.stopped
