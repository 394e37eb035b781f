use Rattle.ug_audit.specs.Stopping.{said}
use Rattle.ug_audit.proofs.auditing.audit_files.Goals as goal

pub returns-in-Err-clause-audited : goal.returns-in-Err-clause-audited
returns-in-Err-clause-audited g c =
    c.end_stopped.ensures.ended (said c.args.words.now) (g.E.Source.files c.args.site.now) (g.E.Source.picks c.args.site.now).names (g.E.Source.picks c.certificate_of.new.site).names c.in-Err.ensures.stopped
