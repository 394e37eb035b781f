use Rattle.ug_report.specs.Statuses.{malformed_text}
use Rattle.ug_report.proofs.status_lines.malformed_text.Goals as goal

pub returns : goal.returns
unfolding malformed_text
returns c = c.in_ok-format.ensures.ok
