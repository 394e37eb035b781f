use Rattle.ug_report.specs.Report.{lost_status}
use Rattle.ug_report.proofs.endings.write_lost_status.Goals as goal

pub returns : goal.returns
unfolding lost_status
returns c = rw (← c.name_at-name.ensures) c.in_ok-write.ensures.bytes
