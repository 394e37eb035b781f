use Rattle.ug_audit_rules.proofs.Between.{mid_none}
use Rattle.ug_audit_rules.proofs.reading.Reading.new.Goals as goal

pub returns : goal.returns
returns c = λ last ample. mid_none last (record { told = c.new.result; rest = c.new-2.result; most = c.args.most }) c.new-2.ensures.items ample c.new.ensures
