use Rattle.ug_audit_rules.proofs.Refuted.{refuted}
use Rattle.ug_audit_rules.proofs.laws.breach_refutes.Goals as goal

pub returns : goal.returns
returns c = record { refuted = λ ws last p n s syncs lost bytes messages ending b read is sound. refuted ws last p n s syncs lost bytes messages ending read sound b is }
