use Rattle.ug_audit_rules.proofs.Refuted.{heard-sound}
use Rattle.ug_audit_rules.proofs.laws.heard_is_sound.Goals as goal

pub returns : goal.returns
returns c = record { sound = λ ws last p n s syncs lost bytes messages ending read right. heard-sound ws last p n s syncs lost bytes messages ending read right }
