use Rattle.ug_audit_rules.proofs.Following.{course}
use Rattle.ug_audit_rules.proofs.spanned.spans_are_courses.Goals as goal

pub returns : goal.returns
returns c = λ entries p n ws from to log span. course entries p n ws from to log span
