use Rattle.std.proofs.Common.{inl, inr}
use Rattle.ug_audit_rules.proofs.seat.place_for.Goals as goal

pub returns-in_default-clause-same : goal.returns-in_default-clause-same
returns-in_default-clause-same g c = inl c.in_default.is

pub returns-clause-same : goal.returns-clause-same
returns-clause-same g c = inr c.in-Some.is
