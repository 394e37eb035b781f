use Rattle.std.proofs.Common.{rules, sym, ◌∙◌}
use denote.Enum.Bare.{same_true}
use Rattle.ug_types.specs.contracts.family.Family.{the_type}
use Rattle.ug_events.proofs.recent.ReadPaths.is_of.Goals as goal

pub returns-then-eq-clause-family : goal.returns-then-eq-clause-family
returns-then-eq-clause-family c = λ h. same_true the_type (search rules) _ _ (sym c.eq.ensures ∙ c.if-eq.true)

pub returns-else-eq-clause-family : goal.returns-else-eq-clause-family
returns-else-eq-clause-family c = λ h. absurd cc

pub returns-else-eq-clause-text : goal.returns-else-eq-clause-text
returns-else-eq-clause-text c = λ h. absurd cc
