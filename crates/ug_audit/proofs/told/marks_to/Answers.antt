use Rattle.std.proofs.Common.{rules}
use Rattle.std.proofs.lemmas.List.Sorted.{IsNonDecreasingBy-from_sort_by_key}
use Rattle.ug_types.specs.declared.mark.Mark.{Mark}
use Rattle.ug_audit.proofs.told.marks_to.Goals as goal

pub returns-clause-rise : goal.returns-clause-rise
returns-clause-rise c = IsNonDecreasingBy-from_sort_by_key (λ (m : Mark). m.handed) _ c.in_ok-sort_by_key.ensures.sorted (λ a r q k. search rules)
