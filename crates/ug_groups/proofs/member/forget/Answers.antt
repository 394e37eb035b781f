use Rattle.std.proofs.Common.{rules}
use Rattle.std.proofs.lemmas.Fn.{filter_same}
use Rattle.ug_groups.proofs.member.forget.Goals as goal

pub returns-clause-unlost : goal.returns-clause-unlost
returns-clause-unlost c = filter_same _ _ _ (λ x b f' k. search rules) _ _ c.retain.ensures.items
