use Rattle.std.proofs.Common.{not, rules}
use Rattle.std.proofs.lemmas.Map.Made.{filter_same_pairs}
use Rattle.ug_check.specs.Stored.{is_stale}
use Rattle.ug_check.proofs.rows.sweep.Goals as goal

pub returns-clause-rows : goal.returns-clause-rows
returns-clause-rows g c = filter_same_pairs _ (λ e. not (is_stale c.args.refreshes e.1)) _ (λ k v b w f' t. search rules) _ _ c.retain.ensures.filtered
