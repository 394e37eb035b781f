use Rattle.ug_policy.proofs.KeptSegments.{prepended_kept, overridden_kept, without_private_kept}
use Rattle.ug_policy.proofs.path_laws.edits_keep_segments.Goals as goal

pub returns-clause-prepended : goal.returns-clause-prepended
returns-clause-prepended c = prepended_kept

pub returns-clause-overridden : goal.returns-clause-overridden
returns-clause-overridden c = overridden_kept

pub returns-clause-without_private : goal.returns-clause-without_private
returns-clause-without_private c = without_private_kept
