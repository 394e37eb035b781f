use Rattle.std.proofs.Common.{refl}
use Rattle.ug_events.proofs.path_fields.PathFields.new.Goals as goal

pub returns : goal.returns
returns c = refl
