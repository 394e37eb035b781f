use Rattle.ug_hearing.proofs.Glued.{glued}
use Rattle.ug_hearing.proofs.climb_laws.changes_are_glued.Goals as goal

pub returns : goal.returns
returns c = record { glued = λ past from v told c more h k. glued past from v told c more h k }
