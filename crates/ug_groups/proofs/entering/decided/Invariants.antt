use Rattle.ug_outbound.specs.declared.key.GroupKey.{GroupKey}
use Rattle.ug_world.specs.Touches.{decides_for}
use Rattle.ug_groups.specs.Rows.{keys_in}
use Rattle.ug_groups.proofs.Walked.{AreKept}
use Rattle.ug_groups.proofs.entering.decided.Given as goal

-- those so far
abbrev pub invariant-loop-g : goal.invariant-loop-g
invariant-loop-g l = AreKept (λ (key : GroupKey). decides_for l.world.tables key l.name) l.some.items l.subgroups (keys_in l.subgroups) l.g-index
