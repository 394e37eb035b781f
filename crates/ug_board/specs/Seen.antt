-- What a step, what was said to it, or an entry of both is behind references.
use Rattle.std.specs.Borrow.{Bor}
use Rattle.ug_board.specs.declared.steps.BoardStep.{BoardStep}
use Rattle.ug_board.specs.declared.steps.BoardStep.TheVariants.{Job as DoJob, Lane as LaneTakes}
use Rattle.ug_board.specs.declared.steps.BoardSaid.{BoardSaid}
use Rattle.ug_board.specs.declared.steps.BoardSaid.TheVariants.{Job as JobSaid, Lane as LaneGot}
use Rattle.ug_board.specs.Entry.{Entry}

abbrev pub seen_step : {J : Type 0} → BoardStep (Bor J) → BoardStep J
seen_step (DoJob job) = DoJob job.now
seen_step (LaneTakes step) = LaneTakes step

abbrev pub seen_said : {R : Type 0} → BoardSaid (Bor R) → BoardSaid R
seen_said (JobSaid said) = JobSaid said.now
seen_said (LaneGot said) = LaneGot said

abbrev pub seen_entry : {J R : Type 0} → Entry (Bor J) (Bor R) → Entry J R
seen_entry entry = record { pass = entry.pass; step = seen_step entry.step; said = seen_said entry.said }
