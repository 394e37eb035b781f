-- What jobs and replies are, without where they lie in memory.
use Rattle.std.specs.Prelude.{ℕ, ◌==◌, Bool, false, ◌&&◌, not, []}
use Rattle.ug_events.specs.Events.{IsEvent}
use Rattle.ug_events.specs.Views.{event_of}
use Rattle.ug_group_rules.specs.Machine as machine
use Rattle.ug_groups.specs.Rows.{Rows, row_at, any_at, may_format_row, may_merge_rows, must_part_row}
use Rattle.ug_groups.specs.declared.job.Work.{Work}
use Rattle.ug_groups.specs.declared.job.Work.TheVariants as works
use Rattle.ug_groups.specs.declared.said.Told.{Told}
use Rattle.ug_groups.specs.declared.said.Told.TheVariants as tolds

abbrev pub job_of : Work → machine.Job
job_of (works.Take event) = machine.Take (event_of event.value)
job_of (works.Format g) = machine.Format g
job_of (works.Merge g h) = machine.Merge g h
job_of (works.Slow g) = machine.Slow g
job_of works.Sync = machine.Sync
job_of works.Close = machine.Close

-- An event is of its form.
abbrev pub IsWork : Work → Type 0
IsWork (works.Take event) = IsEvent (event_of event.value)
IsWork (works.Format g) = Unit {0}
IsWork (works.Merge g h) = Unit {0}
IsWork (works.Slow g) = Unit {0}
IsWork works.Sync = Unit {0}
IsWork works.Close = Unit {0}

abbrev pub said_of : Told → machine.Said
said_of (tolds.Took marks) = machine.Took marks.value.items
said_of tolds.TookNone = machine.Took []
said_of (tolds.Formatted made) = machine.Formatted made
said_of tolds.Merged = machine.Merged
said_of (tolds.Moved g) = machine.Moved g
said_of (tolds.Marks marks) = machine.Marks marks.value.items
said_of tolds.Closed = machine.Closed

-- By these rows the job may be done: work that nobody asked for.
abbrev pub is_work_due : ℕ → Rows → machine.Job → Bool
is_work_due after rows (machine.Format g) = any_at may_format_row (row_at g rows)
is_work_due after rows (machine.Merge g h) = not (g == h) && any_at (λ r. any_at (λ s. may_merge_rows r s) (row_at h rows)) (row_at g rows)
is_work_due after rows (machine.Slow g) = any_at (must_part_row after) (row_at g rows)
is_work_due after rows (machine.Take e) = false
is_work_due after rows machine.Sync = false
is_work_due after rows machine.Close = false
