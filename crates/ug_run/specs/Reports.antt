-- What an auditor has to read in the report of a run.
use Rattle.std.specs.Prelude.{◌≡◌, ℕ, List}
use Rattle.ug_types.specs.declared.mark.Mark.{Mark}
use Rattle.ug_world.specs.World.{World}
use Rattle.ug_event_loop.specs.Contents.{is_lost_at}
use Rattle.ug_audit_rules.specs.declared.entry.Entry.{Entry}
use Rattle.ug_audit_rules.specs.Audited.{marks_in, is_lost_in}
use Rattle.ug_audit_rules.specs.Reports.{AreClear, entries_of}

-- The lines of a report tell these marks of `sync`, in their order, and that just these sessions were lost: `lost` has for
-- each peer the numbers of those.
pub record AreTold (told : List Entry) (syncs : List Mark) (lost : List (List ℕ)) : Type 0 where
  pub syncs_are : marks_in told ≡ syncs
  pub losses_are : (p n : ℕ) → is_lost_in told p n ≡ is_lost_at lost p n

-- The lines of the report tell that, and none of them is unclear.
pub record IsReport (last : World) (report : List ℕ) (syncs : List Mark) (lost : List (List ℕ)) : Type 0 where
  pub clear : AreClear (entries_of last report)
  pub told : AreTold (entries_of last report) syncs lost
