use Rattle.std.proofs.Common.{◌≡◌, true}
use Rattle.ug_text.proofs.Pieces.{size_left}
use Rattle.ug_events.specs.Events.{AreGiven, is_some_path}
use Rattle.ug_events.specs.Reads.{each_read, behind_read}
use Rattle.ug_events.specs.Words.{words}
use Rattle.ug_events.specs.Paths.{path_of, paths_of}
use Rattle.ug_events.specs.SeenFields.{runs_in}
use Rattle.ug_events.proofs.paths.read_paths.Given as goal

-- the paths so far and those of the runs that are left
abbrev pub invariant-loop-left : goal.invariant-loop-left
invariant-loop-left l = record {
  all : behind_read l.paths.items (each_read (path_of l.family) (runs_in l.left)) ≡ paths_of l.family (words l.rest);
  given : AreGiven l.paths.items;
  some : is_some_path l.paths.items ≡ true;
}

abbrev pub decreases-loop-left : goal.decreases-loop-left
decreases-loop-left l = size_left l.left
