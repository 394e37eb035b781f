-- What becomes of that which is lent for reading a file beside a crew.
use Rattle.std.specs.Prelude.{◌≡◌, ℕ, List, Option}
use Rattle.ug_edge.specs.Told.{FileText, Picks, WiresMade}
use Rattle.ug_board.specs.Rules.{Rules}
use Rattle.ug_speaker.specs.Speech.{Speech}
use Rattle.ug_event_loop.specs.declared.beside.Lent.{Lent}
use Rattle.ug_event_loop.specs.Reading.{Outside, IsRead, first_of}

-- by what a source and a sink tell
module _ {Opening State Job Said S E K L : Type 0} (rules : Rules Opening State Job Said) (speech : Speech Opening State Job Said)
    (left_of : E → Option (List ℕ)) (faults_of : E → ℕ) (files_of : E → Option (List FileText)) (picks_of : E → Picks) (made_of : E → WiresMade) (wire_faults_of : E → ℕ)
    (held_of : K → Option (List ℕ)) (writes_failed_of : K → ℕ) where
  -- what stands outside
  abbrev pub outside_of : Lent S E K L Job Said Opening State → Outside
  outside_of lent = record {
    left = left_of lent.source.now;
    reads_failed = faults_of lent.source.now;
    held = held_of lent.report.now;
    writes_failed = writes_failed_of lent.report.now;
    steps = lent.steps.now;
  }

  -- What was lent is given back, its reading has ended, and the files of the site, those that were picked and the wires that
  -- were made are as before.
  pub record ReadsBeside (old new : Lent S E K L Job Said Opening State) : Type 0 where
    pub reading : new.reading.ghost_name ≡ old.reading.ghost_name
    pub source : new.source.ghost_name ≡ old.source.ghost_name
    pub report : new.report.ghost_name ≡ old.report.ghost_name
    pub steps : new.steps.ghost_name ≡ old.steps.ghost_name
    pub ended : IsRead rules speech (first_of old.reading.now.first.items) old.reading.now.builder new.reading.now.builder (outside_of old) (outside_of new) new.reading.now.end
    pub files : files_of new.source.now ≡ files_of old.source.now
    pub picks : picks_of new.source.now ≡ picks_of old.source.now
    pub made : made_of new.source.now ≡ made_of old.source.now
    pub wire_faults : wire_faults_of new.source.now ≡ wire_faults_of old.source.now
