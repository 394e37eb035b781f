-- Entries as they are stored, in few bytes.
use Rattle.std.specs.Prelude.{ℕ, ◌<◌, List, [], ◌∷◌, map, slice_get, Option, Some, None}
use Rattle.ug_board.specs.declared.steps.BoardStep.TheVariants.{Job as StepJob, Lane as StepLane}
use Rattle.ug_board.specs.declared.steps.BoardSaid.TheVariants.{Job as SaidJob, Lane as SaidLane}
use Rattle.ug_board.specs.declared.steps.LaneStep.TheVariants.{Next, Lost as LostStep}
use Rattle.ug_board.specs.declared.steps.LaneSaid.TheVariants.{Begun as BegunSaid, Hand as HandSaid, Noted}
use Rattle.ug_board.specs.declared.kept.Packet.{Packet}
use Rattle.ug_board.specs.declared.kept.Kept.{Kept}
use Rattle.ug_board.specs.declared.kept.Kept.TheVariants.{Job, Begun, Hand, Beside, Lost}
use Rattle.ug_board.specs.Entry.{Entry}

module _ {J R : Type 0} where
  -- the entry of a packet that was handed out
  abbrev pub hand_entry : (pass peer session made len : ℕ) → Entry J R
  hand_entry pass peer session made len = record { pass = pass; step = StepLane (Next peer); said = SaidLane (HandSaid session made len) }

  -- the entry of a packet that stands beside; where none stands there, what is said is of no account
  abbrev pub beside_entry : ℕ → Option Packet → Entry J R
  beside_entry pass (Some packet) = hand_entry pass packet.peer packet.session packet.made packet.len
  beside_entry pass None = hand_entry pass 0 0 0 0

  -- the entry that is stored so, where these packets stand beside
  abbrev pub entry_of : List Packet → Kept J R → Entry J R
  entry_of packets (Job pass done) = record { pass = pass; step = StepJob done.value.job; said = SaidJob done.value.said }
  entry_of packets (Begun pass peer session) = record { pass = pass; step = StepLane (Next peer); said = SaidLane (BegunSaid session) }
  entry_of packets (Hand session len pass peer made) = hand_entry pass peer session made len
  entry_of packets (Beside pass place) = beside_entry pass (slice_get packets place)
  entry_of packets (Lost pass peer session) = record { pass = pass; step = StepLane (LostStep peer session); said = SaidLane Noted }

  abbrev pub entries_of : List Packet → List (Kept J R) → List (Entry J R)
  entries_of packets kept = map (entry_of packets) kept

  -- The entry stands for itself: it is no packet that stands beside.
  abbrev pub IsWhole : Kept J R → Type 0
  IsWhole (Job pass done) = Unit {0}
  IsWhole (Begun pass peer session) = Unit {0}
  IsWhole (Hand session len pass peer made) = Unit {0}
  IsWhole (Beside pass place) = ⊥
  IsWhole (Lost pass peer session) = Unit {0}

  -- A packet that stands beside is one of so many.
  abbrev pub IsWithin : ℕ → Kept J R → Type 0
  IsWithin count (Job pass done) = Unit {0}
  IsWithin count (Begun pass peer session) = Unit {0}
  IsWithin count (Hand session len pass peer made) = Unit {0}
  IsWithin count (Beside pass place) = place < count
  IsWithin count (Lost pass peer session) = Unit {0}

  abbrev pub AreWithin : ℕ → List (Kept J R) → Type 0
  AreWithin count [] = Unit {0}
  AreWithin count (kept ∷ others) = IsWithin count kept × AreWithin count others
