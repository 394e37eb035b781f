-- A run as contracts see it: what stands outside before it and behind it, and what it gives back.
use Rattle.std.specs.Prelude.{ℕ, Bool, List, Option}
use Rattle.ug_edge.specs.Told.{FileText, Picks, Rose, WireName, WiresMade}
use Rattle.ug_board.specs.Entry.{Entry}
use Rattle.ug_report.specs.declared.status.Status.{Status}
use Rattle.ug_event_loop.specs.Contents.{WireTold}

-- What stands outside before a run: of the site its files, its picks and the wires that it made until then; what the report
-- holds, and how often a call of it failed.
pub record Before : Type 0 where
  pub files : Option (List FileText)
  pub picks : Picks
  pub made : WiresMade
  pub held : Option (List ℕ)
  pub faults : ℕ

-- The same behind it, and what is left of the file that was picked last.
pub record After : Type 0 where
  pub picks : Picks
  pub left : Option (List ℕ)
  pub made : WiresMade
  pub held : Option (List ℕ)
  pub faults : ℕ

-- A run: what was before it and is behind it, how it ended, its wires and for whom the site made each, what was done, step by
-- step, and whether its board was spent.
pub record RunTold (Job Said : Type 0) : Type 0 where
  pub before : Before
  pub after : After
  pub status : Status
  pub wires : List WireTold
  pub made_for : List WireName
  pub history : List (Entry Job Said)
  pub spent : Bool

-- A call of the report failed.
abbrev pub HasFailed : {Job Said : Type 0} → RunTold Job Said → Type 0
HasFailed run = Rose run.before.faults run.after.faults

-- the same run, with these picks before it
abbrev pub picked_before : {Job Said : Type 0} → Picks → RunTold Job Said → RunTold Job Said
picked_before picks run = record run { before = record run.before { picks = picks } }
