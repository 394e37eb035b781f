-- A run of which the caller is told the status alone.
use Rattle.std.specs.Prelude.{◌≡◌, ℕ, Bool, List, Option}
use Rattle.ug_board.specs.Entry.{Entry}
use Rattle.ug_report.specs.declared.status.Status.{Status}
use Rattle.ug_report.specs.Report.{names_in}
use Rattle.ug_config.specs.One.{one_world}
use Rattle.ug_commands.specs.Words.{OneCommand}
use Rattle.ug_group_rules.specs.Machine.{Job, Said}
use Rattle.ug_group_rules.specs.Rules.{group_rules, group_speech}
use Rattle.ug_run.specs.Wires.{AreMadeFor}
use Rattle.ug_run.specs.Told.{Before, After, RunTold}
use Rattle.ug_run.specs.Commands.{IsOne}
use Rattle.ug_run.specs.Drawn.{IsSelfRun}

-- Some run with this before it and behind it came to this status, of which it holds.
abbrev pub Ran : Before → After → Status → (RunTold Job Said → Type 0) → Type 0
Ran before after status holds = (run : RunTold Job Said) × (run.before ≡ before) × (run.after ≡ after) × (run.status ≡ status) × holds run

-- A run of `one`, whose wires are all that the site made, each for its peer, in the folder of the command.
abbrev pub IsOneRun : OneCommand → RunTold Job Said → Type 0
IsOneRun command run =
    IsOne group_rules group_speech command.events run × AreMadeFor run.before.made run.after.made command.dir (names_in one_world) run.made_for

-- Some run of `selfrun` came to this status, and to this report.
abbrev pub HasDrawn : ℕ → Status → Option (List ℕ) → Option (List ℕ) → Type 0 → Type 0
HasDrawn number status before held failed =
    (history : List (Entry Job Said)) × (spent : Bool) × IsSelfRun group_rules group_speech number status history spent before held failed
