-- What a run over update groups counts: for each event of its history, once a group key and path, a run of the outbound rules.
use Rattle.std.specs.Prelude.{◌≡◌, ℕ, ◌+◌, ◌≤◌, ◌⊎◌, Bool, true, List, [], Ok}
use Rattle.ug_edge.specs.Told.{FileTold}
use Rattle.ug_board.specs.Entry.{Entry}
use Rattle.ug_world.specs.World.{World}
use Rattle.ug_event_loop.specs.Counts.{sum_of}
use Rattle.ug_group_rules.specs.Machine.{Job, Said}
use Rattle.ug_group_rules.specs.Rules.{group_rules, evaluations_of}
use Rattle.ug_commands.specs.Listed.{IsConfigured}

-- what the events of a history that begins in this world cost: the sum of `evaluations`, each where its event stands
abbrev pub evaluated : World → List (Entry Job Said) → ℕ
evaluated w history = sum_of group_rules evaluations_of w history

-- The counter rises by no less, and where the run completed by exactly so much.
pub record CountsAll (w : World) (completed : Bool) (history : List (Entry Job Said)) (before after : ℕ) : Type 0 where
  pub least : before + evaluated w history ≤ after
  pub exact : completed ≡ true → after ≡ before + evaluated w history

-- The same, or nothing was done, and the counter stands still.
abbrev pub CountsEvents : World → Bool → List (Entry Job Said) → ℕ → ℕ → Type 0
CountsEvents w completed history before after = ((history ≡ []) × (after ≡ before)) ⊎ CountsAll w completed history before after

-- The same, in the world of a configuration.
abbrev pub CountsRun : FileTold → Bool → List (Entry Job Said) → ℕ → ℕ → Type 0
CountsRun config completed history before after =
    ((history ≡ []) × (after ≡ before)) ⊎ ((w : World) × IsConfigured config (Ok w) × CountsAll w completed history before after)
