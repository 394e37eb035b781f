-- The losses that a history tells.
use Rattle.std.specs.Prelude.{ℕ, ◌==◌, List, [], ◌∷◌}
use Rattle.std.specs.List.{flat_map}
use Rattle.ug_board.specs.declared.steps.BoardStep.{BoardStep}
use Rattle.ug_board.specs.declared.steps.BoardStep.TheVariants.{Job as DoJob, Lane as LaneTakes}
use Rattle.ug_board.specs.declared.steps.LaneStep.{LaneStep}
use Rattle.ug_board.specs.declared.steps.LaneStep.TheVariants.{Next, Lost}
use Rattle.ug_board.specs.Entry.{Entry}
use Rattle.ug_board.specs.Deeds.{when}
use Rattle.ug_report.specs.declared.endings.Loss.{Loss}

abbrev pub loss_by : LaneStep → List Loss
loss_by (Next peer) = []
loss_by (Lost peer session) = record { peer = peer; session = session } ∷ []

-- the loss that a step notes, where it notes one
abbrev pub loss_in : {J : Type 0} → BoardStep J → List Loss
loss_in (DoJob job) = []
loss_in (LaneTakes step) = loss_by step

-- the losses of a history, as they come in it
abbrev pub losses_told : {J R : Type 0} → List (Entry J R) → List Loss
losses_told {J} {R} history = flat_map (λ (entry : Entry J R). loss_in entry.step) history

-- those of a peer
abbrev pub loss_to : ℕ → Loss → List Loss
loss_to p loss = when (loss.peer == p) (loss ∷ [])

abbrev pub losses_to : ℕ → List Loss → List Loss
losses_to p losses = flat_map (loss_to p) losses
