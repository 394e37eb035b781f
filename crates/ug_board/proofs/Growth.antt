-- Deeds of histories that grow.
use Rattle.std.proofs.Common.{◌≡◌, ℕ, Bool, true, false, List, [], ◌∷◌, ◌++◌, refl, sym, ◌∙◌, ap, append_assoc}
use Rattle.std.specs.Prelude.{filter}
use Rattle.ug_board.specs.Entry.{Entry}
use Rattle.ug_board.specs.Rules.{Rules}
use Rattle.ug_board.specs.History.{after_step, replay_from}
use Rattle.ug_board.specs.Deeds.{Each, when, step_deeds, deeds_from}

module _ {Opening State Job Said X : Type 0} (rules : Rules Opening State Job Said) (told : ℕ → State → X) where
  -- what is told of a longer history is what was told, and then what the further entries tell where they stand
  pub deeds_from-append :
      (chosen : Entry Job Said → Bool) (state : State) (old new : List (Entry Job Said))
      → deeds_from rules told chosen state (old ++ new)
      ≡ deeds_from rules told chosen state old ++ deeds_from rules told chosen (replay_from rules state old) new
  deeds_from-append chosen state [] new = refl
  deeds_from-append chosen state (entry ∷ old) new =
      ap (λ ds. when (chosen entry) (step_deeds told entry.step entry.said state) ++ ds) (deeds_from-append chosen (after_step rules entry.step state) old new)
      ∙ sym (append_assoc (when (chosen entry) (step_deeds told entry.step entry.said state)) (deeds_from rules told chosen (after_step rules entry.step state) old) (deeds_from rules told chosen (replay_from rules (after_step rules entry.step state) old) new))

  -- where the same entries are chosen the same is told
  pub deeds_from-alike :
      (chosen chosen' : Entry Job Said → Bool) (state : State) (entries : List (Entry Job Said))
      → Each (λ entry. chosen entry ≡ chosen' entry) entries
      → deeds_from rules told chosen state entries ≡ deeds_from rules told chosen' state entries
  deeds_from-alike chosen chosen' state [] alike = refl
  deeds_from-alike chosen chosen' state (entry ∷ entries) alike =
      ap (λ b. when b (step_deeds told entry.step entry.said state) ++ deeds_from rules told chosen (after_step rules entry.step state) entries) alike.0
      ∙ ap (λ ds. when (chosen' entry) (step_deeds told entry.step entry.said state) ++ ds) (deeds_from-alike chosen chosen' (after_step rules entry.step state) entries alike.1)

  others_by_case :
      (b : Bool) (chosen : Entry Job Said → Bool) (state : State) (entry : Entry Job Said) (entries : List (Entry Job Said))
      → filter chosen (entry ∷ entries) ≡ [] → chosen entry ≡ b
      → (filter chosen entries ≡ [] → deeds_from rules told chosen (after_step rules entry.step state) entries ≡ [])
      → deeds_from rules told chosen state (entry ∷ entries) ≡ []
  others_by_case true chosen state entry entries none is rest = let none' : entry ∷ filter chosen entries ≡ [] = rw is at none in cc
  others_by_case false chosen state entry entries none is rest = rw is (rest (rw is at none))

  -- entries of which none is chosen tell nothing
  pub deeds_from-others :
      (chosen : Entry Job Said → Bool) (state : State) (entries : List (Entry Job Said))
      → filter chosen entries ≡ [] → deeds_from rules told chosen state entries ≡ []
  deeds_from-others chosen state [] none = refl
  deeds_from-others chosen state (entry ∷ entries) none =
      others_by_case (chosen entry) chosen state entry entries none refl (λ rest. deeds_from-others chosen (after_step rules entry.step state) entries rest)
