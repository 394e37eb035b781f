-- How the last lines of a run keep what is said of them.
use Rattle.std.proofs.Common.{◌≡◌, ℕ, ◌≤◌, slice_index_or, length, arith, List, [], ◌∷◌, ◌++◌, Option, inl, inr, refl, sym, ◌∙◌, ap, subst}
use Rattle.std.specs.Prelude.{◌⊎◌}
use Rattle.ug_edge.specs.Told.{AppendsPiece}
use Rattle.ug_pieces.specs.Reporting.{AppendsFront}
use Rattle.ug_report.specs.declared.endings.Loss.{Loss}
use Rattle.ug_report.specs.Report.{name_at, lost_status, losses_status}
use Rattle.ug_commands.specs.Files.{AppendsThenStatus}
use Rattle.ug_report.specs.Statuses.{status_text}
use Rattle.ug_report.specs.declared.status.Status.{Status}
use Rattle.ug_report.specs.declared.status.Status.TheVariants as statuses
use Rattle.ug_run.specs.Ends.{last_text, IsFirst, IsConcluded}

module _ (names : List (List ℕ)) (losses : List Loss) (accepted refused : ℕ) (before held : Option (List ℕ)) (failed : Type 0) where
  abbrev Concludes : Status → Type 0
  Concludes status = IsConcluded names losses accepted refused before held failed status

  pub concluded-whole : (status : Status) → losses ≡ [] → (status ≡ statuses.Ok) ⊎ (status ≡ statuses.ReportFault)
      → (status ≡ statuses.Ok → AppendsPiece before held (last_text names losses accepted refused))
      → (status ≡ statuses.ReportFault → failed × AppendsFront before held (last_text names losses accepted refused)) → Concludes status
  concluded-whole status none (inl is) whole front = subst (λ (s : Status). Concludes s) (sym is) (none, whole is)
  concluded-whole status none (inr is) whole front = subst (λ (s : Status). Concludes s) (sym is) (front is)

  -- the status line names the first loss
  first_line : (first : Loss) → IsFirst first.peer first.session losses → losses_status names losses ≡ lost_status (name_at names first.peer) first.session
  first_line first is = ap (λ (ls : List Loss). losses_status names ls) is.1

  pub concluded-lost : (status : Status) (first : Loss) → IsFirst first.peer first.session losses
      → (status ≡ statuses.Lost first.peer first.session) ⊎ ((status ≡ statuses.ReportFault) ⊎ (status ≡ statuses.NoMemory))
      → (status ≡ statuses.Lost first.peer first.session → AppendsThenStatus before held failed (last_text names losses accepted refused) (lost_status (name_at names first.peer) first.session))
      → (status ≡ statuses.ReportFault → failed × AppendsFront before held (last_text names losses accepted refused))
      → (status ≡ statuses.NoMemory → AppendsThenStatus before held failed [] (status_text statuses.NoMemory)) → Concludes status
  concluded-lost status first is (inl lost) line front starved =
      subst (λ (s : Status). Concludes s) (sym lost)
      (is, subst (λ (t : List ℕ). AppendsThenStatus before held failed (last_text names losses accepted refused) t) (sym (first_line first is)) (line lost))
  concluded-lost status first is (inr (inl fault)) line front starved = subst (λ (s : Status). Concludes s) (sym fault) (front fault)
  concluded-lost status first is (inr (inr none)) line front starved = subst (λ (s : Status). Concludes s) (sym none) (starved none)

-- the first of some losses
pub first_rest : (losses : List Loss) (d : Loss) → 1 ≤ length losses → IsFirst (slice_index_or losses 0 d).peer (slice_index_or losses 0 d).session losses
first_rest [] d some = absurd (omega arith)
first_rest (loss ∷ losses) d some = (losses, refl)
