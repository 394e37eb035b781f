-- How an audit that stopped ends.
use Rattle.std.proofs.Common.{◌≡◌, ℕ, ◌⊎◌, inl, inr, List, [], ◌∷◌, Option, sym, subst, ◌∙◌}
use Rattle.ug_edge.specs.Told.{FileTold, AppendsPiece}
use Rattle.ug_pieces.specs.Reporting.{AppendsFront}
use Rattle.ug_audit.specs.Texts.{unclear_text}
use Rattle.ug_commands.specs.Words.{AuditCommand}
use Rattle.ug_commands.specs.Files.{AppendsThenStatus}
use Rattle.ug_report.specs.declared.status.Status.{Status}
use Rattle.ug_report.specs.declared.status.Status.TheVariants as statuses
use Rattle.ug_report.specs.Statuses.{status_text}
use Rattle.ug_audit.specs.Auditing.{IsAuditing, IsRight, IsStarved}
use Rattle.ug_audit.specs.declared.stop.Stop.{Stop}
use Rattle.ug_audit.specs.declared.stop.Stop.TheVariants as stops
use Rattle.ug_audit.specs.Stopping.{IsStopped}

module _ (command : AuditCommand) (files : List ℕ → FileTold) (picks : List (List ℕ) → Type 0) (before held : Option (List ℕ)) (failed : Type 0) where
  -- of the certificate something else holds
  pub certified : (P Q : List ℕ → Type 0) → ((text : List ℕ) → P text → Q text) → IsRight command files picks P → IsRight command files picks Q
  certified P Q f h = record { w = h.w; events = h.events; report = h.report; text = h.text; before = h.before; right = h.right; picked = h.picked; so = f h.text h.so }

  abbrev Told : Status → Type 0
  Told status = AppendsThenStatus before held failed [] (status_text status)

  abbrev Audits : Status → Type 0
  Audits status = IsAuditing command files picks status before held failed

  pub ended_read : (stop : Stop) (status : Status) → stop ≡ stops.Read → status ≡ statuses.ReadFault → IsStopped command files picks stop → Told statuses.ReadFault → Audits status
  ended_read stop status is so h line = subst Audits (sym so) (subst (IsStopped command files picks) is h, line)

  pub ended_memory : (stop : Stop) (status : Status) → stop ≡ stops.NoMemory → status ≡ statuses.NoMemory → IsStopped command files picks stop → Told statuses.NoMemory → Audits status
  ended_memory stop status is so h line = subst Audits (sym so) (subst (IsStopped command files picks) is h, line)

  pub ended_limit : (stop : Stop) (status : Status) → stop ≡ stops.TooLong → status ≡ statuses.TooLong → IsStopped command files picks stop → Told statuses.TooLong → Audits status
  ended_limit stop status is so h line = subst Audits (sym so) (subst (IsStopped command files picks) is h, line)

  pub ended_unclear : (stop : Stop) (status : Status) (line : ℕ) → stop ≡ stops.Unclear line → (status ≡ statuses.Unclear line) ⊎ (status ≡ statuses.NoMemory) → (status ≡ statuses.Unclear line → AppendsThenStatus before held failed [] (unclear_text line))
      → (status ≡ statuses.NoMemory → Told statuses.NoMemory) → IsStopped command files picks stop → Audits status
  ended_unclear stop status line is (inl so) told starved h = subst Audits (sym so) (subst (IsStopped command files picks) is h, told so)
  ended_unclear stop status line is (inr so) told starved h =
      (let k = subst (IsStopped command files picks) is h in subst Audits (sym so) (IsStarved.Report k.w k.events k.before k.picked, starved so))

  pub ended_right : (status : Status) (text : List ℕ) → (status ≡ statuses.Ok) ⊎ (status ≡ statuses.ReportFault) → (status ≡ statuses.Ok → AppendsPiece before held text) → (status ≡ statuses.ReportFault → AppendsFront before held text)
      → IsRight command files picks (λ (certificate : List ℕ). text ≡ certificate) → Audits status
  ended_right status text (inl so) whole front h =
      subst Audits (sym so) (certified (λ (certificate : List ℕ). text ≡ certificate) (AppendsPiece before held) (λ l same. subst (AppendsPiece before held) same (whole so)) h)
  ended_right status text (inr so) whole front h =
      subst Audits (sym so) (certified (λ (certificate : List ℕ). text ≡ certificate) (AppendsFront before held) (λ l same. subst (AppendsFront before held) same (front so)) h)
