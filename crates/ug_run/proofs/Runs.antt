-- What a completed run promises, as an auditor sees it.
use Rattle.std.proofs.Common.{◌≡◌, ℕ, ◌<◌, ◌⊎◌, inl, inr, Bool, true, List, [], ◌∷◌, ◌++◌, length, map, Option, Some, Ok, refl, sym, ◌∙◌, ap, subst, arith}
use Rattle.std.proofs.lemmas.List.{append-nil, length-map}
use Rattle.ug_types.specs.declared.mark.Mark.{Mark}
use Rattle.ug_edge.specs.Told.{FileTold, Bytes, AppendsPiece, file_told}
use Rattle.ug_pieces.specs.Lines.{lines_of}
use Rattle.ug_board.specs.Rules.{Rules}
use Rattle.ug_board.specs.Deeds.{Each}
use Rattle.ug_events.specs.Events.{Saying}
use Rattle.ug_events.specs.Grammar.{line_of}
use Rattle.ug_events.specs.Reads.{Reads}
use Rattle.ug_world.specs.World.{World}
use Rattle.ug_world.specs.Worlds.{last_world}
use Rattle.ug_speaker.specs.Speech.{Speech}
use Rattle.ug_speaker.specs.Owes.{IsOpening}
use Rattle.ug_report.specs.declared.endings.Loss.{Loss}
use Rattle.ug_report.specs.declared.status.Status.{Status}
use Rattle.ug_report.specs.declared.status.Status.TheVariants as statuses
use Rattle.ug_report.specs.Report.{names_in, line_texts, end_text, completed_text, losses_from, losses_status}
use Rattle.std.specs.List.{concat}
use Rattle.ug_report.specs.Statuses.{row_of}
use Rattle.ug_event_loop.specs.declared.grammar.Grammar.TheVariants.{Every}
use Rattle.ug_event_loop.specs.Standing.{said_by}
use Rattle.ug_event_loop.specs.declared.grammar.Grammar.{Grammar}
use Rattle.ug_event_loop.specs.Files.{lines_read, IsPastLimits, most_lines}
use Rattle.ug_commands.specs.Files.{IsPartOf, AppendsThenStatus}
use Rattle.ug_commands.specs.Listed.{IsConfigured}
use Rattle.ug_commands.specs.Words.{RunCommand}
use Rattle.ug_event_loop.specs.Kept.{IsKept}
use Rattle.ug_run.specs.Told.{RunTold, HasFailed, picked_before}
use Rattle.ug_run.specs.Outcomes.{Course, Completes, IsOutcome, whole_text}
use Rattle.ug_run.specs.Promise.{IsEarly, IsRun}
use Rattle.ug_run.specs.Commands.{IsUnconfigured, IsConfiguredRun, IsRunOf}
use Rattle.ug_audit_rules.specs.Reports.{IsWord}
use Rattle.ug_audit_rules.specs.Lines.{said_in}
use Rattle.ug_run.specs.Files.{all_syncs, TellAll}
use Rattle.ug_run.specs.Reports.{IsReport}
use Rattle.ug_run.specs.AuditedRuns.{LeavesRight}
use Rattle.ug_run.proofs.Files.{few-bytes, few-lines, lines-are}
use Rattle.ug_run.proofs.Kept.{kept-audited}
use Rattle.ug_run.proofs.Names.{config-words}
use Rattle.ug_run.proofs.Told.{read-again}

-- ---- what the two statuses of a completed run say

-- What a report got at the end of a run that completed: its text, and a front of the status line where there is one.
abbrev HoldsText : List ℕ → List ℕ → Option (List ℕ) → Option (List ℕ) → Type 0 → Type 0
HoldsText text line before held failed = AppendsPiece before held text ⊎ AppendsThenStatus before held failed text line

module _ {Opening State Job Said : Type 0} (rules : Rules Opening State Job Said) (speech : Speech Opening State Job Said) (w : World) (grammar : Grammar) (first : List (Reads Saying)) (run : RunTold Job Said) (c : Course) where
  completes : (status : Status) → (row_of status).completed ≡ true → IsOutcome rules speech w grammar first run c status → Completes rules speech w grammar first run c
  completes statuses.Ok is h = h.complete
  completes (statuses.Lost peer session) is h = h.complete
  completes statuses.Usage is h = absurd h
  completes (statuses.Config number field) is h = absurd h
  completes statuses.ReadFault is h = absurd cc
  completes statuses.ReportFault is h = absurd cc
  completes statuses.SiteFault is h = absurd h
  completes statuses.NoMemory is h = absurd cc
  completes statuses.TooLong is h = absurd cc
  completes (statuses.Malformed cause offset) is h = absurd h
  completes (statuses.Refuted peer session kind message key) is h = absurd h
  completes (statuses.Unclear line) is h = absurd h

  reports : (status : Status) → (row_of status).completed ≡ true → IsOutcome rules speech w grammar first run c status
      → HoldsText (whole_text w c) (losses_status (names_in w) (losses_from 0 c.lost)) run.before.held run.after.held (HasFailed run)
  reports statuses.Ok is h = inl h.report
  reports (statuses.Lost peer session) is h = inr h.report
  reports statuses.Usage is h = absurd h
  reports (statuses.Config number field) is h = absurd h
  reports statuses.ReadFault is h = absurd cc
  reports statuses.ReportFault is h = absurd cc
  reports statuses.SiteFault is h = absurd h
  reports statuses.NoMemory is h = absurd cc
  reports statuses.TooLong is h = absurd cc
  reports (statuses.Malformed cause offset) is h = absurd h
  reports (statuses.Refuted peer session kind message key) is h = absurd h
  reports (statuses.Unclear line) is h = absurd h

never_early : (peers wires : ℕ) (is_open : Bool) (status : Status) → (row_of status).completed ≡ true → IsEarly peers wires is_open status → ⊥
never_early peers wires is_open statuses.Ok is h = h
never_early peers wires is_open (statuses.Lost peer session) is h = h
never_early peers wires is_open statuses.Usage is h = h
never_early peers wires is_open (statuses.Config number field) is h = h
never_early peers wires is_open statuses.ReadFault is h = cc
never_early peers wires is_open statuses.ReportFault is h = h
never_early peers wires is_open statuses.SiteFault is h = cc
never_early peers wires is_open statuses.NoMemory is h = cc
never_early peers wires is_open statuses.TooLong is h = h
never_early peers wires is_open (statuses.Malformed cause offset) is h = h
never_early peers wires is_open (statuses.Refuted peer session kind message key) is h = h
never_early peers wires is_open (statuses.Unclear line) is h = h

never_unset : (file : FileTold) (status : Status) → (row_of status).completed ≡ true → IsUnconfigured file status → ⊥
never_unset file statuses.Ok is h = h
never_unset file (statuses.Lost peer session) is h = h
never_unset file statuses.Usage is h = h
never_unset file (statuses.Config number field) is h = cc
never_unset file statuses.ReadFault is h = cc
never_unset file statuses.ReportFault is h = h
never_unset file statuses.SiteFault is h = h
never_unset file statuses.NoMemory is h = cc
never_unset file statuses.TooLong is h = cc
never_unset file (statuses.Malformed cause offset) is h = h
never_unset file (statuses.Refuted peer session kind message key) is h = h
never_unset file (statuses.Unclear line) is h = h

-- ---- the report

no_length : {A : Type 0} (xs : List A) → length xs ≡ 0 → xs ≡ []
no_length [] is = refl
no_length (x ∷ xs) is = absurd (omega arith)

-- The report is this text and a front of the line.
record IsTextAndFront (text line report : List ℕ) : Type 0 where
  front : List ℕ
  tail : List ℕ
  parts : line ≡ front ++ tail
  is : report ≡ text ++ front

holds : (text line report : List ℕ) (failed : Type 0) → HoldsText text line (Some []) (Some report) failed → IsTextAndFront text line report
holds text line report failed h =
    elim h [
      | inl piece ↦ record { front = []; tail = line; parts = refl; is = piece ∙ sym (append-nil text) }
      | inr then ↦ record { front = then.0; tail = then.1; parts = then.2; is = then.3 }
    ]

-- ---- a run

module _ {Opening State Job Said : Type 0} (rules : Rules Opening State Job Said) (speech : Speech Opening State Job Said)
    (w : World) (name events report : List ℕ) (run : RunTold Job Said) (events_are : file_told run.before.files name ≡ Bytes events) (empty : run.before.held ≡ Some []) (report_is : run.after.held ≡ Some report)
    (completed : (row_of run.status).completed ≡ true) (words : Each IsWord (names_in w)) (tell : TellAll run.wires)
    (is_run : IsRun rules speech w Every [] name run) where
  abbrev c : Course
  c = is_run.course

  abbrev facts : Completes rules speech w Every [] run c
  facts = completes rules speech w Every [] run c run.status completed is_run.outcome

  no_first : c.ahead_marks ≡ []
  no_first = no_length c.ahead_marks (is_run.aligned ∙ ap (λ (ls : List (Reads Saying)). length ls) facts.all_ahead)

  read_all : c.read ≡ events
  read_all = sym (append-nil c.read) ∙ (ap (λ (rest : List ℕ). c.read ++ rest) (sym facts.whole) ∙ sym (subst (λ (f : FileTold). IsPartOf f c.read c.rest) events_are is_run.file.is_part))

  within : IsPastLimits events → ⊥
  within = subst (λ (bytes : List ℕ). IsPastLimits bytes → ⊥) read_all facts.within

  lines_are : c.lines ≡ said_in events
  lines_are = facts.all ∙ (ap (λ (bytes : List ℕ). map (said_by Every) (lines_read true bytes)) read_all ∙ lines-are events within)

  abbrev lines : List (Reads Saying)
  lines = said_in events

  kept : IsKept w lines c.marks true run.wires c.contents c.lost
  kept =
      subst (λ (ls : List (Reads Saying)). IsKept w ls c.marks true run.wires c.contents c.lost) lines_are
      (subst (λ (ms : List (List Mark)). IsKept w c.lines (ms ++ c.marks) true run.wires c.contents c.lost) no_first
      (subst (λ (ls : List (Reads Saying)). IsKept w (ls ++ c.lines) (c.ahead_marks ++ c.marks) true run.wires c.contents c.lost) facts.all_ahead facts.kept))

  opens : IsOpening w
  opens = subst (λ (v : World). IsOpening v) facts.done.begins facts.done.closed.opens

  few : length lines < 18446744073709551616
  unfolding most_lines
  few =
      let size = length-map (lines_of events) line_of in
      let most = few-lines events within in
      omega (arith, size, most)

  abbrev losses : List Loss
  losses = losses_from 0 c.lost

  abbrev line : List ℕ
  line = losses_status (names_in w) losses

  text_is : whole_text w c ≡ completed_text w lines c.marks losses
  text_is =
      ap (λ (ls : List (Reads Saying)). concat (line_texts (names_in w) 1 (last_world w ls) c.lines c.marks) ++ end_text (names_in w) (last_world w ls) c.lines losses) facts.all_ahead
      ∙ ap (λ (ls : List (Reads Saying)). completed_text w ls c.marks losses) lines_are

  holds_text : IsTextAndFront (completed_text w lines c.marks losses) line report
  holds_text =
      holds (completed_text w lines c.marks losses) line report (HasFailed run)
      (subst (λ (t : List ℕ). HoldsText t line (Some []) (Some report) (HasFailed run)) text_is
      (subst (λ (h : Option (List ℕ)). HoldsText (whole_text w c) line (Some []) h (HasFailed run)) report_is
      (subst (λ (h : Option (List ℕ)). HoldsText (whole_text w c) line h run.after.held (HasFailed run)) empty
      (reports rules speech w Every [] run c run.status completed is_run.outcome))))

  is_report : IsReport (last_world w lines) report (all_syncs lines c.marks) c.lost
  is_report =
      let text = holds_text in
      subst (λ (r : List ℕ). IsReport (last_world w lines) r (all_syncs lines c.marks) c.lost) (sym text.is)
      (read-again w lines c.marks run.wires c.contents c.lost opens words few facts.counts kept text.front text.tail text.parts)

  pub leaves-right : LeavesRight w events report run.wires
  leaves-right =
      let version : w.version ≡ 0 = ap (λ (v : World). v.version) opens.first in
      record {
        few_bytes = few-bytes events within;
        few_lines = few-lines events within;
        clear = is_report.clear;
        audited = kept-audited w lines c.marks run.wires c.contents c.lost _ version tell kept is_report.told;
      }

-- ---- the command

module _ {Opening State Job Said : Type 0} (rules : Rules Opening State Job Said) (speech : Speech Opening State Job Said)
    (command : RunCommand) (configuration events report : List ℕ) (run : RunTold Job Said) (config_is : file_told run.before.files command.config ≡ Bytes configuration) (events_are : file_told run.before.files command.events ≡ Bytes events)
    (empty : run.before.held ≡ Some []) (report_is : run.after.held ≡ Some report) (completed : (row_of run.status).completed ≡ true) (tell : TellAll run.wires) where
  abbrev Right : Type 0
  Right = (w : World) × IsConfigured (Bytes configuration) (Ok w) × LeavesRight w events report run.wires

  configured_right : IsConfiguredRun rules speech command run → Right
  configured_right is_run =
      let is : IsConfigured (Bytes configuration) (Ok is_run.world) = subst (λ (f : FileTold). IsConfigured f (Ok is_run.world)) config_is is_run.configured in
      let bytes : is.read ≡ configuration = sym (append-nil is.read) ∙ sym is.is_part in
      let words = config-words is.read is_run.world is.is in
      elim is_run.promised [
        | inl early ↦ absurd (never_early (length is_run.world.peers) (length run.wires) run.after.picks.is_open run.status completed early.early)
        | inr begun ↦ (
          is_run.world,
          is,
          leaves-right rules speech is_run.world command.events events report (picked_before is_run.then_picks run) events_are empty report_is completed words tell begun.1,
        )
      ]

  pub run-right : IsRunOf rules speech command run → Right
  run-right h = elim h [ inl unset ↦ absurd (never_unset (file_told run.before.files command.config) run.status completed unset.cause) | inr is_run ↦ configured_right is_run ]
