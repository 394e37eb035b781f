-- How a check keeps its promise, whatever its end.
use Rattle.std.proofs.Common.{◌≡◌, ℕ, Bool, true, false, List, [], Option, inl, inr, sym, subst}
use Rattle.std.specs.Prelude.{◌⊎◌}
use Rattle.std.specs.List.{concat}
use Rattle.std.proofs.lemmas.List.{append-nil}
use Rattle.ug_edge.specs.Told.{AppendsPiece, HasPicked, FileText, FileTold, file_told}
use Rattle.ug_pieces.specs.Reporting.{AppendsFront}
use Rattle.ug_check.specs.Checks.{HasStopped, IsDone, HasEnded, IsReportedUntil}
use Rattle.ug_check.specs.declared.stop.Stop.{Stop}
use Rattle.ug_check.specs.declared.stop.Stop.TheVariants as stops
use Rattle.ug_commands.specs.Words.{CheckCommand}
use Rattle.ug_commands.specs.Files.{IsPartOf, AppendsThenStatus}
use Rattle.ug_report.specs.Statuses.{status_text}
use Rattle.ug_commands.specs.Checked.{IsWhole, IsCutShort, AppendsLinesThenStatus, IsChecked}
use Rattle.ug_report.specs.declared.status.Status.{Status}
use Rattle.ug_report.specs.declared.status.Status.TheVariants as statuses
use Rattle.ug_commands.proofs.Ends.{rest_of, part_read, agrees_read, no_rest, then_status, no_status, no_line}

whole : (command : CheckCommand) (files : Option (List FileText)) (name : List ℕ) (left now : Option (List ℕ)) (P Q : List (List ℕ) → Type 0)
    → HasPicked files name left → ((lines : List (List ℕ)) → P lines → Q lines) → IsDone command.session left now P → IsWhole command (file_told files name) Q
whole command files name left now P Q picked f h = record {
  read = h.read;
  is_part = subst (λ (r : List ℕ). IsPartOf (file_told files name) h.read r) (no_rest now h.ended) (part_read files name left now h.read picked h.taken);
  within = h.within;
  texts = h.texts;
  messages = h.messages;
  rest = h.rest;
  rows = h.rows;
  decoded = h.decoded;
  report = f _ h.report;
}

cut : (command : CheckCommand) (files : Option (List FileText)) (name : List ℕ) (left now : Option (List ℕ)) (is_open : Bool) (stop : Stop)
    → HasPicked files name left → is_open ≡ true → HasStopped stop command.session left now → IsCutShort command (file_told files name) is_open now stop
cut command files name left now is_open stop picked now_picked h =
    record { read = h.read; rest = rest_of now; is_part = part_read files name left now h.read picked h.taken; agrees = agrees_read is_open now h.read now_picked; cause = h.cause }

unchanged : (before mid held : Option (List ℕ)) (failed : Type 0) (line : List ℕ) → mid ≡ before → AppendsThenStatus mid held failed [] line → AppendsThenStatus before held failed [] line
unchanged before mid held failed line same h = subst (λ (m : Option (List ℕ)). AppendsThenStatus m held failed [] line) same h

pub checked_ok : (command : CheckCommand) (files : Option (List FileText)) (name : List ℕ) (left now before mid held : Option (List ℕ)) (is_open : Bool) (failed : Type 0) → HasPicked files name left → is_open ≡ true
    → IsDone command.session left now (λ lines. AppendsPiece before mid (concat lines)) → AppendsThenStatus mid held failed [] (status_text statuses.Ok) → IsChecked command (file_told files name) is_open now statuses.Ok before held failed
unfolding status_text
checked_ok command files name left now before mid held is_open failed picked now_picked done line =
    whole command files name left now (λ lines. AppendsPiece before mid (concat lines)) (λ lines. AppendsPiece before held (concat lines)) picked
    (λ lines piece. subst (λ (t : List ℕ). AppendsPiece before held t) (append-nil (concat lines)) (no_line before held failed (concat lines) (then_status before mid held failed (concat lines) [] piece line))) done

pub checked_report : (command : CheckCommand) (files : Option (List FileText)) (name : List ℕ) (left now before mid held : Option (List ℕ)) (is_open : Bool) (failed : Type 0) → HasPicked files name left → is_open ≡ true
    → HasEnded stops.Report command.session left now before mid → AppendsThenStatus mid held failed [] (status_text statuses.ReportFault) → IsChecked command (file_told files name) is_open now statuses.ReportFault before held failed
unfolding status_text
checked_report command files name left now before mid held is_open failed picked now_picked (inl h) line = absurd h.0.cause
checked_report command files name left now before mid held is_open failed picked now_picked (inr h) line =
    whole command files name left now (IsReportedUntil stops.Report before mid) (λ lines. AppendsFront before held (concat lines)) picked (λ lines front. no_status before mid held failed (concat lines) front line) h

pub checked_memory : (command : CheckCommand) (files : Option (List FileText)) (name : List ℕ) (left now before mid held : Option (List ℕ)) (is_open : Bool) (failed : Type 0) → HasPicked files name left → is_open ≡ true
    → HasEnded stops.NoMemory command.session left now before mid → AppendsThenStatus mid held failed [] (status_text statuses.NoMemory) → IsChecked command (file_told files name) is_open now statuses.NoMemory before held failed
checked_memory command files name left now before mid held is_open failed picked now_picked (inl h) line = inl (unchanged before mid held failed _ h.1 line)
checked_memory command files name left now before mid held is_open failed picked now_picked (inr h) line =
    inr (whole command files name left now (IsReportedUntil stops.NoMemory before mid) (AppendsLinesThenStatus before held failed (status_text statuses.NoMemory)) picked
    (λ lines added. (added.0, added.1, added.2, then_status before mid held failed (concat added.0) _ added.3 line)) h)

pub checked_limit : (command : CheckCommand) (files : Option (List FileText)) (name : List ℕ) (left now before mid held : Option (List ℕ)) (is_open : Bool) (failed : Type 0) → HasPicked files name left → is_open ≡ true
    → HasEnded stops.TooLong command.session left now before mid → AppendsThenStatus mid held failed [] (status_text statuses.TooLong) → IsChecked command (file_told files name) is_open now statuses.TooLong before held failed
checked_limit command files name left now before mid held is_open failed picked now_picked (inl h) line = (cut command files name left now is_open stops.TooLong picked now_picked h.0, unchanged before mid held failed _ h.1 line)
checked_limit command files name left now before mid held is_open failed picked now_picked (inr h) line = absurd h.report

pub checked_fault : (command : CheckCommand) (files : Option (List FileText)) (name : List ℕ) (left now before mid held : Option (List ℕ)) (is_open : Bool) (failed : Type 0) (cause offset : ℕ) (status : Status) → HasPicked files name left → is_open ≡ true
    → HasEnded (stops.Malformed cause offset) command.session left now before mid → (status ≡ statuses.Malformed cause offset) ⊎ (status ≡ statuses.NoMemory)
    → AppendsThenStatus mid held failed [] (status_text status) → IsChecked command (file_told files name) is_open now status before held failed
checked_fault command files name left now before mid held is_open failed cause offset status picked now_picked (inr h) is line = absurd h.report
checked_fault command files name left now before mid held is_open failed cause offset status picked now_picked (inl h) (inl is) line =
    subst (λ (s : Status). IsChecked command (file_told files name) is_open now s before held failed) (sym is)
    (cut command files name left now is_open (stops.Malformed cause offset) picked now_picked h.0, unchanged before mid held failed _ h.1 (subst (λ (s : Status). AppendsThenStatus mid held failed [] (status_text s)) is line))
checked_fault command files name left now before mid held is_open failed cause offset status picked now_picked (inl h) (inr is) line =
    subst (λ (s : Status). IsChecked command (file_told files name) is_open now s before held failed) (sym is)
    (inl (unchanged before mid held failed _ h.1 (subst (λ (s : Status). AppendsThenStatus mid held failed [] (status_text s)) is line)))

pub checked_unread : (command : CheckCommand) (files : Option (List FileText)) (name : List ℕ) (left now before mid held : Option (List ℕ)) (is_open : Bool) (failed : Type 0) → HasPicked files name left → is_open ≡ true
    → HasEnded stops.Read command.session left now before mid → AppendsThenStatus mid held failed [] (status_text statuses.ReadFault) → IsChecked command (file_told files name) is_open now statuses.ReadFault before held failed
checked_unread command files name left now before mid held is_open failed picked now_picked (inl h) line = (inr (cut command files name left now is_open stops.Read picked now_picked h.0), unchanged before mid held failed _ h.1 line)
checked_unread command files name left now before mid held is_open failed picked now_picked (inr h) line = absurd h.report

-- no file was picked
pub checked_unbegun : (command : CheckCommand) (file : FileTold) (left before held : Option (List ℕ)) (is_open : Bool) (failed : Type 0) (status : Status) → is_open ≡ false → (status ≡ statuses.ReadFault) ⊎ (status ≡ statuses.NoMemory)
    → AppendsThenStatus before held failed [] (status_text status) → IsChecked command file is_open left status before held failed
checked_unbegun command file left before held is_open failed status not_picked (inl is) line =
    subst (λ (s : Status). IsChecked command file is_open left s before held failed) (sym is) (inl not_picked, subst (λ (s : Status). AppendsThenStatus before held failed [] (status_text s)) is line)
checked_unbegun command file left before held is_open failed status not_picked (inr is) line =
    subst (λ (s : Status). IsChecked command file is_open left s before held failed) (sym is) (inl (subst (λ (s : Status). AppendsThenStatus before held failed [] (status_text s)) is line))
