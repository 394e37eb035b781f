-- How a listing of groups keeps its promise, whatever its end.
use Rattle.std.proofs.Common.{◌≡◌, ℕ, List, [], Option, subst}
use Rattle.std.specs.List.{concat}
use Rattle.std.proofs.lemmas.List.{append-nil}
use Rattle.ug_edge.specs.Told.{AppendsPiece, HasPicked, FileText, file_told}
use Rattle.ug_pieces.specs.Reporting.{AppendsFront}
use Rattle.ug_config.specs.Reads.{Reads}
use Rattle.ug_world.specs.World.{World}
use Rattle.ug_commands.specs.Texts.{group_lines}
use Rattle.ug_commands.specs.Grouped.{IsWholly, IsGrouped, HasEnded}
use Rattle.ug_commands.specs.declared.stop.Stop.TheVariants as stops
use Rattle.ug_commands.specs.Files.{IsPartOf, AppendsThenStatus}
use Rattle.ug_report.specs.Statuses.{status_text}
use Rattle.ug_commands.specs.Listed.{IsConfigured, IsListed}
use Rattle.ug_report.specs.declared.status.Status.TheVariants as statuses
use Rattle.ug_commands.proofs.Ends.{rest_of, part_read, no_rest, then_status, no_status, no_line}

pub configured : (files : Option (List FileText)) (name : List ℕ) (left now : Option (List ℕ)) (x : Reads World) → HasPicked files name left → IsWholly left now x → IsConfigured (file_told files name) x
configured files name left now x picked h = record {
  read = h.read;
  is_part = subst (λ (r : List ℕ). IsPartOf (file_told files name) h.read r) (no_rest now h.so.0) (part_read files name left now h.read picked h.taken);
  within = h.so.1;
  is = h.so.2;
}

unchanged : (before mid held : Option (List ℕ)) (failed : Type 0) (line : List ℕ) → mid ≡ before → AppendsThenStatus mid held failed [] line → AppendsThenStatus before held failed [] line
unchanged before mid held failed line same h = subst (λ (m : Option (List ℕ)). AppendsThenStatus m held failed [] line) same h

pub listed_ok : (files : Option (List FileText)) (name : List ℕ) (left now before mid held : Option (List ℕ)) (failed : Type 0) → HasPicked files name left
    → IsGrouped left now (AppendsPiece before mid) → AppendsThenStatus mid held failed [] (status_text statuses.Ok) → IsListed (file_told files name) statuses.Ok before held failed
unfolding status_text
listed_ok files name left now before mid held failed picked h line =
    let text = concat (group_lines h.0) in
    (h.0, configured files name left now _ picked h.1, subst (λ (t : List ℕ). AppendsPiece before held t) (append-nil text) (no_line before held failed text (then_status before mid held failed text [] h.2 line)))

pub listed_report : (files : Option (List FileText)) (name : List ℕ) (left now before mid held : Option (List ℕ)) (failed : Type 0) → HasPicked files name left
    → HasEnded stops.Report left now before mid → AppendsThenStatus mid held failed [] (status_text statuses.ReportFault) → IsListed (file_told files name) statuses.ReportFault before held failed
unfolding status_text
listed_report files name left now before mid held failed picked h line =
    (h.0, configured files name left now _ picked h.1, no_status before mid held failed (concat (group_lines h.0)) h.2 line)

pub listed_limit : (files : Option (List FileText)) (name : List ℕ) (left now before mid held : Option (List ℕ)) (failed : Type 0) → HasPicked files name left
    → HasEnded stops.TooLong left now before mid → AppendsThenStatus mid held failed [] (status_text statuses.TooLong) → IsListed (file_told files name) statuses.TooLong before held failed
listed_limit files name left now before mid held failed picked h line =
    (record { read = h.0.read; rest = rest_of now; is_part = part_read files name left now h.0.read picked h.0.taken; past = h.0.so }, unchanged before mid held failed _ h.1 line)
