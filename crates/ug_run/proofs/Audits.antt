-- How an audit of files that are right may end.
use Rattle.std.proofs.Common.{◌≡◌, ℕ, zero, suc, ◌==◌, Bool, true, false, List, [], ◌∷◌, ◌++◌, length, map, Option, Some, Ok, Err, refl, sym, ◌∙◌, ap, subst, append_assoc}
use Rattle.std.specs.Prelude.{nat_le, take, drop, if◌then◌else◌}
use Rattle.std.proofs.lemmas.List.{append-nil, map-append, take-append-drop}
use Rattle.ug_edge.specs.Told.{FileText, file_named, missing_or_bytes, file_told}
use Rattle.ug_pieces.specs.Lines.{ended_from, rest_from, where_some, lines_of}
use Rattle.ug_world.specs.World.{World}
use Rattle.ug_config.specs.Worlds.{config}
use Rattle.ug_report.specs.declared.status.Status.{Status}
use Rattle.ug_report.specs.declared.status.Status.TheVariants as statuses
use Rattle.ug_commands.specs.Words.{AuditCommand}
use Rattle.ug_audit_rules.specs.declared.entry.Entry.{Entry}
use Rattle.ug_audit_rules.specs.declared.entry.Entry.TheVariants.{Unclear}
use Rattle.ug_audit_rules.specs.Reports.{entry_of, entries_of, AreClear}
use Rattle.ug_audit_rules.specs.Told.{most_lines}
use Rattle.ug_audit_rules.specs.Reading.{most_bytes}
use Rattle.ug_audit.specs.Files.{IsFile, lines_where, lines_within}
use Rattle.ug_audit.specs.Auditing.{last_of, StandsFor, IsUnclear, IsAuditing}
use Rattle.ug_audit.specs.Right.{AreRight}
use Rattle.ug_audit.proofs.Answered.{files_wrong}
use Rattle.ug_run.specs.Sites.{IsNothingAmiss}

-- ---- what stands at the front of lines that are clear

clear_front : (es fs : List Entry) → AreClear (es ++ fs) → AreClear es
clear_front [] fs h = tt
clear_front (e ∷ es) fs h = (h.0, clear_front es fs h.1)

none_unclear : (es fs : List Entry) → AreClear (es ++ Unclear ∷ fs) → ⊥
none_unclear [] fs h = h.0
none_unclear (e ∷ es) fs h = none_unclear es fs h.1

-- the lines that end in the first bytes stand before the others
record IsFront {A : Type 0} (xs ys : List A) : Type 0 where
  more : List A
  parts : ys ≡ xs ++ more

ended_front : (n : ℕ) (front bytes : List ℕ) → IsFront (ended_from front (take n bytes)) (ended_from front bytes)
unfolding ended_from
ended_front zero front bytes = record { more = ended_from front bytes; parts = refl }
ended_front (suc n) front [] = record { more = []; parts = refl }
ended_front (suc n) front (b ∷ bytes) = by (b == 10) (ended_front n [] bytes) (ended_front n (front ++ b ∷ []) bytes)
  where
    by : (t : Bool) → IsFront (ended_from [] (take n bytes)) (ended_from [] bytes) → IsFront (ended_from (front ++ b ∷ []) (take n bytes)) (ended_from (front ++ b ∷ []) bytes)
        → IsFront (if t then front ∷ ended_from [] (take n bytes) else ended_from (front ++ b ∷ []) (take n bytes)) (if t then front ∷ ended_from [] bytes else ended_from (front ++ b ∷ []) bytes)
    by true h k = record { more = h.more; parts = ap (λ (ls : List (List ℕ)). front ∷ ls) h.parts }
    by false h k = k

lines_front : (b : Bool) (bytes : List ℕ) → IsFront (lines_where b bytes) (lines_of bytes)
lines_front true bytes = record { more = []; parts = sym (append-nil (lines_of bytes)) }
lines_front false bytes =
    let front = ended_front most_bytes [] bytes in
    let rest = where_some (rest_from [] bytes) in
    record {
      more = front.more ++ rest;
      parts = ap (λ (ls : List (List ℕ)). ls ++ rest) front.parts ∙ append_assoc (ended_from [] (take most_bytes bytes)) front.more rest;
    }

clear_within : (last : World) (report : List ℕ) → AreClear (entries_of last report) → AreClear (map (entry_of last) (lines_within report))
clear_within last report clear =
    let all = lines_where (nat_le (length report) most_bytes) report in
    let front = lines_front (nat_le (length report) most_bytes) report in
    let whole = subst (λ (ls : List (List ℕ)). AreClear (map (entry_of last) ls)) front.parts clear in
    let some = clear_front (map (entry_of last) all) (map (entry_of last) front.more) (subst (λ (es : List Entry). AreClear es) (map-append (entry_of last) all front.more) whole) in
    let cut = sym (take-append-drop most_lines all) in
    clear_front (map (entry_of last) (take most_lines all)) (map (entry_of last) (drop most_lines all))
    (subst (λ (es : List Entry). AreClear es) (map-append (entry_of last) (take most_lines all) (drop most_lines all)) (subst (λ (ls : List (List ℕ)). AreClear (map (entry_of last) ls)) cut some))

-- ---- the statuses

same_file : (told : List FileText) (name bytes other : List ℕ) → file_named name told ≡ Some bytes → IsFile (file_told (Some told) name) other → bytes ≡ other
same_file told name bytes other is file = let here = subst (λ (o : Option (List ℕ)). IsFile (missing_or_bytes o) other) is file in here

module _ (command : AuditCommand) (told : List FileText) (configuration events report : List ℕ)
    (config_is : file_named command.config told ≡ Some configuration) (events_are : file_named command.events told ≡ Some events) (report_is : file_named command.report told ≡ Some report)
    (w : World) (first : config configuration ≡ Ok w) (clear : AreClear (entries_of (last_of w events) report)) (right : AreRight command told)
    (picks : List (List ℕ) → Type 0) (before held : Option (List ℕ)) (failed : Type 0) where
  same_config : (bytes : List ℕ) → IsFile (file_told (Some told) command.config) bytes → config bytes ≡ Ok w
  same_config bytes file = subst (λ (b : List ℕ). config b ≡ Ok w) (same_file told command.config configuration bytes config_is file) first

  stands_not : (refusal : _) → StandsFor command (file_told (Some told)) (Err refusal) → ⊥
  stands_not refusal h = let one = sym h.stands ∙ same_config h.bytes h.file in absurd cc

  clear_not : (line : ℕ) → IsUnclear command (file_told (Some told)) picks line → ⊥
  clear_not line h =
      let world : h.w ≡ w = (let both : Ok h.w ≡ Ok w = sym h.before.first.stands ∙ same_config h.before.first.bytes h.before.first.file in cc) in
      let es = same_file told command.events events h.events events_are h.before.file in
      let text = same_file told command.report report h.report report_is h.file in
      let here = subst (λ (v : World). AreClear (entries_of (last_of v events) report)) (sym world) clear in
      let there = subst (λ (x : List ℕ). AreClear (entries_of (last_of h.w x) report)) es here in
      let all = subst (λ (x : List ℕ). AreClear (entries_of (last_of h.w h.events) x)) text there in
      none_unclear h.first.front h.first.more (subst (λ (xs : List Entry). AreClear xs) h.first.parts (clear_within (last_of h.w h.events) h.report all))

  pub nothing-amiss : (status : Status) → IsAuditing command (file_told (Some told)) picks status before held failed → IsNothingAmiss status
  nothing-amiss statuses.Ok h = tt
  nothing-amiss statuses.ReportFault h = tt
  nothing-amiss statuses.ReadFault h = tt
  nothing-amiss statuses.NoMemory h = tt
  nothing-amiss statuses.TooLong h = tt
  nothing-amiss (statuses.Config number field) h = absurd (stands_not _ h.0)
  nothing-amiss (statuses.Refuted peer session kind message key) h = absurd (files_wrong command told picks peer session kind message key _ h right)
  nothing-amiss (statuses.Unclear line) h = absurd (clear_not line h.0)
  nothing-amiss statuses.Usage h = absurd h
  nothing-amiss statuses.SiteFault h = absurd h
  nothing-amiss (statuses.Lost peer session) h = absurd h
  nothing-amiss (statuses.Malformed cause offset) h = absurd h
