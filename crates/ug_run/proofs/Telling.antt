-- What all lines of a report tell.
use Rattle.std.proofs.Common.{◌≡◌, ℕ, ◌==◌, Bool, List, [], ◌∷◌, ◌++◌, map, Option, Some, None, Ok, Err, refl, sym, ◌∙◌, ap, subst, append_assoc}
use Rattle.std.specs.Prelude.{◌&&◌, ◌||◌}
use Rattle.std.specs.List.{concat, flat_map}
use Rattle.std.proofs.lemmas.List.{append-nil}
use Rattle.ug_types.specs.declared.mark.Mark.{Mark}
use Rattle.ug_board.specs.Deeds.{Each}
use Rattle.ug_events.specs.Events.{Saying, SaysNothing, SaysSync, Says}
use Rattle.ug_events.specs.Reads.{Reads}
use Rattle.ug_world.specs.World.{World}
use Rattle.ug_world.specs.Verdicts.{verdict}
use Rattle.ug_world.specs.Worlds.{outcome, world_after}
use Rattle.ug_report.specs.declared.endings.Loss.{Loss}
use Rattle.ug_report.specs.Report.{names_in, loss_text, counts_text, answer_by, answer_to, first_marks, later_marks, line_texts}
use Rattle.ug_audit_rules.specs.declared.entry.Entry.{Entry}
use Rattle.ug_audit_rules.specs.declared.entry.Entry.TheVariants.{Passes, Sync, Lost, Unclear}
use Rattle.ug_audit_rules.specs.Audited.{mark_in, marks_in, is_loss_of, is_lost_in}
use Rattle.ug_audit_rules.specs.Reports.{entries_of, AreClear}
use Rattle.ug_run.specs.Files.{sync_marks, all_syncs}
use Rattle.ug_run.proofs.AuditedLosses.{is_lost_among}
use Rattle.ug_run.proofs.Assembled.{entries-are, IsGoodMark, IsGoodLoss, lose, pass, losses_read}
use Rattle.ug_run.proofs.Passing.{counts-read, answer_entries, line_entries, lines-read}

-- the losses that lines tell, in their order
abbrev pub loss_in : Entry → List Loss
loss_in Passes = []
loss_in (Sync m) = []
loss_in (Lost peer session) = record { peer = peer; session = session } ∷ []
loss_in Unclear = []

abbrev pub losses_in : List Entry → List Loss
losses_in [] = []
losses_in (e ∷ es) = loss_in e ++ losses_in es

told_one : (e : Entry) (p n : ℕ) (rest : Bool) (more : List Loss) → rest ≡ is_lost_among more p n → (is_loss_of p n e || rest) ≡ is_lost_among (loss_in e ++ more) p n
told_one Passes p n rest more same = same
told_one (Sync m) p n rest more same = same
told_one (Lost peer session) p n rest more same = ap (λ (b : Bool). ((peer == p) && (session == n)) || b) same
told_one Unclear p n rest more same = same

-- the sessions that are told as lost are those of these losses
pub lost-told : (es : List Entry) (p n : ℕ) → is_lost_in es p n ≡ is_lost_among (losses_in es) p n
lost-told [] p n = refl
lost-told (e ∷ es) p n = told_one e p n (is_lost_in es p n) (losses_in es) (lost-told es p n)

-- ---- texts that stand together

marks_join : (es fs : List Entry) → marks_in (es ++ fs) ≡ marks_in es ++ marks_in fs
marks_join [] fs = refl
marks_join (e ∷ es) fs = ap (λ (ms : List Mark). mark_in e ++ ms) (marks_join es fs) ∙ sym (append_assoc (mark_in e) (marks_in es) (marks_in fs))

losses_join : (es fs : List Entry) → losses_in (es ++ fs) ≡ losses_in es ++ losses_in fs
losses_join [] fs = refl
losses_join (e ∷ es) fs = ap (λ (ls : List Loss). loss_in e ++ ls) (losses_join es fs) ∙ sym (append_assoc (loss_in e) (losses_in es) (losses_in fs))

clear_join : (es fs : List Entry) → AreClear es → AreClear fs → AreClear (es ++ fs)
clear_join [] fs h k = k
clear_join (e ∷ es) fs h k = (h.0, clear_join es fs h.1 k)

pub record Tell (es : List Entry) (ms : List Mark) (ls : List Loss) : Type 0 where
  pub clear : AreClear es
  pub marks : marks_in es ≡ ms
  pub losses : losses_in es ≡ ls

pub tell-join : (es fs : List Entry) (ms ns : List Mark) (ls ks : List Loss) → Tell es ms ls → Tell fs ns ks → Tell (es ++ fs) (ms ++ ns) (ls ++ ks)
tell-join es fs ms ns ls ks h k = record {
  clear = clear_join es fs h.clear k.clear;
  marks = marks_join es fs ∙ (ap (λ (x : List Mark). x ++ marks_in fs) h.marks ∙ ap (λ (x : List Mark). ms ++ x) k.marks);
  losses = losses_join es fs ∙ (ap (λ (x : List Loss). x ++ losses_in fs) h.losses ∙ ap (λ (x : List Loss). ls ++ x) k.losses);
}

marked : (ms : List Mark) → Tell (map Sync ms) ms []
marked [] = record { clear = tt; marks = refl; losses = refl }
marked (m ∷ ms) = let rest = marked ms in record { clear = (tt, rest.clear); marks = ap (λ (xs : List Mark). m ∷ xs) rest.marks; losses = rest.losses }

passed : (ms : List Mark) → Tell (map pass ms) [] []
passed [] = record { clear = tt; marks = refl; losses = refl }
passed (m ∷ ms) = let rest = passed ms in record { clear = (tt, rest.clear); marks = rest.marks; losses = rest.losses }

lost : (ls : List Loss) → Tell (map lose ls) [] ls
lost [] = record { clear = tt; marks = refl; losses = refl }
lost (l ∷ ls) = let rest = lost ls in record { clear = (tt, rest.clear); marks = rest.marks; losses = ap (λ (xs : List Loss). l ∷ xs) rest.losses }

tell_verdict : (v : Option ℕ) (ms : List Mark) → Tell (answer_entries (answer_by v ms)) [] []
tell_verdict None ms = passed ms
tell_verdict (Some number) ms = record { clear = (tt, tt); marks = refl; losses = refl }

tell_answer : (w : World) (line : Reads Saying) (ms : List Mark) → Tell (answer_entries (answer_to w line ms)) (sync_marks line ms) []
tell_answer w (Ok SaysNothing) ms = record { clear = tt; marks = refl; losses = refl }
tell_answer w (Ok SaysSync) ms = marked ms
tell_answer w (Ok (Says e)) ms = tell_verdict (verdict w e) ms
tell_answer w (Err refusal) ms = record { clear = (tt, tt); marks = refl; losses = refl }

pub tell-lines : (w : World) (lines : List (Reads Saying)) (marks : List (List Mark)) → Tell (line_entries w lines marks) (all_syncs lines marks) []
tell-lines w [] marks = record { clear = tt; marks = refl; losses = refl }
tell-lines w (line ∷ lines) marks =
    tell-join (answer_entries (answer_to w line (first_marks marks))) (line_entries (world_after w (outcome w line)) lines (later_marks marks)) (sync_marks line (first_marks marks)) (all_syncs lines (later_marks marks)) [] []
    (tell_answer w line (first_marks marks)) (tell-lines (world_after w (outcome w line)) lines (later_marks marks))

flat_is : (names : List (List ℕ)) (ls : List Loss) → flat_map (loss_text names) ls ≡ concat (map (loss_text names) ls)
flat_is names [] = refl
flat_is names (l ∷ ls) = ap (λ (x : List ℕ). loss_text names l ++ x) (flat_is names ls)

-- The report of a run that completed, with a tail that tells nothing, is read as it was meant.
pub report-read : (last w : World) (lines : List (Reads Saying)) (marks : List (List Mark)) (losses : List Loss) (a r : ℕ) (tail : List ℕ) → Each (Each (IsGoodMark last)) marks → Each (IsGoodLoss last) losses
    → Tell (entries_of last tail) [] [] → Tell (entries_of last ((concat (line_texts (names_in last) 1 w lines marks) ++ (flat_map (loss_text (names_in last)) losses ++ counts_text a r)) ++ tail)) (all_syncs lines marks) losses
report-read last w lines marks losses a r tail good few silent =
    let texts = line_texts (names_in last) 1 w lines marks in
    let entries = line_entries w lines marks in
    let one = entries-are last (counts_text a r ∷ []) (Passes ∷ []) tail (counts-read last a r, tt) in
    let two = entries-are last (map (loss_text (names_in last)) losses) (map lose losses) (concat (counts_text a r ∷ []) ++ tail) (losses_read last losses few) in
    let three = entries-are last texts entries (concat (map (loss_text (names_in last)) losses) ++ (concat (counts_text a r ∷ []) ++ tail)) (lines-read last 1 w lines marks good) in
    let tells : Tell (entries ++ (map lose losses ++ (Passes ∷ entries_of last tail))) (all_syncs lines marks ++ ([] ++ [])) ([] ++ (losses ++ [])) =
    tell-join entries (map lose losses ++ (Passes ∷ entries_of last tail)) (all_syncs lines marks) ([] ++ []) [] (losses ++ []) (tell-lines w lines marks)
    (tell-join (map lose losses) (Passes ∷ entries_of last tail) [] [] losses [] (lost losses) (record { clear = (tt, silent.clear); marks = silent.marks; losses = silent.losses }))
    in
    let shape : (concat texts ++ (flat_map (loss_text (names_in last)) losses ++ counts_text a r)) ++ tail ≡ concat texts ++ (concat (map (loss_text (names_in last)) losses) ++ (concat (counts_text a r ∷ []) ++ tail)) =
    append_assoc (concat texts) (flat_map (loss_text (names_in last)) losses ++ counts_text a r) tail
    ∙ ap (λ (x : List ℕ). concat texts ++ x) (append_assoc (flat_map (loss_text (names_in last)) losses) (counts_text a r) tail
    ∙ (ap (λ (x : List ℕ). flat_map (loss_text (names_in last)) losses ++ (x ++ tail)) (sym (append-nil (counts_text a r)))
    ∙ ap (λ (x : List ℕ). x ++ (concat (counts_text a r ∷ []) ++ tail)) (flat_is (names_in last) losses)))
    in
    let all : entries_of last ((concat texts ++ (flat_map (loss_text (names_in last)) losses ++ counts_text a r)) ++ tail) ≡ entries ++ (map lose losses ++ (Passes ∷ entries_of last tail)) =
    ap (entries_of last) shape ∙ (three ∙ ap (λ (x : List Entry). entries ++ x) (two ∙ ap (λ (x : List Entry). map lose losses ++ x) one))
    in
    record {
      clear = subst (λ (x : List Entry). AreClear x) (sym all) tells.clear;
      marks = ap (λ (x : List Entry). marks_in x) all ∙ (tells.marks ∙ append-nil (all_syncs lines marks));
      losses = ap (λ (x : List Entry). losses_in x) all ∙ (tells.losses ∙ append-nil losses);
    }
