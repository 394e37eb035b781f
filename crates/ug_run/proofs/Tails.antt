-- The status line behind a report, or a front of it, tells nothing.
use Rattle.std.proofs.Common.{◌≡◌, ℕ, ◌⊎◌, ◌==◌, Bool, true, inl, inr, false, List, [], ◌∷◌, ◌++◌, map, refl, sym, ◌∙◌, ap, subst, arith, append_assoc}
use Rattle.std.specs.Prelude.{codes, if◌then◌else◌}
use Rattle.std.specs.Fmt.{decimal}
use Rattle.ug_text.specs.Cutting.{pieces_from}
use Rattle.ug_pieces.specs.Lines.{ended_from, rest_from, where_some}
use Rattle.ug_world.specs.World.{World}
use Rattle.ug_report.specs.declared.endings.Loss.{Loss}
use Rattle.ug_report.specs.Report.{names_in, name_at, lost_status, losses_status}
use Rattle.ug_board.specs.Deeds.{Each}
use Rattle.ug_audit_rules.specs.declared.entry.Entry.{Entry}
use Rattle.ug_audit_rules.specs.declared.entry.Entry.TheVariants.{Passes}
use Rattle.ug_audit_rules.specs.Audited.{mark_in}
use Rattle.ug_audit_rules.specs.Reports.{Lacks, entry_by, entry_of, entries_of, AreClear}
use Rattle.ug_run.proofs.Words.{lacks-both, line-alone}
use Rattle.ug_run.proofs.Assembled.{IsGoodLoss, any-decimal, one-line}
use Rattle.ug_run.proofs.Passing.{lacks-all}
use Rattle.ug_run.proofs.Telling.{Tell, loss_in}

-- no word that begins with these two letters is one of the two
st_passes : (last : World) (word : List ℕ) (words : List (List ℕ)) → entry_by last ((115 ∷ 116 ∷ word) ∷ words) ≡ Passes
st_passes last word words = refl

-- a piece that has begun goes on
record BeginsSo (start : List ℕ) (parts : List (List ℕ)) : Type 0 where
  word : List ℕ
  words : List (List ℕ)
  is : parts ≡ (start ++ word) ∷ words

begins_so : (start piece bytes : List ℕ) → BeginsSo start (pieces_from 32 (start ++ piece) bytes)
unfolding pieces_from
begins_so start piece [] = record { word = piece; words = []; is = refl }
begins_so start piece (b ∷ bytes) = by (b == 32) (begins_so start (piece ++ b ∷ []) bytes)
  where
    by : (t : Bool) → BeginsSo start (pieces_from 32 (start ++ (piece ++ b ∷ [])) bytes) → BeginsSo start (if t then (start ++ piece) ∷ pieces_from 32 [] bytes else pieces_from 32 ((start ++ piece) ++ b ∷ []) bytes)
    by true rest = record { word = piece; words = pieces_from 32 [] bytes; is = refl }
    by false rest = subst (λ (x : List ℕ). BeginsSo start (pieces_from 32 x bytes)) (sym (append_assoc start piece (b ∷ []))) rest

st-read : (last : World) (rest : List ℕ) → entry_of last (115 ∷ 116 ∷ rest) ≡ Passes
unfolding entry_of pieces_from
st-read last rest = let parts = begins_so (115 ∷ 116 ∷ []) [] rest in ap (entry_by last) parts.is ∙ st_passes last parts.word parts.words

silent-one : (last : World) (line : List ℕ) → entry_of last line ≡ Passes → Tell (map (entry_of last) (where_some line)) [] []
silent-one last [] is = record { clear = tt; marks = refl; losses = refl }
silent-one last (b ∷ line) is =
    record {
      clear = subst (λ (e : Entry). AreClear (e ∷ [])) (sym is) (tt, tt);
      marks = ap (λ (e : Entry). mark_in e ++ []) is;
      losses = ap (λ (e : Entry). loss_in e ++ []) is;
    }

s-read : (last : World) → entry_of last (115 ∷ []) ≡ Passes
unfolding entry_of pieces_from
s-read last = refl

-- a front of a line and its newline is all of it, or a front of the line
front_of_line : (f t line : List ℕ) → f ++ t ≡ line ++ 10 ∷ [] → (f ≡ line ++ 10 ∷ []) ⊎ ((u : List ℕ) × (f ++ u ≡ line))
front_of_line [] t line e = inr (line, refl)
front_of_line (x ∷ []) t [] e = inl cc
front_of_line (x ∷ y ∷ f) t [] e = absurd cc
front_of_line (x ∷ f) t (c ∷ line) e =
    let rest : f ++ t ≡ line ++ 10 ∷ [] = cc in
    let head : x ≡ c = cc in
    elim (front_of_line f t line rest) [ inl all ↦ inl cc | inr part ↦ inr (part.0, (let same = part.1 in cc)) ]

lacks_front : (b : ℕ) (f u line : List ℕ) → f ++ u ≡ line → Lacks b line → Lacks b f
lacks_front b [] u line e h = tt
lacks_front b (x ∷ f) u [] e h = absurd cc
lacks_front b (x ∷ f) u (c ∷ line) e h =
    let head : c ≡ x = cc in
    let rest : f ++ u ≡ line = cc in (subst (λ y. (y == b) ≡ false) head h.0, lacks_front b f u line rest h.1)

-- A line that begins with these letters, and all its fronts.
front_passes : (last : World) (f u line : List ℕ) → f ++ u ≡ 115 ∷ 116 ∷ line → Tell (map (entry_of last) (where_some f)) [] []
front_passes last [] u line e = record { clear = tt; marks = refl; losses = refl }
front_passes last (x ∷ []) u line e = let head : 115 ≡ x = cc in silent-one last (x ∷ []) (subst (λ y. entry_of last (y ∷ []) ≡ Passes) head (s-read last))
front_passes last (x ∷ y ∷ f) u line e =
    let head : 115 ≡ x = cc in
    let next : 116 ≡ y = cc in
    silent-one last (x ∷ y ∷ f) (subst (λ a. entry_of last (a ∷ y ∷ f) ≡ Passes) head (subst (λ b. entry_of last (115 ∷ b ∷ f) ≡ Passes) next (st-read last f)))

silent_front : (last : World) (f u line : List ℕ) → f ++ u ≡ 115 ∷ 116 ∷ line → Lacks 10 f → Tell (entries_of last f) [] []
silent_front last f u line e h =
    let alone = line-alone f h in
    subst (λ (es : List Entry). Tell es [] []) (sym (ap (λ (ls : List (List ℕ)). map (entry_of last) (ls ++ where_some (rest_from [] f))) alone.0 ∙ ap (λ (r : List ℕ). map (entry_of last) (where_some r)) alone.1))
    (front_passes last f u line e)

nothing : (last : World) → entries_of last [] ≡ []
unfolding ended_from rest_from
nothing last = refl

silent_line : (last : World) (line : List ℕ) → Lacks 10 (115 ∷ 116 ∷ line) → Tell (entries_of last ((115 ∷ 116 ∷ line) ++ 10 ∷ [])) [] []
silent_line last line h =
    let all = one-line last (115 ∷ 116 ∷ line) [] h ∙ ap (λ (e : Entry). e ∷ entries_of last []) (st-read last line) in
    subst (λ (es : List Entry). Tell es [] []) (sym (all ∙ ap (λ (es : List Entry). Passes ∷ es) (nothing last))) (record { clear = (tt, tt); marks = refl; losses = refl })

-- A front of a line that begins with these letters tells nothing.
silent : (last : World) (f t line : List ℕ) → Lacks 10 (115 ∷ 116 ∷ line) → f ++ t ≡ (115 ∷ 116 ∷ line) ++ 10 ∷ [] → Tell (entries_of last f) [] []
silent last f t line h e = elim (front_of_line f t (115 ∷ 116 ∷ line) e) [
  | inl all ↦ subst (λ (g : List ℕ). Tell (entries_of last g) [] []) (sym all) (silent_line last line h)
  | inr part ↦ silent_front last f part.0 line part.1 (lacks_front 10 f part.0 (115 ∷ 116 ∷ line) part.1 h)
]

abbrev status_rest : List ℕ → ℕ → List ℕ
status_rest name n = codes "atus 8 lost " ++ (name ++ (codes " " ++ decimal n))

status_is : (name : List ℕ) (n : ℕ) → lost_status name n ≡ (115 ∷ 116 ∷ status_rest name n) ++ 10 ∷ []
unfolding lost_status
status_is name n =
    sym (ap (λ (x : List ℕ). codes "status 8 lost " ++ x) (append_assoc name (codes " " ++ decimal n) (10 ∷ []) ∙ ap (λ (x : List ℕ). name ++ x) (append_assoc (codes " ") (decimal n) (10 ∷ []))))

-- So does the status of a run that lost a session, and a front of it.
pub status-silent : (last : World) (losses : List Loss) (f t : List ℕ) → Each (IsGoodLoss last) losses → losses_status (names_in last) losses ≡ f ++ t → Tell (entries_of last f) [] []
unfolding ended_from rest_from
status-silent last [] [] t good e = record { clear = tt; marks = refl; losses = refl }
status-silent last [] (x ∷ f) t good e = absurd cc
status-silent last (l ∷ losses) f t good e =
    let name = name_at (names_in last) l.peer in
    silent last f t (status_rest name l.session)
    (lacks-both 10 (codes "status 8 lost ") (name ++ (codes " " ++ decimal l.session)) (lacks-all 10 (codes "status 8 lost ") refl)
    (lacks-both 10 name (codes " " ++ decimal l.session) good.0.named.word.no_newline (lacks-both 10 (codes " ") (decimal l.session) (lacks-all 10 (codes " ") refl) (any-decimal 10 l.session (omega arith)))))
    (sym e ∙ status_is name l.session)
