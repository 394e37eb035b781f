-- Lines of a report that come in pieces.
use Rattle.std.proofs.Common.{◌≡◌, ℕ, Bool, true, false, List, [], ◌∷◌, ◌++◌, length, map, Some, None, refl, sym, ap, subst, ◌∙◌, append_assoc, arith}
use Rattle.std.specs.Prelude.{◌==◌}
use Rattle.std.specs.Global.{Vec}
use Rattle.std.specs.Vec.{vec_len}
use Rattle.std.proofs.lemmas.List.{append-nil, map-append}
use Rattle.ug_text.specs.Cutting.{cut_at}
use Rattle.ug_pieces.specs.Lines.{lines_of, ended_from, rest_from, where_some}
use Rattle.ug_pieces.specs.LineLaws.{more_bytes}
use Rattle.ug_world.specs.World.{World}
use Rattle.ug_audit_rules.specs.declared.entry.Entry.{Entry}
use Rattle.ug_audit_rules.specs.Reports.{entry_of, entries_of}
use Rattle.ug_audit_rules.specs.declared.lines.Told.{Told}
use Rattle.ug_audit_rules.specs.declared.reading.Reading.{Reading}
use Rattle.ug_audit_rules.specs.declared.stop.Stop.{Stop}
use Rattle.ug_audit_rules.specs.Told.{IsStop}
use Rattle.ug_audit_rules.specs.Reading.{HasTold, whole_entries, IsMid, HasReadTo}
use Rattle.ug_audit_rules.proofs.Kept.{stop_more}
use Rattle.ug_audit_rules.specs.Kept.{IsAmple, IsKept, KeepsOn}
use Rattle.ug_pieces.proofs.Cut.{cut_is, uncut_is}
use Rattle.ug_audit_rules.proofs.Long.{kept-tells, kept-none, none-kept, some-kept}

-- The line that a telling of entries goes on with, and why it may stop there.
abbrev pub GoesOn : World → List ℕ → Told → Told → Type 0
GoesOn last line old new = (all : List Entry) → HasTold old all → HasTold new (all ++ entry_of last line ∷ [])

abbrev pub StopsAt : World → List ℕ → Told → Stop → Type 0
StopsAt last line old stop = (all : List Entry) → HasTold old all → IsStop stop (all ++ entry_of last line ∷ [])

-- ---- what stands behind the last newline

nothing : (bytes : List ℕ) → length bytes ≡ 0 → bytes ≡ []
nothing [] e = refl
nothing (b ∷ bytes) e = absurd (omega (arith, e))

is_zero : (n : ℕ) → (n == 0) ≡ true → n ≡ 0
is_zero n e = grind (arith, e)

is_not_zero : (n : ℕ) → (n == 0) ≡ false → n ≡ 0 → ⊥
is_not_zero n e z = grind (arith, e, z)

pub rest_none : (v : Vec ℕ) (b : Bool) → b ≡ (vec_len v == 0) → b ≡ true → v.items ≡ []
rest_none v b is e = (let n = is_zero (vec_len v) (sym is ∙ e) in nothing v.items (omega (arith, v.ok.0, n)))

pub rest_some : (v : Vec ℕ) (b : Bool) → b ≡ (vec_len v == 0) → b ≡ false → v.items ≡ [] → ⊥
rest_some v b is e none = (let n : length v.items ≡ 0 = ap (λ (xs : List ℕ). length xs) none in is_not_zero (vec_len v) (sym is ∙ e) (omega (arith, v.ok.0, n)))

module _ (last : World) where
  -- what a line tells, its kept front tells
  goes_kept : (most : ℕ) (kept line : List ℕ) (old new : Told) → IsAmple last most → IsKept most kept line → GoesOn last kept old new → GoesOn last line old new
  goes_kept most kept line old new ample is goes all told = subst (λ (e : Entry). HasTold new (all ++ e ∷ [])) (kept-tells last most ample kept line is) (goes all told)

  stops_kept : (most : ℕ) (kept line : List ℕ) (old : Told) (stop : Stop) → IsAmple last most → IsKept most kept line → StopsAt last kept old stop → StopsAt last line old stop
  stops_kept most kept line old stop ample is stops all told = subst (λ (e : Entry). IsStop stop (all ++ e ∷ [])) (kept-tells last most ample kept line is) (stops all told)

  pub mid_none : (r : Reading) → r.rest.items ≡ [] → IsAmple last r.most → HasTold r.told [] → HasReadTo last r []
  unfolding ended_from rest_from
  mid_none r none ample h = record { done = []; line = []; lines = refl; rest = refl; kept = subst (λ (k : List ℕ). IsKept r.most k []) (sym none) (kept-none r.most); ample = ample; told = h }

  pub mid_first : (r : Reading) (stream piece : List ℕ) → HasReadTo last r stream → IsMid last r (stream ++ piece) piece
  unfolding ended_from rest_from
  mid_first r stream piece h =
      let more = more_bytes [] stream piece in
      let none : ended_from [] stream ≡ h.done = h.lines ∙ append-nil h.done in
      record {
        done = h.done;
        line = h.line;
        lines = more.lines ∙ ap (λ (ls : List (List ℕ)). ls ++ ended_from (rest_from [] stream) piece) none ∙ ap (λ (f : List ℕ). h.done ++ ended_from f piece) h.rest;
        rest = more.rest ∙ ap (λ (f : List ℕ). rest_from f piece) h.rest;
        kept = h.kept;
        ample = h.ample;
        told = h.told;
      }

  entries_more : (done : List (List ℕ)) (line : List ℕ) → map (entry_of last) (done ++ line ∷ []) ≡ map (entry_of last) done ++ entry_of last line ∷ []
  entries_more done line = map-append (entry_of last) done (line ∷ [])

  pub mid_next : (r r' : Reading) (all left front behind kept : List ℕ) → cut_at 10 left ≡ Some (front, behind) → KeepsOn r.most r.rest.items kept front → r'.rest.items ≡ [] → r'.most ≡ r.most → GoesOn last kept r.told r'.told
      → IsMid last r all left → IsMid last r' all behind
  mid_next r r' all left front behind kept cut keeps none same goes h =
      let c = cut_is h.line left front behind cut in
      let line = h.line ++ front in
      record {
        done = h.done ++ line ∷ [];
        line = [];
        lines = h.lines ∙ ap (λ (ls : List (List ℕ)). h.done ++ ls) c.lines ∙ sym (append_assoc h.done (line ∷ []) (ended_from [] behind));
        rest = h.rest ∙ c.left;
        kept = subst (λ (k : List ℕ). IsKept r'.most k []) (sym none) (kept-none r'.most);
        ample = subst (λ n. IsAmple last n) (sym same) h.ample;
        told = subst (HasTold r'.told) (sym (entries_more h.done line)) (goes_kept r.most kept line r.told r'.told h.ample (keeps h.line h.kept) goes (map (entry_of last) h.done) h.told);
      }

  pub mid_stop : (r : Reading) (all left front behind kept : List ℕ) (stop : Stop) → cut_at 10 left ≡ Some (front, behind) → KeepsOn r.most r.rest.items kept front → StopsAt last kept r.told stop → IsMid last r all left
      → IsStop stop (whole_entries last all)
  mid_stop r all left front behind kept stop cut keeps stops h =
      let c = cut_is h.line left front behind cut in
      let line = h.line ++ front in
      let es = map (entry_of last) h.done in
      let all_is : whole_entries last all ≡ (es ++ entry_of last line ∷ []) ++ map (entry_of last) (ended_from [] behind) =
      ap (map (entry_of last)) (h.lines ∙ ap (λ (ls : List (List ℕ)). h.done ++ ls) c.lines)
      ∙ map-append (entry_of last) h.done (line ∷ ended_from [] behind) ∙ sym (append_assoc es (entry_of last line ∷ []) (map (entry_of last) (ended_from [] behind))) in
      subst (IsStop stop) (sym all_is)
      (stop_more stop (es ++ entry_of last line ∷ []) (map (entry_of last) (ended_from [] behind)) (stops_kept r.most kept line r.told stop h.ample (keeps h.line h.kept) stops es h.told))

  pub mid_last : (r r' : Reading) (all left : List ℕ) → cut_at 10 left ≡ None → KeepsOn r.most r.rest.items r'.rest.items left → r'.told ≡ r.told → r'.most ≡ r.most → IsMid last r all left → HasReadTo last r' all
  unfolding ended_from rest_from
  mid_last r r' all left cut keeps same most h =
      let u = uncut_is h.line left cut in
      record {
        done = h.done;
        line = h.line ++ left;
        lines = h.lines ∙ ap (λ (ls : List (List ℕ)). h.done ++ ls) u.lines;
        rest = h.rest ∙ u.left;
        kept = subst (λ n. IsKept n r'.rest.items (h.line ++ left)) (sym most) (keeps h.line h.kept);
        ample = subst (λ n. IsAmple last n) (sym most) h.ample;
        told = subst (λ (t : Told). HasTold t (map (entry_of last) h.done)) (sym same) h.told;
      }

  one_line : (bytes : List ℕ) → (bytes ≡ [] → ⊥) → where_some bytes ≡ bytes ∷ []
  one_line [] some = absurd (some refl)
  one_line (b ∷ bytes) some = refl

  lines_are : (r : Reading) (stream : List ℕ) (behind : List (List ℕ)) (h : HasReadTo last r stream) → where_some h.line ≡ behind → lines_of stream ≡ h.done ++ behind
  unfolding ended_from rest_from
  lines_are r stream behind h is = ap (λ (ls : List (List ℕ)). ls ++ where_some (rest_from [] stream)) (h.lines ∙ append-nil h.done) ∙ ap (λ (b : List ℕ). h.done ++ where_some b) h.rest ∙ ap (λ (ls : List (List ℕ)). h.done ++ ls) is

  pub end_none : (r : Reading) (stream : List ℕ) → r.rest.items ≡ [] → HasReadTo last r stream → HasTold r.told (entries_of last stream)
  end_none r stream none h =
      let empty = none-kept last r.most r.rest.items h.line h.ample h.kept none in
      subst (HasTold r.told) (sym (ap (map (entry_of last)) (lines_are r stream [] h (ap where_some empty) ∙ append-nil h.done))) h.told

  pub end_more : (r r' : Reading) (stream : List ℕ) → (r.rest.items ≡ [] → ⊥) → GoesOn last r.rest.items r.told r'.told → HasReadTo last r stream → HasTold r'.told (entries_of last stream)
  end_more r r' stream some goes h =
      let full = some-kept r.most r.rest.items h.line h.kept some in
      subst (HasTold r'.told) (sym (ap (map (entry_of last)) (lines_are r stream (h.line ∷ []) h (one_line h.line full)) ∙ entries_more h.done h.line))
      (goes_kept r.most r.rest.items h.line r.told r'.told h.ample h.kept goes (map (entry_of last) h.done) h.told)

  pub end_stop : (r : Reading) (stream : List ℕ) (stop : Stop) → (r.rest.items ≡ [] → ⊥) → StopsAt last r.rest.items r.told stop → HasReadTo last r stream → IsStop stop (entries_of last stream)
  end_stop r stream stop some stops h =
      let full = some-kept r.most r.rest.items h.line h.kept some in
      subst (IsStop stop) (sym (ap (map (entry_of last)) (lines_are r stream (h.line ∷ []) h (one_line h.line full)) ∙ entries_more h.done h.line))
      (stops_kept r.most r.rest.items h.line r.told stop h.ample h.kept stops (map (entry_of last) h.done) h.told)
