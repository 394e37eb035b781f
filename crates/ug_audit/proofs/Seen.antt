-- The lines of a text that were looked at lie within its limits.
use Rattle.std.proofs.Common.{◌≡◌, ℕ, zero, suc, ◌+◌, ◌-◌, ◌<◌, ◌≤◌, ◌⊎◌, inl, inr, Bool, true, false, nat_le, List, [], ◌∷◌, ◌++◌, length, take, map, Option, refl, sym, ap, subst, ◌∙◌, arith, append_assoc, length-append}
use Rattle.std.proofs.lemmas.Bool.{cases_lt}
use Rattle.std.proofs.lemmas.List.{append-nil, map-append, length-map, take-append-le}
use Rattle.ug_edge.specs.Told.{FileTold, FileText, file_told, HasPicked}
use Rattle.ug_pieces.specs.Lines.{lines_of, ended_from, rest_from, where_some}
use Rattle.ug_pieces.specs.LineLaws.{more_bytes}
use Rattle.ug_pieces.specs.ReadingLaws.{take_past}
use Rattle.ug_pieces.specs.Pieces.{HasRead}
use Rattle.ug_pieces.specs.declared.halt.Halt.TheVariants as halts
use Rattle.ug_world.specs.World.{World}
use Rattle.ug_audit_rules.specs.declared.entry.Entry.{Entry}
use Rattle.ug_audit_rules.specs.declared.entry.Entry.TheVariants.{Unclear}
use Rattle.ug_audit_rules.specs.Reports.{entry_of, AreClear}
use Rattle.ug_audit_rules.specs.Told.{IsFirstUnclear}
use Rattle.ug_audit_rules.specs.declared.stop.Stop.TheVariants as stops
use Rattle.ug_audit_rules.specs.Told.{most_lines}
use Rattle.ug_audit_rules.specs.Reading.{most_bytes, IsReport, IsReportHalt}
use Rattle.ug_commands.specs.Files.{IsPartOf}
use Rattle.ug_commands.proofs.Ends as ends
use Rattle.ug_commands.proofs.Ends.{part_read, part_unread}
use Rattle.ug_audit.specs.declared.stop.Stop.{Stop}
use Rattle.ug_audit.specs.declared.stop.Stop.TheVariants as own
use Rattle.ug_audit.specs.Stopping.{IsTold, IsToldStop, IsPickStop}
use Rattle.ug_audit.proofs.FilesTold.{rest_of, file_is, whole_is}
use Rattle.ug_audit.specs.Files.{IsFile, IsPast, lines_where, lines_within}

-- The lines that were looked at are the first of those within the limits.
record AreFirst (seen : List (List ℕ)) (bytes : List ℕ) : Type 0 where
  more : List (List ℕ)
  within : lines_within bytes ≡ take most_lines (seen ++ more)

-- ---- which lines they are

by_bytes : (bytes : List ℕ) (b : Bool) → nat_le (length bytes) most_bytes ≡ b → lines_within bytes ≡ take most_lines (lines_where b bytes)
by_bytes bytes b is = ap (λ (t : Bool). take most_lines (lines_where t bytes)) is

is_few : (n m : ℕ) → n ≤ m → nat_le n m ≡ true
is_few n m le = grind (arith, le)

is_many : (n m : ℕ) → m < n → nat_le n m ≡ false
is_many n m le = grind (arith, le)

-- all lines of a text that was read whole
first_whole : (bytes : List ℕ) → length bytes ≤ most_bytes → AreFirst (lines_of bytes) bytes
first_whole bytes few = record { more = []; within = by_bytes bytes true (is_few (length bytes) most_bytes few) ∙ ap (take most_lines) (sym (append-nil (lines_of bytes))) }

ended_more : (read rest : List ℕ) → ended_from [] (read ++ rest) ≡ ended_from [] read ++ ended_from (rest_from [] read) rest
ended_more read rest = (more_bytes [] read rest).lines

take_more_of : (n : ℕ) (xs ys : List ℕ) → length xs ≤ n → take n (xs ++ ys) ≡ xs ++ take (n - length xs) ys
take_more_of n xs ys le = take_front n xs ys le
  where
    take_front : (n : ℕ) (xs ys : List ℕ) → length xs ≤ n → take n (xs ++ ys) ≡ xs ++ take (n - length xs) ys
    take_front n [] ys le = (let z : n ≡ n - 0 = omega arith in ap (λ (k : ℕ). take k ys) z)
    take_front zero (x ∷ xs) ys le = absurd (omega arith)
    take_front (suc n) (x ∷ xs) ys le =
        let k : n - length xs ≡ suc n - length (x ∷ xs) = omega arith in
        ap (λ (z : List ℕ). x ∷ z) (take_front n xs ys (omega arith) ∙ ap (λ (m : ℕ). xs ++ take m ys) k)

-- the whole lines of what was read of it, within the limit
first_read : (read rest : List ℕ) → length read ≤ most_bytes → AreFirst (ended_from [] read) (read ++ rest)
first_read read rest few = by (nat_le (length (read ++ rest)) most_bytes) refl
  where
    by : (b : Bool) → nat_le (length (read ++ rest)) most_bytes ≡ b → AreFirst (ended_from [] read) (read ++ rest)
    by true is = record {
      more = ended_from (rest_from [] read) rest ++ where_some (rest_from [] (read ++ rest));
      within = by_bytes (read ++ rest) true is ∙ ap (λ (ls : List (List ℕ)). take most_lines (ls ++ where_some (rest_from [] (read ++ rest)))) (ended_more read rest)
          ∙ ap (take most_lines) (append_assoc (ended_from [] read) (ended_from (rest_from [] read) rest) (where_some (rest_from [] (read ++ rest))));
    }
    by false is = record {
      more = ended_from (rest_from [] read) (take (most_bytes - length read) rest);
      within = by_bytes (read ++ rest) false is
          ∙ ap (λ (bs : List ℕ). take most_lines (ended_from [] bs)) (take_more_of most_bytes read rest few) ∙ ap (take most_lines) (ended_more read (take (most_bytes - length read) rest));
    }

-- the whole lines of its front, where there are more bytes than the limit
first_front : (read rest : List ℕ) → most_bytes < length read → AreFirst (ended_from [] (take most_bytes read)) (read ++ rest)
first_front read rest many =
    let all = length-append read rest in
    record {
      more = [];
      within = by_bytes (read ++ rest) false (is_many (length (read ++ rest)) most_bytes (omega (arith, many, all)))
          ∙ ap (λ (bs : List ℕ). take most_lines (ended_from [] bs)) (take-append-le most_bytes read rest (omega (arith, many)))
          ∙ ap (take most_lines) (sym (append-nil (ended_from [] (take most_bytes read))));
    }

-- the whole lines of what was read up to the limit
first_taken : (read rest : List ℕ) → AreFirst (ended_from [] (take most_bytes read)) (read ++ rest)
first_taken read rest = elim (cases_lt most_bytes (length read)) [
  | inl many ↦ first_front read rest many
  | inr few ↦ subst (λ (bs : List ℕ). AreFirst (ended_from [] bs) (read ++ rest)) (sym (take_past most_bytes read few)) (first_read read rest few)
]

-- ---- what they tell

map_take : (last : World) (n : ℕ) (lines : List (List ℕ)) → map (entry_of last) (take n lines) ≡ take n (map (entry_of last) lines)
map_take last zero xs = refl
map_take last (suc n) [] = refl
map_take last (suc n) (x ∷ xs) = ap (λ (z : List Entry). entry_of last x ∷ z) (map_take last n xs)

take_some : {A : Type 0} (n : ℕ) (xs ys : List A) → (tail : List A) × (take n (xs ++ ys) ≡ take n xs ++ tail)
take_some {A} zero xs ys = ([], refl)
take_some {A} (suc n) [] ys = (take (suc n) ys, refl)
take_some {A} (suc n) (x ∷ xs) ys = (let t = take_some n xs ys in (t.0, ap (λ (z : List A). x ∷ z) t.1))

unclear_before : (line : ℕ) (xs ys : List Entry) → IsFirstUnclear line xs → IsFirstUnclear line (xs ++ ys)
unclear_before line xs ys h = record {
  front = h.front;
  more = h.more ++ ys;
  parts = ap (λ (es : List Entry). es ++ ys) h.parts ∙ append_assoc h.front (Unclear ∷ h.more) ys;
  clear = h.clear;
  line_is = h.line_is;
}

clear_front : (n : ℕ) (es : List Entry) → AreClear es → AreClear (take n es)
clear_front zero es h = tt
clear_front (suc n) [] h = tt
clear_front (suc n) (e ∷ es) h = (h.0, clear_front n es h.1)

module _ (last : World) (seen : List (List ℕ)) (bytes : List ℕ) (first : AreFirst seen bytes) where
  unclear_is : (line : ℕ) → IsFirstUnclear line (take most_lines (map (entry_of last) seen)) → IsFirstUnclear line (map (entry_of last) (lines_within bytes))
  unclear_is line h =
      let t = take_some most_lines seen first.more in
      let h' = subst (IsFirstUnclear line) (sym (map_take last most_lines seen)) h in
      subst (IsFirstUnclear line) (sym (ap (map (entry_of last)) (first.within ∙ t.1) ∙ map-append (entry_of last) (take most_lines seen) t.0))
      (unclear_before line (map (entry_of last) (take most_lines seen)) (map (entry_of last) t.0) h')

  -- where there are more lines than the limit all within it were looked at
  clear_is : most_lines < length seen → AreClear (take most_lines (map (entry_of last) seen)) → AreClear (map (entry_of last) (lines_within bytes))
  clear_is many h =
      subst AreClear (sym (ap (map (entry_of last)) (first.within ∙ take-append-le most_lines seen first.more (omega (arith, many))) ∙ map_take last most_lines seen)) h

-- a front that ends with the bytes past the limit has all lines within it
clear_all : (last : World) (read rest : List ℕ) → most_bytes < length read → AreClear (map (entry_of last) (ended_from [] (take most_bytes read))) → AreClear (map (entry_of last) (lines_within (read ++ rest)))
clear_all last read rest many h =
    let all = length-append read rest in
    let lines : lines_within (read ++ rest) ≡ take most_lines (ended_from [] (take most_bytes read)) =
    by_bytes (read ++ rest) false (is_many (length (read ++ rest)) most_bytes (omega (arith, many, all))) ∙ ap (λ (bs : List ℕ). take most_lines (ended_from [] bs)) (take-append-le most_bytes read rest (omega (arith, many))) in
    subst AreClear (sym (ap (map (entry_of last)) lines ∙ map_take last most_lines (ended_from [] (take most_bytes read)))) (clear_front most_lines (map (entry_of last) (ended_from [] (take most_bytes read))) h)

-- ---- past the limits

past_lines : (read rest : List ℕ) → most_lines < length (ended_from [] read) → IsPast (read ++ rest)
past_lines read rest many =
    let parts = ap (λ (ls : List (List ℕ)). length ls) (ended_more read rest) in
    let one = length-append (ended_from [] read) (ended_from (rest_from [] read) rest) in
    let two = length-append (ended_from [] (read ++ rest)) (where_some (rest_from [] (read ++ rest))) in
    inr (omega (arith, many, parts, one, two))

past_bytes : (read rest : List ℕ) → most_bytes < length read → IsPast (read ++ rest)
past_bytes read rest many = (let all = length-append read rest in inl (omega (arith, many, all)))

past_taken : (read rest : List ℕ) → most_lines < length (ended_from [] (take most_bytes read)) → IsPast (read ++ rest)
past_taken read rest many = elim (cases_lt most_bytes (length read)) [
  | inl long ↦ past_bytes read rest long
  | inr few ↦ past_lines read rest (subst (λ (bs : List ℕ). most_lines < length (ended_from [] bs)) (take_past most_bytes read few) many)
]

-- ---- a report that was picked and read

mapped : (last : World) (lines : List (List ℕ)) → length (map (entry_of last) lines) ≡ length lines
mapped last lines = length-map lines (entry_of last)

module _ (files : Option (List FileText)) (name : List ℕ) (left now : Option (List ℕ)) (last : World) (picked : HasPicked files name left) where
  pub told_whole : (entries : List Entry) → HasRead left now (IsReport last now entries) → IsTold (file_told files name) last entries
  told_whole entries h = record {
    report = h.read;
    is = whole_is files name left now h.read picked h.taken h.so.ended;
    within = record { few_bytes = h.so.few_bytes; few_lines = h.so.few_lines };
    clear = h.so.clear;
    tells = h.so.tells;
  }

  pub told_until : HasRead left now (IsReportHalt last now halts.Read) → (read : List ℕ) × (rest : List ℕ) × IsPartOf (file_told files name) read rest × AreClear (map (entry_of last) (ended_from [] read))
  told_until h = (h.read, ends.rest_of now, part_read files name left now h.read picked h.taken, h.so.1)

  abbrev Past : Type 0
  Past = (bytes : List ℕ) × IsFile (file_told files name) bytes × IsPast bytes × AreClear (map (entry_of last) (lines_within bytes))

  pub told_long : HasRead left now (IsReportHalt last now halts.TooLong) → Past
  told_long h = (h.read ++ rest_of now, file_is files name left now h.read picked h.taken, past_bytes h.read (rest_of now) h.so.0, clear_all last h.read (rest_of now) h.so.0 h.so.1)

  pub told_many : HasRead left now (IsReportHalt last now (halts.Stopped stops.TooMany)) → Past
  told_many h = elim h.so [
    | inl k ↦ (
        let many = subst (λ (n : ℕ). most_lines < n) (mapped last (ended_from [] (take most_bytes h.read))) k.0 in (
          h.read ++ rest_of now,
          file_is files name left now h.read picked h.taken,
          past_taken h.read (rest_of now) many,
          clear_is last (ended_from [] (take most_bytes h.read)) (h.read ++ rest_of now) (first_taken h.read (rest_of now)) many k.1,
        ))
    | inr k ↦ (
        let many = subst (λ (n : ℕ). most_lines < n) (mapped last (lines_of h.read)) k.2.0 in
        (h.read, whole_is files name left now h.read picked h.taken k.0, inr many, clear_is last (lines_of h.read) h.read (first_whole h.read k.1) many k.2.1))
  ]

  pub told_unclear : (line : ℕ) → HasRead left now (IsReportHalt last now (halts.Stopped (stops.Unclear line)))
      → (bytes : List ℕ) × IsFile (file_told files name) bytes × IsFirstUnclear line (map (entry_of last) (lines_within bytes))
  told_unclear line h = elim h.so [
    | inl k ↦ (h.read ++ rest_of now, file_is files name left now h.read picked h.taken, unclear_is last (ended_from [] (take most_bytes h.read)) (h.read ++ rest_of now) (first_taken h.read (rest_of now)) line k)
    | inr k ↦ (h.read, whole_is files name left now h.read picked h.taken k.0, unclear_is last (lines_of h.read) h.read (first_whole h.read k.1) line k.2)
  ]

-- one that wasn't picked
pub told_unpicked : (file : FileTold) (last : World) (picked unpicked : Type 0) (stop : Stop) → IsPickStop picked unpicked stop → IsToldStop file last picked unpicked stop
unfolding ended_from
told_unpicked file last picked unpicked own.Read h = (h, [], ends.unread_of file, part_unread file, tt)
told_unpicked file last picked unpicked own.NoMemory h = inr h
told_unpicked file last picked unpicked own.TooLong h = absurd h
told_unpicked file last picked unpicked (own.Config number field) h = absurd h
told_unpicked file last picked unpicked (own.Unclear line) h = absurd h
told_unpicked file last picked unpicked (own.Refuted peer session breach text) h = absurd h
