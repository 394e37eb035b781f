-- A report as its texts are put together, read again.
use Rattle.std.proofs.Common.{◌≡◌, ℕ, zero, suc, ◌+◌, ◌<◌, ◌≤◌, ◌==◌, Bool, true, false, List, [], ◌∷◌, ◌++◌, map, refl, ◌∙◌, ap, arith, append_assoc}
use Rattle.std.specs.Prelude.{codes, nat_lt, ◌/◌, ◌%◌, if◌then◌else◌}
use Rattle.std.specs.List.{concat}
use Rattle.std.specs.Fmt.{decimal, digits, digits_onto, digit_glyph}
use Rattle.std.proofs.lemmas.Bool.Decides.{nat_tests}
use Rattle.ug_types.specs.declared.mark.Mark.{Mark}
use Rattle.ug_pieces.specs.Lines.{ended_from, rest_from, where_some}
use Rattle.ug_board.specs.Deeds.{Each}
use Rattle.ug_world.specs.World.{World}
use Rattle.ug_report.specs.declared.endings.Loss.{Loss}
use Rattle.ug_report.specs.Report.{names_in, mark_text, loss_text}
use Rattle.ug_audit_rules.specs.declared.entry.Entry.{Entry}
use Rattle.ug_audit_rules.specs.declared.entry.Entry.TheVariants.{Passes, Sync, Lost}
use Rattle.ug_audit_rules.specs.Reports.{Lacks, had_session, entry_of, entries_of}
use Rattle.ug_run.proofs.Worlds.{IsNamed}
use Rattle.ug_run.proofs.Words.{line-ended, line-rest}
use Rattle.ug_run.proofs.Reading.{IsLine, IsWritable, mark_line, mark-ended, sync-read, refresh-read, sync_word, refresh_word, loss_line, loss-ended, loss-read}

-- ---- digits

glyph_lacks : (b n : ℕ) → b < 48 → (digit_glyph false (n % 10) == b) ≡ false
glyph_lacks b n low =
    let small : n % 10 < 10 = omega arith in
    by (n % 10) small
  where
    by : (d : ℕ) → d < 10 → (digit_glyph false d == b) ≡ false
    by d small = let is : nat_lt d 10 ≡ true = grind (arith, nat_tests, small) in ap (λ (t : Bool). (if t then 48 + d else 87 + d) == b) is ∙ grind (arith, nat_tests, low)

onto_lacks : (k b n : ℕ) (acc : List ℕ) → b < 48 → Lacks b acc → Lacks b (digits_onto k 10 false n acc)
onto_lacks zero b n acc low h = h
onto_lacks (suc k) b n acc low h = by (n / 10 == 0) (glyph_lacks b n low, h) (onto_lacks k b (n / 10) (digit_glyph false (n % 10) ∷ acc) low (glyph_lacks b n low, h))
  where
    by : (t : Bool) → Lacks b (digit_glyph false (n % 10) ∷ acc) → Lacks b (digits_onto k 10 false (n / 10) (digit_glyph false (n % 10) ∷ acc))
        → Lacks b (if t then digit_glyph false (n % 10) ∷ acc else digits_onto k 10 false (n / 10) (digit_glyph false (n % 10) ∷ acc))
    by true here more = here
    by false here more = more

pub any-decimal : (b n : ℕ) → b < 48 → Lacks b (decimal n)
unfolding digits
any-decimal b n low = onto_lacks 64 b n [] low tt

-- ---- texts that are lines, and what each tells

abbrev pub IsRead : World → List ℕ → Entry → Type 0
IsRead last text e = (line : List ℕ) × IsLine line text × (entry_of last line ≡ e)

abbrev pub AreRead : World → List (List ℕ) → List Entry → Type 0
AreRead last [] [] = Unit {0}
AreRead last [] (e ∷ es) = ⊥
AreRead last (t ∷ ts) [] = ⊥
AreRead last (t ∷ ts) (e ∷ es) = IsRead last t e × AreRead last ts es

pub read-join : (last : World) (ts us : List (List ℕ)) (es fs : List Entry) → AreRead last ts es → AreRead last us fs → AreRead last (ts ++ us) (es ++ fs)
read-join last [] us [] fs h k = k
read-join last [] us (e ∷ es) fs h k = absurd h
read-join last (t ∷ ts) us [] fs h k = absurd h
read-join last (t ∷ ts) us (e ∷ es) fs h k = (h.0, read-join last ts us es fs h.1 k)

joined : (t line more tail : List ℕ) → t ≡ line ++ 10 ∷ [] → (t ++ more) ++ tail ≡ line ++ 10 ∷ (more ++ tail)
joined t line more tail is =
    append_assoc t more tail ∙ (ap (λ (x : List ℕ). x ++ (more ++ tail)) is ∙ append_assoc line (10 ∷ []) (more ++ tail))

pub one-line : (last : World) (line rest : List ℕ) → Lacks 10 line → entries_of last (line ++ 10 ∷ rest) ≡ entry_of last line ∷ entries_of last rest
one-line last line rest h =
    ap (λ (ls : List (List ℕ)). map (entry_of last) (ls ++ where_some (rest_from [] (line ++ 10 ∷ rest)))) (line-ended line rest h)
    ∙ ap (λ (r : List ℕ). map (entry_of last) ((line ∷ ended_from [] rest) ++ where_some r)) (line-rest line rest h)

-- texts, and what follows them
pub entries-are : (last : World) (ts : List (List ℕ)) (es : List Entry) (tail : List ℕ) → AreRead last ts es → entries_of last (concat ts ++ tail) ≡ es ++ entries_of last tail
entries-are last [] [] tail h = refl
entries-are last [] (e ∷ es) tail h = absurd h
entries-are last (t ∷ ts) [] tail h = absurd h
entries-are last (t ∷ ts) (e ∷ es) tail h =
    ap (entries_of last) (joined t h.0.0 (concat ts) tail h.0.1.text_is)
    ∙ (one-line last h.0.0 (concat ts ++ tail) h.0.1.lacks
    ∙ (ap (λ (x : Entry). x ∷ entries_of last (concat ts ++ tail)) h.0.2 ∙ ap (λ (xs : List Entry). e ∷ xs) (entries-are last ts es tail h.1)))

-- ---- the texts of one line of events

-- A mark of which the report can tell.
pub record IsGoodMark (last : World) (m : Mark) : Type 0 where
  pub named : IsNamed last m.peer
  pub writable : IsWritable m
  pub early : m.version ≤ last.version
  pub had : had_session last m.peer m.session ≡ true

pub syncs_read : (last : World) (ms : List Mark) → Each (IsGoodMark last) ms → AreRead last (map (mark_text (codes "sync") (names_in last)) ms) (map Sync ms)
syncs_read last [] h = tt
syncs_read last (m ∷ ms) h =
    ((mark_line (codes "sync") (names_in last) m, mark-ended last m h.0.named h.0.writable (codes "sync") sync_word, sync-read last m h.0.named h.0.writable h.0.early h.0.had), syncs_read last ms h.1)

abbrev pub pass : Mark → Entry
pass m = Passes

pub refreshes_read : (last : World) (ms : List Mark) → Each (IsGoodMark last) ms → AreRead last (map (mark_text (codes "refresh") (names_in last)) ms) (map pass ms)
refreshes_read last [] h = tt
refreshes_read last (m ∷ ms) h =
    ((mark_line (codes "refresh") (names_in last) m, mark-ended last m h.0.named h.0.writable (codes "refresh") refresh_word, refresh-read last m h.0.named h.0.writable), refreshes_read last ms h.1)

abbrev pub lose : Loss → Entry
lose l = Lost l.peer l.session

-- A loss of which it can.
pub record IsGoodLoss (last : World) (l : Loss) : Type 0 where
  pub named : IsNamed last l.peer
  pub small : l.session < 18446744073709551616
  pub had : had_session last l.peer l.session ≡ true

pub losses_read : (last : World) (ls : List Loss) → Each (IsGoodLoss last) ls → AreRead last (map (loss_text (names_in last)) ls) (map lose ls)
losses_read last [] h = tt
losses_read last (l ∷ ls) h =
    ((loss_line (names_in last) l, loss-ended last l h.0.named h.0.small, loss-read last l h.0.named h.0.small h.0.had), losses_read last ls h.1)
