-- The lines of a report, read again.
use Rattle.std.proofs.Common.{◌≡◌, ℕ, ◌<◌, ◌≤◌, Bool, true, List, [], ◌∷◌, ◌++◌, Option, Some, refl, sym, ◌∙◌, ap, arith, append_assoc}
use Rattle.std.specs.Prelude.{codes, ◌&&◌, nat_le}
use Rattle.std.specs.Fmt.{decimal}
use Rattle.std.proofs.lemmas.Bool.Decides.{nat_tests}
use Rattle.ug_types.specs.declared.mark.Mark.{Mark}
use Rattle.ug_text.specs.Cutting.{pieces, ◌>>=◌}
use Rattle.ug_world.specs.World.{World}
use Rattle.ug_report.specs.declared.endings.Loss.{Loss}
use Rattle.ug_report.specs.Report.{names_in, name_at, mark_text, loss_text}
use Rattle.ug_audit_rules.specs.declared.entry.Entry.{Entry}
use Rattle.ug_audit_rules.specs.declared.entry.Entry.TheVariants.{Passes, Sync, Lost}
use Rattle.ug_audit_rules.specs.Reports.{Lacks, IsWord, written_number, place_from, had_session, where_true, mark_or, loss_or, entry_by, entry_of}
use Rattle.ug_run.proofs.Worlds.{IsNamed}
use Rattle.ug_run.proofs.Words.{lacks-both, lacks-decimal, word-cut, last-word, written-again}

-- A text is this line, and the newline behind it.
pub record IsLine (line text : List ℕ) : Type 0 where
  pub text_is : text ≡ line ++ 10 ∷ []
  pub lacks : Lacks 10 line

number-word : (n : ℕ) → n < 18446744073709551616 → IsWord (decimal n)
number-word n small = record { no_space = lacks-decimal 32 n (omega arith) small; no_newline = lacks-decimal 10 n (omega arith) small }

abbrev pub sync_word : IsWord (codes "sync")
sync_word = record { no_space = (refl, (refl, (refl, (refl, tt)))); no_newline = (refl, (refl, (refl, (refl, tt)))) }

abbrev pub lost_word : IsWord (codes "lost")
lost_word = record { no_space = (refl, (refl, (refl, (refl, tt)))); no_newline = (refl, (refl, (refl, (refl, tt)))) }

abbrev pub refresh_word : IsWord (codes "refresh")
refresh_word =
    record { no_space = (refl, (refl, (refl, (refl, (refl, (refl, (refl, tt))))))); no_newline = (refl, (refl, (refl, (refl, (refl, (refl, (refl, tt))))))) }

-- ---- lines of five words, and of three

abbrev five : List ℕ → List ℕ → List ℕ → List ℕ → List ℕ → List ℕ
five a b c d e = a ++ 32 ∷ (b ++ 32 ∷ (c ++ 32 ∷ (d ++ 32 ∷ e)))

abbrev three : List ℕ → List ℕ → List ℕ → List ℕ
three a b c = a ++ 32 ∷ (b ++ 32 ∷ c)

ended : (a b : List ℕ) → (a ++ 32 ∷ b) ++ 10 ∷ [] ≡ a ++ 32 ∷ (b ++ 10 ∷ [])
ended a b = append_assoc a (32 ∷ b) (10 ∷ [])

behind_word : (a x y : List ℕ) → x ≡ y → a ++ 32 ∷ x ≡ a ++ 32 ∷ y
behind_word a x y same = ap (λ (z : List ℕ). a ++ 32 ∷ z) same

five_ended : (a b c d e : List ℕ) → five a b c d e ++ 10 ∷ [] ≡ a ++ 32 ∷ (b ++ 32 ∷ (c ++ 32 ∷ (d ++ 32 ∷ (e ++ 10 ∷ []))))
five_ended a b c d e =
    ended a (b ++ 32 ∷ (c ++ 32 ∷ (d ++ 32 ∷ e)))
    ∙ behind_word a ((b ++ 32 ∷ (c ++ 32 ∷ (d ++ 32 ∷ e))) ++ 10 ∷ []) (b ++ 32 ∷ (c ++ 32 ∷ (d ++ 32 ∷ (e ++ 10 ∷ []))))
    (ended b (c ++ 32 ∷ (d ++ 32 ∷ e))
    ∙ behind_word b ((c ++ 32 ∷ (d ++ 32 ∷ e)) ++ 10 ∷ []) (c ++ 32 ∷ (d ++ 32 ∷ (e ++ 10 ∷ [])))
    (ended c (d ++ 32 ∷ e) ∙ behind_word c ((d ++ 32 ∷ e) ++ 10 ∷ []) (d ++ 32 ∷ (e ++ 10 ∷ [])) (ended d e)))

three_ended : (a b c : List ℕ) → three a b c ++ 10 ∷ [] ≡ a ++ 32 ∷ (b ++ 32 ∷ (c ++ 10 ∷ []))
three_ended a b c = ended a (b ++ 32 ∷ c) ∙ behind_word a ((b ++ 32 ∷ c) ++ 10 ∷ []) (b ++ 32 ∷ (c ++ 10 ∷ [])) (ended b c)

spaced : (a b : List ℕ) → Lacks 10 a → Lacks 10 b → Lacks 10 (a ++ 32 ∷ b)
spaced a b h k = lacks-both 10 a (32 ∷ b) h (refl, k)

five_words : (a b c d e : List ℕ) → IsWord a → IsWord b → IsWord c → IsWord d → IsWord e → pieces 32 (five a b c d e) ≡ a ∷ b ∷ c ∷ d ∷ e ∷ []
five_words a b c d e ha hb hc hd he =
    word-cut a (b ++ 32 ∷ (c ++ 32 ∷ (d ++ 32 ∷ e))) ha.no_space
    ∙ ap (λ (ws : List (List ℕ)). a ∷ ws)
    (word-cut b (c ++ 32 ∷ (d ++ 32 ∷ e)) hb.no_space
    ∙ ap (λ (ws : List (List ℕ)). b ∷ ws)
    (word-cut c (d ++ 32 ∷ e) hc.no_space
    ∙ ap (λ (ws : List (List ℕ)). c ∷ ws) (word-cut d e hd.no_space ∙ ap (λ (ws : List (List ℕ)). d ∷ ws) (last-word e he.no_space))))

three_words : (a b c : List ℕ) → IsWord a → IsWord b → IsWord c → pieces 32 (three a b c) ≡ a ∷ b ∷ c ∷ []
three_words a b c ha hb hc =
    word-cut a (b ++ 32 ∷ c) ha.no_space ∙ ap (λ (ws : List (List ℕ)). a ∷ ws) (word-cut b c hb.no_space ∙ ap (λ (ws : List (List ℕ)). b ∷ ws) (last-word c hc.no_space))

-- ---- marks

-- The mark can be written: its numbers are of 64 bits.
pub record IsWritable (m : Mark) : Type 0 where
  pub version : m.version < 18446744073709551616
  pub session : m.session < 18446744073709551616
  pub handed : m.handed < 18446744073709551616

abbrev pub mark_line : List ℕ → List (List ℕ) → Mark → List ℕ
mark_line word names m = five word (decimal m.version) (name_at names m.peer) (decimal m.session) (decimal m.handed)

module _ (last : World) (m : Mark) (named : IsNamed last m.peer) (writable : IsWritable m) where
  words_are : (word : List ℕ) → IsWord word → pieces 32 (mark_line word (names_in last) m) ≡ word ∷ decimal m.version ∷ name_at (names_in last) m.peer ∷ decimal m.session ∷ decimal m.handed ∷ []
  words_are word is =
      five_words word (decimal m.version) (name_at (names_in last) m.peer) (decimal m.session) (decimal m.handed) is (number-word m.version writable.version) named.word
      (number-word m.session writable.session) (number-word m.handed writable.handed)

  pub mark-ended : (word : List ℕ) → IsWord word → IsLine (mark_line word (names_in last) m) (mark_text word (names_in last) m)
  unfolding mark_text
  mark-ended word is =
      let v = (number-word m.version writable.version).no_newline in
      let n = (number-word m.session writable.session).no_newline in
      let k = (number-word m.handed writable.handed).no_newline in
      record {
        text_is = sym (five_ended word (decimal m.version) (name_at (names_in last) m.peer) (decimal m.session) (decimal m.handed));
        lacks =
            spaced word (decimal m.version ++ 32 ∷ (name_at (names_in last) m.peer ++ 32 ∷ (decimal m.session ++ 32 ∷ decimal m.handed))) is.no_newline
            (spaced (decimal m.version) (name_at (names_in last) m.peer ++ 32 ∷ (decimal m.session ++ 32 ∷ decimal m.handed)) v
            (spaced (name_at (names_in last) m.peer) (decimal m.session ++ 32 ∷ decimal m.handed) named.word.no_newline (spaced (decimal m.session) (decimal m.handed) n k)));
      }

  said_all : (ov op on ok : Option ℕ) (v p n k : ℕ) (f : ℕ → ℕ → ℕ → ℕ → Option Mark) → ov ≡ Some v → op ≡ Some p → on ≡ Some n → ok ≡ Some k
      → (ov >>= (λ v. op >>= (λ p. on >>= (λ n. ok >>= (λ k. f v p n k))))) ≡ f v p n k
  said_all ov op on ok v p n k f ev ep en ek = cc

  -- a mark of `sync` is read again
  pub sync-read : m.version ≤ last.version → had_session last m.peer m.session ≡ true → entry_of last (mark_line (codes "sync") (names_in last) m) ≡ Sync m
  unfolding entry_of
  sync-read early had =
      let all = said_all (written_number (decimal m.version)) (place_from 0 (names_in last) (name_at (names_in last) m.peer)) (written_number (decimal m.session)) (written_number (decimal m.handed))
      m.version m.peer m.session m.handed (λ v p n k. where_true (nat_le v last.version && had_session last p n) (record { version = v; peer = p; session = n; handed = k }))
      (written-again m.version writable.version) named.found (written-again m.session writable.session) (written-again m.handed writable.handed)
      in
      ap (entry_by last) (words_are (codes "sync") sync_word)
      ∙ ap mark_or (all ∙ ap (λ (b : Bool). where_true b m) (ap (λ (b : Bool). b && had_session last m.peer m.session) (within m.version last.version early) ∙ had))
    where
      within : (a b : ℕ) → a ≤ b → nat_le a b ≡ true
      within a b h = grind (arith, nat_tests, h)

  -- one of a refresh is passed over
  pub refresh-read : entry_of last (mark_line (codes "refresh") (names_in last) m) ≡ Passes
  unfolding entry_of
  refresh-read = ap (entry_by last) (words_are (codes "refresh") refresh_word)

-- ---- losses

abbrev pub loss_line : List (List ℕ) → Loss → List ℕ
loss_line names l = three (codes "lost") (name_at names l.peer) (decimal l.session)

module _ (last : World) (l : Loss) (named : IsNamed last l.peer) (small : l.session < 18446744073709551616) where
  pub loss-ended : IsLine (loss_line (names_in last) l) (loss_text (names_in last) l)
  unfolding loss_text
  loss-ended = record {
    text_is = sym (three_ended (codes "lost") (name_at (names_in last) l.peer) (decimal l.session));
    lacks =
        spaced (codes "lost") (name_at (names_in last) l.peer ++ 32 ∷ decimal l.session) lost_word.no_newline
        (spaced (name_at (names_in last) l.peer) (decimal l.session) named.word.no_newline (number-word l.session small).no_newline);
  }

  said_both : (op on : Option ℕ) (p n : ℕ) (f : ℕ → ℕ → Option Entry) → op ≡ Some p → on ≡ Some n → (op >>= (λ p. on >>= (λ n. f p n))) ≡ f p n
  said_both op on p n f ep en = cc

  -- a loss is read again
  pub loss-read : had_session last l.peer l.session ≡ true → entry_of last (loss_line (names_in last) l) ≡ Lost l.peer l.session
  unfolding entry_of
  loss-read had =
      let all = said_both (place_from 0 (names_in last) (name_at (names_in last) l.peer)) (written_number (decimal l.session)) l.peer l.session
      (λ p n. where_true (had_session last p n) (Lost p n)) named.found (written-again l.session small)
      in
      ap (entry_by last) (three_words (codes "lost") (name_at (names_in last) l.peer) (decimal l.session) lost_word named.word (number-word l.session small))
      ∙ ap loss_or (all ∙ ap (λ (b : Bool). where_true b (Lost l.peer l.session)) had)

-- ---- other lines

-- A line is passed over whose first word is neither.
pub other-read : (last : World) (word rest : List ℕ) → Lacks 32 word → entry_by last (word ∷ pieces 32 rest) ≡ Passes → entry_of last (word ++ 32 ∷ rest) ≡ Passes
unfolding entry_of
other-read last word rest h passes = ap (entry_by last) (word-cut word rest h) ∙ passes
