-- The lines of a report that speak of lines of events, each as it is read.
use Rattle.std.proofs.Common.{◌≡◌, ℕ, ◌+◌, ◌==◌, Bool, true, false, List, [], ◌∷◌, ◌++◌, map, Option, Some, None, Ok, Err, refl, sym, ◌∙◌, ap, arith, append_assoc}
use Rattle.std.specs.Prelude.{codes, not, ◌&&◌, if◌then◌else◌}
use Rattle.std.specs.List.{list_all}
use Rattle.std.specs.Fmt.{decimal}
use Rattle.ug_types.specs.declared.mark.Mark.{Mark}
use Rattle.ug_board.specs.Deeds.{Each}
use Rattle.ug_events.specs.Events.{Saying, SaysNothing, SaysSync, Says}
use Rattle.ug_events.specs.Reads.{Refusal, Reads}
use Rattle.ug_world.specs.World.{World}
use Rattle.ug_world.specs.Verdicts.{verdict}
use Rattle.ug_world.specs.Worlds.{outcome, world_after}
use Rattle.ug_report.specs.Report.{names_in, refusal_text, refusal_name, inner_text, counts_text, Answer, Passed, Refused, Took, Synced, answer_by, answer_to, answer_texts, first_marks, later_marks, line_texts}
use Rattle.ug_audit_rules.specs.declared.entry.Entry.{Entry}
use Rattle.ug_audit_rules.specs.declared.entry.Entry.TheVariants.{Passes, Sync}
use Rattle.ug_audit_rules.specs.Reports.{Lacks}
use Rattle.ug_run.proofs.Words.{lacks-both}
use Rattle.ug_run.proofs.Reading.{other-read}
use Rattle.ug_run.proofs.Assembled.{IsRead, AreRead, read-join, IsGoodMark, any-decimal, pass, syncs_read, refreshes_read}

-- ---- texts without newlines

both_true : (a b : Bool) → (a && b) ≡ true → (a ≡ true) × (b ≡ true)
both_true true b e = (refl, e)
both_true false b e = absurd cc

is_not : (b : Bool) → not b ≡ true → b ≡ false
is_not true e = absurd cc
is_not false e = refl

pub lacks-all : (b : ℕ) (xs : List ℕ) → list_all (λ c. not (c == b)) xs ≡ true → Lacks b xs
lacks-all b [] h = tt
lacks-all b (x ∷ xs) h = let parts = both_true (not (x == b)) (list_all (λ c. not (c == b)) xs) h in (is_not (x == b) parts.0, lacks-all b xs parts.1)

if_lacks : (t : Bool) (xs ys : List ℕ) → list_all (λ c. not (c == 10)) xs ≡ true → Lacks 10 ys → Lacks 10 (if t then xs else ys)
if_lacks true xs ys h k = lacks-all 10 xs h
if_lacks false xs ys h k = k

name_lacks : (n : ℕ) → Lacks 10 (refusal_name n)
name_lacks n =
    if_lacks (n == 1) (codes "unknown-peer") _ refl
    (if_lacks (n == 2) (codes "already-up") _ refl
    (if_lacks (n == 3) (codes "not-up") _ refl
    (if_lacks (n == 4) (codes "no-such-prefix") _ refl
    (if_lacks (n == 5) (codes "unknown-policy") _ refl
    (if_lacks (n == 6) (codes "unknown-list") _ refl
    (if_lacks (n == 7) (codes "same-path-id") _ refl
    (if_lacks (n == 8) (codes "too-many-paths") _ refl
    (if_lacks (n == 9) (codes "table-full") _ refl
    (if_lacks (n == 11) (codes "no-orf") _ refl
    (if_lacks (n == 12) (codes "orf-full") _ refl
    (if_lacks (n == 20) (codes "line-too-long") _ refl
    (if_lacks (n == 21) (codes "bad-verb") _ refl
    (if_lacks (n == 22) (codes "bad-words") _ refl
    (if_lacks (n == 23) (codes "bad-prefix") _ refl
    (if_lacks (n == 24) (codes "bad-attribute") _ refl
    (if_lacks (n == 25) (codes "bad-name") _ refl (lacks-all 10 (codes "bad-message") refl)))))))))))))))))

inner_lacks : (o : Option ℕ) → Lacks 10 (inner_text o)
inner_lacks None = tt
inner_lacks (Some n) = (refl, any-decimal 10 n (omega arith))

-- ---- refusals, and counts

ended : (a b : List ℕ) → (a ++ b) ++ 10 ∷ [] ≡ a ++ (b ++ 10 ∷ [])
ended a b = append_assoc a b (10 ∷ [])

behind : (a x y : List ℕ) → x ≡ y → a ++ x ≡ a ++ y
behind a x y same = ap (λ (z : List ℕ). a ++ z) same

abbrev refusal_rest : ℕ → Refusal → List ℕ
refusal_rest n r = decimal n ++ (codes " refused " ++ (decimal r.number ++ (codes " " ++ (refusal_name r.number ++ inner_text r.inner))))

rest_ended : (n : ℕ) (r : Refusal) → refusal_rest n r ++ 10 ∷ [] ≡ decimal n ++ (codes " refused " ++ (decimal r.number ++ (codes " " ++ (refusal_name r.number ++ (inner_text r.inner ++ codes "\n")))))
rest_ended n r =
    ended (decimal n) (codes " refused " ++ (decimal r.number ++ (codes " " ++ (refusal_name r.number ++ inner_text r.inner))))
    ∙ behind (decimal n) _ _
    (behind (codes " refused ") _ _
    (ended (decimal r.number) (codes " " ++ (refusal_name r.number ++ inner_text r.inner)) ∙ behind (decimal r.number) _ _ (behind (codes " ") _ _ (ended (refusal_name r.number) (inner_text r.inner)))))

refused-read : (last : World) (n : ℕ) (r : Refusal) → IsRead last (refusal_text n r) Passes
unfolding refusal_text
refused-read last n r = (
  codes "line" ++ 32 ∷ refusal_rest n r,
  record {
    text_is = behind (codes "line ") _ _ (sym (rest_ended n r));
    lacks =
        lacks-both 10 (codes "line ") (refusal_rest n r) (lacks-all 10 (codes "line ") refl)
        (lacks-both 10 (decimal n) _ (any-decimal 10 n (omega arith))
        (lacks-both 10 (codes " refused ") _ (lacks-all 10 (codes " refused ") refl)
        (lacks-both 10 (decimal r.number) _ (any-decimal 10 r.number (omega arith))
        (lacks-both 10 (codes " ") _ (lacks-all 10 (codes " ") refl) (lacks-both 10 (refusal_name r.number) (inner_text r.inner) (name_lacks r.number) (inner_lacks r.inner))))));
  },
  other-read last (codes "line") (refusal_rest n r) (lacks-all 32 (codes "line") refl) refl,
)

abbrev counts_rest : ℕ → ℕ → List ℕ
counts_rest a r = decimal a ++ (codes " refused " ++ decimal r)

pub counts-read : (last : World) (a r : ℕ) → IsRead last (counts_text a r) Passes
unfolding counts_text
counts-read last a r = (
  codes "accepted" ++ 32 ∷ counts_rest a r,
  record {
    text_is = behind (codes "accepted ") _ _ (sym (ended (decimal a) (codes " refused " ++ decimal r)));
    lacks =
        lacks-both 10 (codes "accepted ") (counts_rest a r) (lacks-all 10 (codes "accepted ") refl)
        (lacks-both 10 (decimal a) _ (any-decimal 10 a (omega arith)) (lacks-both 10 (codes " refused ") (decimal r) (lacks-all 10 (codes " refused ") refl) (any-decimal 10 r (omega arith))));
  },
  other-read last (codes "accepted") (counts_rest a r) (lacks-all 32 (codes "accepted") refl) refl,
)

-- ---- all lines of events

abbrev pub answer_entries : Answer → List Entry
answer_entries Passed = []
answer_entries (Refused r) = Passes ∷ []
answer_entries (Took ms) = map pass ms
answer_entries (Synced ms) = map Sync ms

abbrev pub line_entries : World → List (Reads Saying) → List (List Mark) → List Entry
line_entries w [] marks = []
line_entries w (line ∷ lines) marks = answer_entries (answer_to w line (first_marks marks)) ++ line_entries (world_after w (outcome w line)) lines (later_marks marks)

module _ (last : World) where
  AreGood : List (List Mark) → Type 0
  AreGood marks = Each (Each (IsGoodMark last)) marks

  good_first : (marks : List (List Mark)) → Each (Each (IsGoodMark last)) marks → Each (IsGoodMark last) (first_marks marks)
  good_first [] h = tt
  good_first (ms ∷ marks) h = h.0

  good_later : (marks : List (List Mark)) → Each (Each (IsGoodMark last)) marks → Each (Each (IsGoodMark last)) (later_marks marks)
  good_later [] h = tt
  good_later (ms ∷ marks) h = h.1

  by_verdict : (n : ℕ) (v : Option ℕ) (ms : List Mark) → Each (IsGoodMark last) ms → AreRead last (answer_texts (names_in last) n (answer_by v ms)) (answer_entries (answer_by v ms))
  by_verdict n None ms h = refreshes_read last ms h
  by_verdict n (Some number) ms h = (refused-read last n (record { number = number; inner = None }), tt)

  answer-read : (n : ℕ) (w : World) (line : Reads Saying) (ms : List Mark) → Each (IsGoodMark last) ms → AreRead last (answer_texts (names_in last) n (answer_to w line ms)) (answer_entries (answer_to w line ms))
  answer-read n w (Ok SaysNothing) ms h = tt
  answer-read n w (Ok SaysSync) ms h = syncs_read last ms h
  answer-read n w (Ok (Says e)) ms h = by_verdict n (verdict w e) ms h
  answer-read n w (Err refusal) ms h = (refused-read last n refusal, tt)

  pub lines-read : (n : ℕ) (w : World) (lines : List (Reads Saying)) (marks : List (List Mark)) → Each (Each (IsGoodMark last)) marks → AreRead last (line_texts (names_in last) n w lines marks) (line_entries w lines marks)
  lines-read n w [] marks h = tt
  lines-read n w (line ∷ lines) marks h =
      read-join last (answer_texts (names_in last) n (answer_to w line (first_marks marks))) (line_texts (names_in last) (n + 1) (world_after w (outcome w line)) lines (later_marks marks))
      (answer_entries (answer_to w line (first_marks marks))) (line_entries (world_after w (outcome w line)) lines (later_marks marks)) (answer-read n w line (first_marks marks) (good_first marks h))
      (lines-read (n + 1) (world_after w (outcome w line)) lines (later_marks marks) (good_later marks h))
