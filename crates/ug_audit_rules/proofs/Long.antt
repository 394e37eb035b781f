-- What a line tells of which the front alone is kept.
use Rattle.std.proofs.Common.{◌≡◌, ◌⊎◌, inl, inr, ℕ, zero, suc, ◌+◌, ◌-◌, ◌<◌, ◌≤◌, ◌^◌, Bool, true, false, List, [], ◌∷◌, ◌++◌, length, take, drop, slice_get, Option, Some, None, refl, sym, ◌∙◌, ap, subst, arith, length-append, append_assoc}
use Rattle.std.specs.Prelude.{◌==◌, nat_lt, nat_le, ◌&&◌, codes, if◌then◌else◌}
use Rattle.std.specs.Fmt.{decimal}
use Rattle.std.specs.Str.Parse.{digits_value}
use Rattle.std.proofs.lemmas.Bool.{ltb-true, cases_lt}
use Rattle.std.proofs.lemmas.Fmt.{length-decimal-le}
use Rattle.std.proofs.lemmas.List.{append-nil}
use Rattle.ug_types.specs.Bytes.{same_bytes}
use Rattle.ug_types.specs.declared.mark.Mark.{Mark}
use Rattle.ug_text.specs.Cutting.{pieces_from, pieces, ◌>>=◌}
use Rattle.ug_world.specs.World.{World}
use Rattle.ug_audit_rules.specs.declared.entry.Entry.{Entry}
use Rattle.ug_audit_rules.specs.declared.entry.Entry.TheVariants.{Passes, Sync, Lost, Unclear}
use Rattle.ug_audit_rules.specs.Reports.{peer_names_in, written_number, where_written, place_from, had_session, where_true, mark_said, loss_said, mark_or, loss_or, entry_by, entry_of}
use Rattle.ug_audit_rules.specs.Kept.{IsAmple, IsKept}
use Rattle.ug_audit_rules.proofs.Digits.{bytes_same}

-- ---- how many bytes words have

-- with a space between each two
total : List (List ℕ) → ℕ
total [] = 0
total (w ∷ []) = length w
total (w ∷ x ∷ words) = length w + (1 + total (x ∷ words))

record HasFirst (front : List ℕ) (words : List (List ℕ)) : Type 0 where
  word : List ℕ
  more : List (List ℕ)
  is : words ≡ word ∷ more
  long : length front ≤ length word

last_longer : (front : List ℕ) (b : ℕ) → length (front ++ b ∷ []) ≡ length front + 1
last_longer front b = length-append front (b ∷ [])

first_of : (front text : List ℕ) → HasFirst front (pieces_from 32 front text)
unfolding pieces_from
first_of front [] = record { word = front; more = []; is = refl; long = omega arith }
first_of front (b ∷ text) = by (b == 32) (first_of (front ++ b ∷ []) text)
  where
    by : (t : Bool) → HasFirst (front ++ b ∷ []) (pieces_from 32 (front ++ b ∷ []) text) → HasFirst front (if t then front ∷ pieces_from 32 [] text else pieces_from 32 (front ++ b ∷ []) text)
    by true later = record { word = front; more = pieces_from 32 [] text; is = refl; long = omega arith }
    by false later = record { word = later.word; more = later.more; is = later.is; long = (let n = last_longer front b in let l = later.long in omega arith) }

total_of : (front text : List ℕ) → total (pieces_from 32 front text) ≡ length front + length text
unfolding pieces_from total
total_of front [] = omega arith
total_of front (b ∷ text) = by (b == 32) (first_of [] text) (total_of [] text) (total_of (front ++ b ∷ []) text)
  where
    by : (t : Bool) → HasFirst [] (pieces_from 32 [] text) → total (pieces_from 32 [] text) ≡ 0 + length text → total (pieces_from 32 (front ++ b ∷ []) text) ≡ length (front ++ b ∷ []) + length text
        → total (if t then front ∷ pieces_from 32 [] text else pieces_from 32 (front ++ b ∷ []) text) ≡ length front + suc (length text)
    by true first rest other =
        let all : total (front ∷ pieces_from 32 [] text) ≡ length front + (1 + total (pieces_from 32 [] text)) =
        ap (λ (ws : List (List ℕ)). total (front ∷ ws)) first.is ∙ sym (ap (λ (ws : List (List ℕ)). length front + (1 + total ws)) first.is) in
        all ∙ omega (arith, rest)
    by false first rest other = other ∙ (let n = last_longer front b in omega (arith, n))

-- ---- the first word of a line and of a longer one

record AreAlike (n : ℕ) (ones twos : List (List ℕ)) : Type 0 where
  word : List ℕ
  words : List (List ℕ)
  other : List ℕ
  others : List (List ℕ)
  is : ones ≡ word ∷ words
  longer : twos ≡ other ∷ others
  same : (word ≡ other) ⊎ ((n ≤ length word) × (n ≤ length other))

alike : (front text more : List ℕ) → AreAlike (length front + length text) (pieces_from 32 front text) (pieces_from 32 front (text ++ more))
unfolding pieces_from
alike front [] more =
    let first = first_of front more in
    let long = first.long in
    record { word = front; words = []; other = first.word; others = first.more; is = refl; longer = first.is; same = inr (omega arith, omega arith) }
alike front (b ∷ text) more = by (b == 32) (alike (front ++ b ∷ []) text more)
  where
    by : (t : Bool) → AreAlike (length (front ++ b ∷ []) + length text) (pieces_from 32 (front ++ b ∷ []) text) (pieces_from 32 (front ++ b ∷ []) (text ++ more))
        → AreAlike (length front + suc (length text)) (if t then front ∷ pieces_from 32 [] text else pieces_from 32 (front ++ b ∷ []) text)
        (if t then front ∷ pieces_from 32 [] (text ++ more) else pieces_from 32 (front ++ b ∷ []) (text ++ more))
    by true later = record { word = front; words = pieces_from 32 [] text; other = front; others = pieces_from 32 [] (text ++ more); is = refl; longer = refl; same = inl refl }
    by false later = record {
      word = later.word;
      words = later.words;
      other = later.other;
      others = later.others;
      is = later.is;
      longer = later.longer;
      same = elim later.same [
        | inl one ↦ inl one
        | inr long ↦ inr ((let n = last_longer front b in let l = long.0 in omega arith), (let n = last_longer front b in let l = long.1 in omega arith))
      ];
    }

-- ---- lines that tell something are short

written_short : (word : List ℕ) (n : ℕ) → written_number word ≡ Some n → length word ≤ 20
written_short word n e = by (same_bytes (decimal (digits_value 10 word)) word) (nat_lt (digits_value 10 word) 18446744073709551616) refl refl e
  where
    by : (s t : Bool) → same_bytes (decimal (digits_value 10 word)) word ≡ s → nat_lt (digits_value 10 word) 18446744073709551616 ≡ t → (if s && t then Some (digits_value 10 word) else None) ≡ Some n → length word ≤ 20
    by true true s t e =
        let less = ltb-true (digits_value 10 word) 18446744073709551616 t in
        subst (λ (x : List ℕ). length x ≤ 20) (bytes_same (decimal (digits_value 10 word)) word s) (length-decimal-le 20 (digits_value 10 word) (omega arith) (omega arith) (omega arith))
    by true false s t e = absurd cc
    by false t s u e = absurd cc

place_there : (names : List (List ℕ)) (p : ℕ) (name : List ℕ) (q : ℕ) → place_from p names name ≡ Some q → (i : ℕ) × (slice_get names i ≡ Some name)
place_there [] p name q e = absurd cc
place_there (x ∷ names) p name q e = by (same_bytes x name) refl e (λ e. place_there names (p + 1) name q e)
  where
    by : (t : Bool) → same_bytes x name ≡ t → (if t then Some p else place_from (p + 1) names name) ≡ Some q → (place_from (p + 1) names name ≡ Some q → (i : ℕ) × (slice_get names i ≡ Some name))
        → (i : ℕ) × (slice_get (x ∷ names) i ≡ Some name)
    by true same e rest = (0, ap Some (bytes_same x name same))
    by false other e rest = let there = rest e in (suc there.0, there.1)

IsThere : Option ℕ → Type 0
IsThere o = (x : ℕ) × (o ≡ Some x)

all_four : (a b c d : Option ℕ) (f : ℕ → ℕ → ℕ → ℕ → Option Mark) (m : Mark) → (a >>= (λ v. b >>= (λ p. c >>= (λ n. d >>= (λ h. f v p n h))))) ≡ Some m → IsThere a × IsThere b × IsThere c × IsThere d
unfolding IsThere
all_four None b c d f m e = absurd cc
all_four (Some v) None c d f m e = absurd cc
all_four (Some v) (Some p) None d f m e = absurd cc
all_four (Some v) (Some p) (Some n) None f m e = absurd cc
all_four (Some v) (Some p) (Some n) (Some h) f m e = ((v, refl), (p, refl), (n, refl), (h, refl))

both : (a b : Option ℕ) (f : ℕ → ℕ → Option Entry) (m : Entry) → (a >>= (λ p. b >>= (λ n. f p n))) ≡ Some m → IsThere a × IsThere b
unfolding IsThere
both None b f m e = absurd cc
both (Some p) None f m e = absurd cc
both (Some p) (Some n) f m e = ((p, refl), (n, refl))

more_words : (word : List ℕ) (words : List (List ℕ)) → total (word ∷ words) ≤ length word + (1 + total words)
unfolding total
more_words word [] = omega arith
more_words word (x ∷ words) = omega arith

module _ (last : World) (most : ℕ) (ample : IsAmple last most) where
  name_short : (name : List ℕ) (q : ℕ) → place_from 0 (peer_names_in last) name ≡ Some q → length name + 69 ≤ most
  name_short name q e = let there = place_there (peer_names_in last) 0 name q e in ample.1 there.0 name there.1

  mark_short : (words : List (List ℕ)) (m : Mark) → mark_said last words ≡ Some m → total words + 6 ≤ most
  unfolding total IsThere
  mark_short [] m e = absurd cc
  mark_short (v ∷ []) m e = absurd cc
  mark_short (v ∷ n ∷ []) m e = absurd cc
  mark_short (v ∷ n ∷ s ∷ []) m e = absurd cc
  mark_short (v ∷ n ∷ s ∷ h ∷ []) m e =
      let four = all_four (written_number v) (place_from 0 (peer_names_in last) n) (written_number s) (written_number h)
      (λ v' p k h'. where_true (nat_le v' last.version && had_session last p k) (record { version = v'; peer = p; session = k; handed = h' })) m e in
      let one = written_short v four.0.0 four.0.1 in
      let two = name_short n four.1.0 four.1.1 in
      let three = written_short s four.2.0 four.2.1 in
      let last_one = written_short h four.3.0 four.3.1 in
      omega arith
  mark_short (v ∷ n ∷ s ∷ h ∷ x ∷ words) m e = absurd cc

  loss_short : (words : List (List ℕ)) (m : Entry) → loss_said last words ≡ Some m → total words + 6 ≤ most
  unfolding total IsThere
  loss_short [] m e = absurd cc
  loss_short (n ∷ []) m e = absurd cc
  loss_short (n ∷ s ∷ []) m e =
      let two = both (place_from 0 (peer_names_in last) n) (written_number s) (λ p k. where_true (had_session last p k) (Lost p k)) m e in
      let one = name_short n two.0.0 two.0.1 in
      let other = written_short s two.1.0 two.1.1 in
      omega arith
  loss_short (n ∷ s ∷ x ∷ words) m e = absurd cc

  -- ---- a line that is too long for a mark or a loss

  long_entry : List ℕ → Entry
  long_entry word = if same_bytes word (codes "sync") then Unclear else if same_bytes word (codes "lost") then Unclear else Passes

  four_long : (word : List ℕ) (t : List ℕ) → same_bytes word t ≡ true → length t ≡ 4 → length word ≡ 4
  four_long word t same four = ap (λ (w : List ℕ). length w) (bytes_same word t same) ∙ four

  no_mark : (word : List ℕ) (words : List (List ℕ)) → most ≤ total (word ∷ words) → length word ≡ 4 → mark_said last words ≡ None
  no_mark word words long four = by (mark_said last words) refl
    where
      by : (o : Option Mark) → mark_said last words ≡ o → o ≡ None
      by None e = refl
      by (Some m) e = let few = mark_short words m e in let all = more_words word words in absurd (omega (arith, few, all, long, four))

  no_loss : (word : List ℕ) (words : List (List ℕ)) → most ≤ total (word ∷ words) → length word ≡ 4 → loss_said last words ≡ None
  no_loss word words long four = by (loss_said last words) refl
    where
      by : (o : Option Entry) → loss_said last words ≡ o → o ≡ None
      by None e = refl
      by (Some m) e = let few = loss_short words m e in let all = more_words word words in absurd (omega (arith, few, all, long, four))

  entry_long : (word : List ℕ) (words : List (List ℕ)) → most ≤ total (word ∷ words) → entry_by last (word ∷ words) ≡ long_entry word
  unfolding long_entry
  entry_long word words long = by (same_bytes word (codes "sync")) (same_bytes word (codes "lost")) refl refl
    where
      by : (s t : Bool) → same_bytes word (codes "sync") ≡ s → same_bytes word (codes "lost") ≡ t
          → (if s then mark_or (mark_said last words) else if t then loss_or (loss_said last words) else Passes) ≡ (if s then Unclear else if t then Unclear else Passes)
      by true t e f = ap mark_or (no_mark word words long (four_long word (codes "sync") e refl))
      by false true e f = ap loss_or (no_loss word words long (four_long word (codes "lost") f refl))
      by false false e f = refl

  not_four : (word : List ℕ) (t : List ℕ) → length t ≡ 4 → most ≤ length word → same_bytes word t ≡ false
  not_four word t four long = by (same_bytes word t) refl
    where
      by : (b : Bool) → same_bytes word t ≡ b → b ≡ false
      by false e = refl
      by true e = let l = four_long word t e four in let m = ample.0 in absurd (omega (arith, l, m, long))

  passes : (word : List ℕ) → most ≤ length word → long_entry word ≡ Passes
  unfolding long_entry
  passes word long =
      ap (λ (b : Bool). if b then Unclear else if same_bytes word (codes "lost") then Unclear else Passes) (not_four word (codes "sync") refl long)
      ∙ ap (λ (b : Bool). if b then Unclear else Passes) (not_four word (codes "lost") refl long)

  pub kept-tells : (kept all : List ℕ) → IsKept most kept all → entry_of last kept ≡ entry_of last all
  unfolding entry_of
  kept-tells kept all h = elim h.cut [
    | inl none ↦ ap (λ (line : List ℕ). entry_by last (pieces 32 line)) (sym (h.parts ∙ (ap (λ (m : List ℕ). kept ++ m) none ∙ append-nil kept)))
    | inr long ↦
        (let a = alike [] kept h.more in
        let size = total_of [] kept in
        let size' = total_of [] (kept ++ h.more) in
        let lengths = length-append kept h.more in
        let one : most ≤ total (a.word ∷ a.words) = subst (λ (ws : List (List ℕ)). most ≤ total ws) a.is (omega (arith, size, long)) in
        let two : most ≤ total (a.other ∷ a.others) = subst (λ (ws : List (List ℕ)). most ≤ total ws) a.longer (omega (arith, size', lengths, long)) in
        let same : long_entry a.word ≡ long_entry a.other = elim a.same [
          | inl is ↦ ap long_entry is
          | inr far ↦ passes a.word (let l = far.0 in omega (arith, l, long)) ∙ sym (passes a.other (let l = far.1 in omega (arith, l, long)))
        ] in
        ap (entry_by last) a.is ∙ (entry_long a.word a.words one ∙ (same ∙ (sym (entry_long a.other a.others two)
        ∙ (sym (ap (entry_by last) a.longer) ∙ ap (λ (line : List ℕ). entry_by last (pieces 32 line)) (sym h.parts))))))
  ]

-- ---- what is kept, as bytes follow

pub kept-none : (most : ℕ) → IsKept most [] []
kept-none most = record { more = []; parts = refl; cut = inl refl }

pub kept-more : (most : ℕ) (old new bytes : List ℕ) → new ≡ old ++ take (most - length old) bytes → (all : List ℕ) → IsKept most old all → IsKept most new (all ++ bytes)
kept-more most old new bytes is all h = elim h.cut [
  | inl none ↦ record {
    more = drop (most - length old) bytes;
    parts = ap (λ (a : List ℕ). a ++ bytes) (h.parts ∙ (ap (λ (m : List ℕ). old ++ m) none ∙ append-nil old))
        ∙ (ap (λ (x : List ℕ). old ++ x) (sym (take_drop (most - length old) bytes)) ∙ (sym (append_assoc old (take (most - length old) bytes) (drop (most - length old) bytes)) ∙ ap (λ (x : List ℕ). x ++ drop (most - length old) bytes) (sym is)));
    cut = enough (most - length old) bytes (λ full. let n = size in omega (arith, n, full));
  }
  | inr long ↦ (let none : take (most - length old) bytes ≡ [] = take_none (most - length old) bytes (omega (arith, long)) in
      let same : new ≡ old = is ∙ (ap (λ (x : List ℕ). old ++ x) none ∙ append-nil old) in
      record {
        more = h.more ++ bytes;
        parts = ap (λ (a : List ℕ). a ++ bytes) h.parts ∙ (append_assoc old h.more bytes ∙ ap (λ (x : List ℕ). x ++ (h.more ++ bytes)) (sym same));
        cut = inr (subst (λ (x : List ℕ). most ≤ length x) (sym same) long);
      })
]
  where
    size : length new ≡ length old + length (take (most - length old) bytes)
    size = ap (λ (x : List ℕ). length x) is ∙ length-append old (take (most - length old) bytes)

    take_drop : (n : ℕ) (xs : List ℕ) → take n xs ++ drop n xs ≡ xs
    take_drop zero [] = refl
    take_drop zero (x ∷ xs) = refl
    take_drop (suc n) [] = refl
    take_drop (suc n) (x ∷ xs) = ap (λ (ys : List ℕ). x ∷ ys) (take_drop n xs)

    take_none : (n : ℕ) (xs : List ℕ) → n ≡ 0 → take n xs ≡ []
    take_none zero [] e = refl
    take_none zero (x ∷ xs) e = refl
    take_none (suc n) xs e = absurd (omega (arith, e))

    enough : (n : ℕ) (xs : List ℕ) → (length (take n xs) ≡ n → most ≤ length new) → (drop n xs ≡ []) ⊎ (most ≤ length new)
    enough zero xs goes = inr (goes (ap (λ (ys : List ℕ). length ys) (take_none zero xs refl)))
    enough (suc n) [] goes = inl refl
    enough (suc n) (x ∷ xs) goes = enough n xs (λ full. goes (ap suc full))

pub none-kept : (last : World) (most : ℕ) (kept all : List ℕ) → IsAmple last most → IsKept most kept all → kept ≡ [] → all ≡ []
none-kept last most kept all ample h none = elim h.cut [
  | inl rest ↦ h.parts ∙ (ap (λ (k : List ℕ). k ++ h.more) none ∙ rest)
  | inr long ↦ (let size : length kept ≡ 0 = ap (λ (k : List ℕ). length k) none in let m = ample.0 in absurd (omega (arith, size, m, long)))
]

pub some-kept : (most : ℕ) (kept all : List ℕ) → IsKept most kept all → (kept ≡ [] → ⊥) → all ≡ [] → ⊥
some-kept most [] all h some none = some refl
some-kept most (b ∷ kept) all h some none = let e : (b ∷ kept) ++ h.more ≡ [] = sym h.parts ∙ none in absurd cc
