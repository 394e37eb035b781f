-- Laws of lines: they may be cut from bytes that come piece by piece, and of each line the front that is kept is enough.
use Rattle.std.proofs.Common.{◌≡◌, ℕ, zero, suc, ◌+◌, ◌-◌, ◌<◌, ◌≤◌, Bool, true, false, eqb, List, [], ◌∷◌, ◌++◌, length, take, refl, sym, ap, subst, ◌∙◌, append_assoc, arith}
use Rattle.std.specs.Global.{Vec}
use Rattle.std.specs.Vec.{vec_len}
use Rattle.std.proofs.lemmas.List.{length-append, length-map, map-append}
use Rattle.ug_pieces.specs.ReadingLaws.{take_front}
use Rattle.ug_pieces.specs.Lines.{ended_from, rest_from, where_some, kept_of, TakesSome}
use Rattle.ug_pieces.specs.LineSteps.{HasTakenLines, HasStoppedWithin, lines_from}
use Rattle.ug_pieces.specs.declared.lines.LineStop.{LineStop}
use Rattle.ug_pieces.specs.declared.lines.LineStop.TheVariants as stops

-- ---- lines of bytes and then of more

pub record AppendsBytes (front a b : List ℕ) : Type 0 where
  pub lines : ended_from front (a ++ b) ≡ ended_from front a ++ ended_from (rest_from front a) b
  pub rest : rest_from front (a ++ b) ≡ rest_from (rest_from front a) b

pub more_bytes : (front a b : List ℕ) → AppendsBytes front a b
unfolding ended_from rest_from
more_bytes front [] b = record { lines = refl; rest = refl }
more_bytes front (x ∷ a) b = by_test (eqb x 10) refl (more_bytes [] a b) (more_bytes (front ++ x ∷ []) a b)
  where
    by_test : (t : Bool) → eqb x 10 ≡ t → AppendsBytes [] a b → AppendsBytes (front ++ x ∷ []) a b → AppendsBytes front (x ∷ a) b
    by_test true t h k = record { lines = rw t (ap (λ (ls : List (List ℕ)). front ∷ ls) h.lines); rest = rw t h.rest }
    by_test false t h k = record { lines = rw t k.lines; rest = rw t k.rest }

-- ---- what is kept of a line

pub take_take : (n : ℕ) (a b : List ℕ) → take n (take n a ++ b) ≡ take n (a ++ b)
take_take zero a b = refl
take_take (suc n) [] b = refl
take_take (suc n) (x ∷ a) b = ap (λ (z : List ℕ). x ∷ z) (take_take n a b)

take_twice : (n : ℕ) (a : List ℕ) → take n (take n a) ≡ take n a
take_twice zero a = refl
take_twice (suc n) [] = refl
take_twice (suc n) (x ∷ a) = ap (λ (z : List ℕ). x ∷ z) (take_twice n a)

alike_behind : (k : ℕ) (f g b : List ℕ) → take k f ≡ take k g → take k (f ++ b) ≡ take k (g ++ b)
alike_behind k f g b e = sym (take_take k f b) ∙ ap (λ (z : List ℕ). take k (z ++ b)) e ∙ take_take k g b

-- fronts of a line that are alike as far as they are kept
pub record KeptAlike (k : ℕ) (f g bytes : List ℕ) : Type 0 where
  pub lines : kept_of k (ended_from f bytes) ≡ kept_of k (ended_from g bytes)
  pub rest : take k (rest_from f bytes) ≡ take k (rest_from g bytes)

pub kept_alike : (k : ℕ) (f g bytes : List ℕ) → take k f ≡ take k g → KeptAlike k f g bytes
unfolding ended_from rest_from
kept_alike k f g [] e = record { lines = refl; rest = e }
kept_alike k f g (b ∷ bytes) e = by_test (eqb b 10) refl (kept_alike k (f ++ b ∷ []) (g ++ b ∷ []) bytes (alike_behind k f g (b ∷ []) e))
  where
    by_test : (t : Bool) → eqb b 10 ≡ t → KeptAlike k (f ++ b ∷ []) (g ++ b ∷ []) bytes → KeptAlike k f g (b ∷ bytes)
    by_test true t h = record { lines = rw t (ap (λ (z : List ℕ). z ∷ kept_of k (ended_from [] bytes)) e); rest = rw t refl }
    by_test false t h = record { lines = rw t h.lines; rest = rw t h.rest }

-- a line of which something is kept is one of which there is something
pub kept_some : (k : ℕ) (r : List ℕ) → 0 < k → kept_of k (where_some r) ≡ where_some (take k r)
kept_some zero r some = absurd (omega arith)
kept_some (suc k) [] some = refl
kept_some (suc k) (x ∷ r) some = refl

-- all lines, the one that is begun among them
pub kept_lines_alike : (k : ℕ) (f g bytes : List ℕ) → 0 < k → take k f ≡ take k g → kept_of k (lines_from f bytes) ≡ kept_of k (lines_from g bytes)
kept_lines_alike k f g bytes some e =
    let h = kept_alike k f g bytes e in
    map-append (take k) (ended_from f bytes) (where_some (rest_from f bytes))
    ∙ ap (λ (z : List (List ℕ)). z ++ kept_of k (where_some (rest_from f bytes))) h.lines
    ∙ ap (λ (z : List (List ℕ)). kept_of k (ended_from g bytes) ++ z) (kept_some k (rest_from f bytes) some ∙ ap where_some h.rest ∙ sym (kept_some k (rest_from g bytes) some))
    ∙ sym (map-append (take k) (ended_from g bytes) (where_some (rest_from g bytes)))

kept_length : (k : ℕ) (lines more : List (List ℕ)) → kept_of k lines ≡ kept_of k more → length lines ≡ length more
kept_length k lines more e = sym (length-map lines (take k)) ∙ ap length e ∙ length-map more (take k)

-- ---- lines of a front and then of more, where what is kept of the line between is all that is known of it

module _ (k : ℕ) (r r1 front more : List ℕ) (is : r1 ≡ take k (rest_from r front)) where
  between : take k r1 ≡ take k (rest_from r front)
  between = ap (take k) is ∙ take_twice k (rest_from r front)

  pub ended_joined : kept_of k (ended_from r (front ++ more)) ≡ kept_of k (ended_from r front) ++ kept_of k (ended_from r1 more)
  ended_joined =
      ap (kept_of k) (more_bytes r front more).lines
      ∙ map-append (take k) (ended_from r front) (ended_from (rest_from r front) more)
      ∙ ap (λ (z : List (List ℕ)). kept_of k (ended_from r front) ++ z) (sym (kept_alike k r1 (rest_from r front) more between).lines)

  pub rest_joined : take k (rest_from r (front ++ more)) ≡ take k (rest_from r1 more)
  rest_joined = ap (take k) (more_bytes r front more).rest ∙ sym (kept_alike k r1 (rest_from r front) more between).rest

  pub count_joined : length (ended_from r (front ++ more)) ≡ length (ended_from r front) + length (ended_from r1 more)
  count_joined =
      ap length (more_bytes r front more).lines ∙ length-append (ended_from r front) (ended_from (rest_from r front) more)
      ∙ ap (λ (n : ℕ). length (ended_from r front) + n) (sym (kept_length k (ended_from r1 more) (ended_from (rest_from r front) more) (kept_alike k r1 (rest_from r front) more between).lines))

  whole : lines_from r (front ++ more) ≡ ended_from r front ++ lines_from (rest_from r front) more
  whole =
      ap (λ (z : List (List ℕ)). z ++ where_some (rest_from r (front ++ more))) (more_bytes r front more).lines
      ∙ ap (λ (z : List ℕ). (ended_from r front ++ ended_from (rest_from r front) more) ++ where_some z) (more_bytes r front more).rest
      ∙ append_assoc (ended_from r front) (ended_from (rest_from r front) more) (where_some (rest_from (rest_from r front) more))

  pub lines_joined : 0 < k → kept_of k (lines_from r (front ++ more)) ≡ kept_of k (ended_from r front) ++ kept_of k (lines_from r1 more)
  lines_joined some =
      ap (kept_of k) whole
      ∙ map-append (take k) (ended_from r front) (lines_from (rest_from r front) more)
      ∙ ap (λ (z : List (List ℕ)). kept_of k (ended_from r front) ++ z) (sym (kept_lines_alike k r1 (rest_from r front) more some between))

  pub all_joined : 0 < k → length (lines_from r (front ++ more)) ≡ length (ended_from r front) + length (lines_from r1 more)
  all_joined some =
      sym (length-map (lines_from r (front ++ more)) (take k)) ∙ ap length (lines_joined some) ∙ length-append (kept_of k (ended_from r front)) (kept_of k (lines_from r1 more))
      ∙ ap (λ (n : ℕ). n + length (kept_of k (lines_from r1 more))) (length-map (ended_from r front) (take k))
      ∙ ap (λ (n : ℕ). length (ended_from r front) + n) (length-map (lines_from r1 more) (take k))

-- ---- what takes lines, piece by piece

pub takes_no_lines : (P : List (List ℕ) → Type 0) (k m : ℕ) (r : List ℕ) (n : ℕ) → length r ≤ k → P [] → HasTakenLines P k m r r n n k m []
unfolding ended_from rest_from
takes_no_lines P k m r n short none = record {
  took = none;
  rest_is = sym (take_all k r short);
  counted = omega arith;
  kept_is = refl;
  most_is = refl;
}
  where
    take_all : (k : ℕ) (r : List ℕ) → length r ≤ k → take k r ≡ r
    take_all zero [] le = refl
    take_all (suc k) [] le = refl
    take_all zero (x ∷ r) le = absurd (omega arith)
    take_all (suc k) (x ∷ r) le = ap (λ (z : List ℕ). x ∷ z) (take_all k r (omega arith))

pub takes_more_lines :
    (P Q R : List (List ℕ) → Type 0) (k m : ℕ) (r r1 r2 : List ℕ) (n n1 n2 k1 k2 m1 m2 : ℕ) (front more : List ℕ)
    → ((a b : List (List ℕ)) → P a → Q b → R (a ++ b))
    → HasTakenLines P k m r r1 n n1 k1 m1 front → HasTakenLines Q k1 m1 r1 r2 n1 n2 k2 m2 more → HasTakenLines R k m r r2 n n2 k2 m2 (front ++ more)
takes_more_lines P Q R k m r r1 r2 n n1 n2 k1 k2 m1 m2 front more join h g =
    let second : Q (kept_of k (ended_from r1 more)) = subst (λ (j : ℕ). Q (kept_of j (ended_from r1 more))) h.kept_is g.took in
    record {
      took = subst R (sym (ended_joined k r r1 front more h.rest_is)) (join _ _ h.took second);
      rest_is = g.rest_is ∙ ap (λ (j : ℕ). take j (rest_from r1 more)) h.kept_is ∙ sym (rest_joined k r r1 front more h.rest_is);
      counted = omega (arith, g.counted, h.counted, count_joined k r r1 front more h.rest_is);
      kept_is = g.kept_is ∙ h.kept_is;
      most_is = g.most_is ∙ h.most_is;
    }

some_later :
    (P Q R : List (List ℕ) → Type 0) (k m n n1 : ℕ) (r r1 front more : List ℕ) → r1 ≡ take k (rest_from r front) → n1 ≡ n + length (ended_from r front)
    → ((a b : List (List ℕ)) → P a → Q b → R (a ++ b))
    → P (kept_of k (ended_from r front)) → TakesSome m n1 Q (kept_of k (ended_from r1 more)) → TakesSome m n R (kept_of k (ended_from r (front ++ more)))
some_later P Q R k m n n1 r r1 front more is counted join took some =
    let first = kept_of k (ended_from r front) in
    let size : length first ≡ length (ended_from r front) = length-map (ended_from r front) (take k) in (
      first ++ some.0,
      some.1,
      ended_joined k r r1 front more is ∙ ap (λ (z : List (List ℕ)). first ++ z) some.2 ∙ sym (append_assoc first some.0 some.1),
      omega (arith, size, counted, some.3, length-append first some.0),
      join first some.0 took some.4,
    )

module _ {S : Type 0} (P Q R : List (List ℕ) → Type 0) (Qs Rs : List (List ℕ) → S → Type 0) (k m : ℕ) (r r1 : List ℕ) (n n1 : ℕ) (front more : List ℕ) where
  later :
      (stop : LineStop S) → 0 < k → n1 ≤ m
      → ((a b : List (List ℕ)) → P a → Q b → R (a ++ b)) → ((a b : List (List ℕ)) (s : S) → P a → Qs b s → Rs (a ++ b) s)
      → HasTakenLines P k m r r1 n n1 k m front → HasStoppedWithin stop Q Qs k m r1 n1 more → HasStoppedWithin stop R Rs k m r n (front ++ more)
  later stops.NoMemory some within join ends h g = some_later P Q R k m n n1 r r1 front more h.rest_is h.counted join h.took g
  later (stops.Stopped s) some within join ends h g = some_later P (λ b. Qs b s) (λ b. Rs b s) k m n n1 r r1 front more h.rest_is h.counted (λ a b. ends a b s) h.took g
  later stops.TooMany some within join ends h g =
      let first = kept_of k (ended_from r front) in
      let next = kept_of k (lines_from r1 more) in
      let all = all_joined k r r1 front more h.rest_is some in
      let size : length first ≡ length (ended_from r front) = length-map (ended_from r front) (take k) in
      let room : length first ≤ m - n = omega (arith, size, h.counted, within) in
      let left : m - n - length first ≡ m - n1 = omega (arith, size, h.counted, within) in
      let cut : take (m - n) (kept_of k (lines_from r (front ++ more))) ≡ first ++ take (m - n1) next =
      ap (take (m - n)) (lines_joined k r r1 front more h.rest_is some) ∙ take_front (m - n) first next room ∙ ap (λ (j : ℕ). first ++ take j next) left in
      (omega (arith, g.0, all, h.counted), subst R (sym cut) (join first (take (m - n1) next) h.took g.1))

pub stops_later_within :
    {S : Type 0} (P Q R : List (List ℕ) → Type 0) (Qs Rs : List (List ℕ) → S → Type 0) (k m : ℕ) (r r1 : List ℕ) (n n1 k1 m1 : ℕ) (front more : List ℕ) (stop : LineStop S)
    → 0 < k → n1 ≤ m1
    → ((a b : List (List ℕ)) → P a → Q b → R (a ++ b)) → ((a b : List (List ℕ)) (s : S) → P a → Qs b s → Rs (a ++ b) s)
    → HasTakenLines P k m r r1 n n1 k1 m1 front → HasStoppedWithin stop Q Qs k1 m1 r1 n1 more → HasStoppedWithin stop R Rs k m r n (front ++ more)
stops_later_within {S} P Q R Qs Rs k m r r1 n n1 k1 m1 front more stop some within join ends h g =
    let same : HasTakenLines P k m r r1 n n1 k m front = record { took = h.took; rest_is = h.rest_is; counted = h.counted; kept_is = refl; most_is = refl } in
    later P Q R Qs Rs k m r r1 n n1 front more stop some (subst (λ (j : ℕ). n1 ≤ j) h.most_is within) join ends same
    (subst (λ (j : ℕ). HasStoppedWithin stop Q Qs j m r1 n1 more) h.kept_is (subst (λ (j : ℕ). HasStoppedWithin stop Q Qs k1 j r1 n1 more) h.most_is g))

pub len_within : (v : Vec ℕ) (k : ℕ) → vec_len v ≤ k → length v.items ≤ k
len_within v k short = omega (arith, v.ok.0, short)
