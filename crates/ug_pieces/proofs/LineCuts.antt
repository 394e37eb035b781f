-- Lines as they are cut from a piece.
use Rattle.std.proofs.Common.{◌≡◌, ℕ, suc, ◌+◌, ◌-◌, ◌<◌, ◌≤◌, Bool, true, false, cond, eqb, List, [], ◌∷◌, ◌++◌, length, take, Option, Some, None, refl, sym, ap, subst, ◌∙◌, append_assoc, arith}
use Rattle.std.proofs.lemmas.List.{append-nil, length-append, length-map, map-append}
use Rattle.ug_text.specs.Cutting.{cut_at, with_front}
use Rattle.ug_pieces.specs.ReadingLaws.{take_front}
use Rattle.ug_pieces.specs.Lines.{ended_from, rest_from, where_some, kept_of}
use Rattle.ug_pieces.specs.LineSteps.{HasTakenLines, HasStoppedWithin, HasStoppedAt, lines_from}
use Rattle.ug_pieces.specs.declared.lines.LineStop.{LineStop}
use Rattle.ug_pieces.specs.declared.lines.LineStop.TheVariants as stops

-- how the first newline cuts bytes
pub record IsCut (front text x y : List ℕ) : Type 0 where
  pub lines : ended_from front text ≡ (front ++ x) ∷ ended_from [] y
  pub rest : rest_from front text ≡ rest_from [] y

some_is : (p q : List ℕ × List ℕ) → Some p ≡ Some q → p ≡ q
some_is p q e = cc

pub cut_line : (front text x y : List ℕ) → cut_at 10 text ≡ Some (x, y) → IsCut front text x y
unfolding cut_at ended_from rest_from
cut_line front [] x y e = absurd cc
cut_line front (b ∷ bytes) x y e = by_test (eqb b 10) refl e (λ x' y' e'. cut_line (front ++ b ∷ []) bytes x' y' e')
  where
    by_rest : (r : Option (List ℕ × List ℕ)) → cut_at 10 bytes ≡ r → with_front b r ≡ Some (x, y) → eqb b 10 ≡ false
        → ((x' y' : List ℕ) → cut_at 10 bytes ≡ Some (x', y') → IsCut (front ++ b ∷ []) bytes x' y') → IsCut front (b ∷ bytes) x y
    by_rest None is e t ih = absurd cc
    by_rest (Some r) is e t ih =
        let h = ih r.0 r.1 is in
        let pair = some_is (b ∷ r.0, r.1) (x, y) e in
        let x-is : b ∷ r.0 ≡ x = ap (λ (p : List ℕ × List ℕ). p.0) pair in
        let y-is : r.1 ≡ y = ap (λ (p : List ℕ × List ℕ). p.1) pair in
        let joined : (front ++ b ∷ []) ++ r.0 ≡ front ++ x = append_assoc front (b ∷ []) r.0 ∙ ap (λ (z : List ℕ). front ++ z) x-is in
        record {
          lines = rw t (h.lines ∙ ap (λ (z : List ℕ). z ∷ ended_from [] r.1) joined ∙ ap (λ (z : List ℕ). (front ++ x) ∷ ended_from [] z) y-is);
          rest = rw t (h.rest ∙ ap (rest_from []) y-is);
        }

    by_test : (t : Bool) → eqb b 10 ≡ t → cond t (Some ([], bytes)) (with_front b (cut_at 10 bytes)) ≡ Some (x, y)
        → ((x' y' : List ℕ) → cut_at 10 bytes ≡ Some (x', y') → IsCut (front ++ b ∷ []) bytes x' y') → IsCut front (b ∷ bytes) x y
    by_test true t e ih =
        let pair = some_is ([], bytes) (x, y) e in
        let x-is : [] ≡ x = ap (λ (p : List ℕ × List ℕ). p.0) pair in
        let y-is : bytes ≡ y = ap (λ (p : List ℕ × List ℕ). p.1) pair in
        record {
          lines = rw t (ap (λ (z : List ℕ). z ∷ ended_from [] bytes) (sym (append-nil front) ∙ ap (λ (z : List ℕ). front ++ z) x-is) ∙ ap (λ (z : List ℕ). (front ++ x) ∷ ended_from [] z) y-is);
          rest = rw t (ap (rest_from []) y-is);
        }
    by_test false t e ih = by_rest (cut_at 10 bytes) refl e t ih

-- bytes without a newline end no line
pub record IsUncut (front text : List ℕ) : Type 0 where
  pub lines : ended_from front text ≡ []
  pub rest : rest_from front text ≡ front ++ text

pub no_cut : (front text : List ℕ) → cut_at 10 text ≡ None → IsUncut front text
unfolding cut_at ended_from rest_from
no_cut front [] e = record { lines = refl; rest = sym (append-nil front) }
no_cut front (b ∷ bytes) e = by_test (eqb b 10) refl e (λ e'. no_cut (front ++ b ∷ []) bytes e')
  where
    by_test : (t : Bool) → eqb b 10 ≡ t → cond t (Some ([], bytes)) (with_front b (cut_at 10 bytes)) ≡ None
        → (cut_at 10 bytes ≡ None → IsUncut (front ++ b ∷ []) bytes) → IsUncut front (b ∷ bytes)
    by_test true t e ih = absurd cc
    by_test false t e ih =
        let h = ih (nothing (cut_at 10 bytes) e) in
        record { lines = rw t h.lines; rest = rw t (h.rest ∙ append_assoc front (b ∷ []) bytes) }
      where
        nothing : (r : Option (List ℕ × List ℕ)) → with_front b r ≡ None → r ≡ None
        nothing None e = refl
        nothing (Some r) e = absurd cc

-- Of a piece this is left, the lines before it were taken, and `now` is the front of the next.
pub record IsWithin (takes : List (List ℕ) → Type 0) (k m : ℕ) (r piece now left : List ℕ) (n count kept most : ℕ) : Type 0 where
  pub done : List (List ℕ)
  pub took : takes (kept_of k done)
  pub lines : ended_from r piece ≡ done ++ ended_from now left
  pub rest : rest_from r piece ≡ rest_from now left
  pub counted : count ≡ n + length done
  pub kept_is : kept ≡ k
  pub most_is : most ≡ m

pub within_init : (P : List (List ℕ) → Type 0) (k m : ℕ) (r piece : List ℕ) (n : ℕ) → P [] → IsWithin P k m r piece r piece n n k m
within_init P k m r piece n none = record { done = []; took = none; lines = refl; rest = refl; counted = omega arith; kept_is = refl; most_is = refl }

module _ (P Q R : List (List ℕ) → Type 0) (k m : ℕ) (r piece now left x y : List ℕ) (n count kept most : ℕ) (cut : cut_at 10 left ≡ Some (x, y)) where
  next_lines : (h : IsWithin P k m r piece now left n count kept most) → ended_from r piece ≡ (h.done ++ (now ++ x) ∷ []) ++ ended_from [] y
  next_lines h =
      h.lines ∙ ap (λ (ls : List (List ℕ)). h.done ++ ls) (cut_line now left x y cut).lines ∙ sym (append_assoc h.done ((now ++ x) ∷ []) (ended_from [] y))

  next_kept : (h : IsWithin P k m r piece now left n count kept most) → kept_of k h.done ++ take kept (now ++ x) ∷ [] ≡ kept_of k (h.done ++ (now ++ x) ∷ [])
  next_kept h = ap (λ (j : ℕ). kept_of k h.done ++ take j (now ++ x) ∷ []) h.kept_is ∙ sym (map-append (take k) h.done ((now ++ x) ∷ []))

  -- a line was cut off and taken
  pub within_next :
      (after count' kept' most' : _) → after ≡ [] → count' ≡ count + 1 → kept' ≡ kept → most' ≡ most
      → ((a b : List (List ℕ)) → P a → Q b → R (a ++ b)) → Q (take kept (now ++ x) ∷ [])
      → IsWithin P k m r piece now left n count kept most → IsWithin R k m r piece after y n count' kept' most'
  within_next after count' kept' most' none one same_kept same_most join took h =
      record {
        done = h.done ++ (now ++ x) ∷ [];
        took = subst R (next_kept h) (join _ _ h.took took);
        lines = subst (λ (f : List ℕ). ended_from r piece ≡ (h.done ++ (now ++ x) ∷ []) ++ ended_from f y) (sym none) (next_lines h);
        rest = subst (λ (f : List ℕ). rest_from r piece ≡ rest_from f y) (sym none) (h.rest ∙ (cut_line now left x y cut).rest);
        counted = omega (arith, one, h.counted, length-append h.done ((now ++ x) ∷ []));
        kept_is = same_kept ∙ h.kept_is;
        most_is = same_most ∙ h.most_is;
      }

-- where a line was cut off and not taken
module _ {S : Type 0} (P R : List (List ℕ) → Type 0) (Qs Rs : List (List ℕ) → S → Type 0) (k m : ℕ) (r piece now left x y : List ℕ) (n count kept most : ℕ) (cut : cut_at 10 left ≡ Some (x, y)) where
  pub within_stopped :
      {Same : Type 0} (stop : LineStop S)
      → (Same → (xs : List (List ℕ)) → P xs → R xs) → ((a b : List (List ℕ)) (s : S) → P a → Qs b s → Rs (a ++ b) s)
      → count ≤ most → HasStoppedAt stop (count ≡ most) Same (λ (s : S). (count < most) × Qs (take kept (now ++ x) ∷ []) s)
      → IsWithin P k m r piece now left n count kept most → HasStoppedWithin stop R Rs k m r n piece
  within_stopped stops.NoMemory same ends few at h =
      let size : length (kept_of k h.done) ≡ length h.done = length-map h.done (take k) in (
        kept_of k h.done,
        kept_of k (ended_from now left),
        ap (kept_of k) h.lines ∙ map-append (take k) h.done (ended_from now left),
        omega (arith, size, h.counted, few, h.most_is),
        same at _ h.took,
      )
  within_stopped stops.TooMany same ends few at h =
      let done = kept_of k h.done in
      let more = kept_of k (ended_from now left ++ where_some (rest_from r piece)) in
      let all : lines_from r piece ≡ h.done ++ (ended_from now left ++ where_some (rest_from r piece)) =
      ap (λ (ls : List (List ℕ)). ls ++ where_some (rest_from r piece)) h.lines ∙ append_assoc h.done (ended_from now left) (where_some (rest_from r piece)) in
      let size : length done ≡ length h.done = length-map h.done (take k) in
      let room : m - n ≡ length done = omega (arith, size, h.counted, at.0, h.most_is) in
      let next : length (ended_from now left) ≡ suc (length (ended_from [] y)) = ap length (cut_line now left x y cut).lines in
      let whole : length (lines_from r piece) ≡ length h.done + (length (ended_from now left) + length (where_some (rest_from r piece))) =
      ap length all ∙ length-append h.done (ended_from now left ++ where_some (rest_from r piece)) ∙ ap (λ (j : ℕ). length h.done + j) (length-append (ended_from now left) (where_some (rest_from r piece))) in
      let parts : kept_of k (lines_from r piece) ≡ done ++ more = ap (kept_of k) all ∙ map-append (take k) h.done (ended_from now left ++ where_some (rest_from r piece)) in
      let front : take (m - n) (kept_of k (lines_from r piece)) ≡ done = ap (take (m - n)) parts ∙ ap (λ (j : ℕ). take j (done ++ more)) room ∙ take_whole done more in
      (omega (arith, next, whole, h.counted, at.0, h.most_is), subst R (sym front) (same at.1 _ h.took))
    where
      take_whole : (a b : List (List ℕ)) → take (length a) (a ++ b) ≡ a
      take_whole [] b = refl
      take_whole (z ∷ a) b = ap (λ (zs : List (List ℕ)). z ∷ zs) (take_whole a b)
  within_stopped (stops.Stopped s) same ends few at h =
      let done = h.done ++ (now ++ x) ∷ [] in
      let size : length (kept_of k done) ≡ length h.done + 1 = length-map done (take k) ∙ length-append h.done ((now ++ x) ∷ []) in (
        kept_of k done,
        kept_of k (ended_from [] y),
        ap (kept_of k) (next_lines P P R k m r piece now left x y n count kept most cut h) ∙ map-append (take k) done (ended_from [] y),
        omega (arith, size, h.counted, at.0, h.most_is),
        subst (λ (ls : List (List ℕ)). Rs ls s) (next_kept P P R k m r piece now left x y n count kept most cut h) (ends _ _ s h.took at.1),
      )

-- where what is left was kept, or not
module _ {S : Type 0} (P : List (List ℕ) → Type 0) (Rs : List (List ℕ) → S → Type 0) (k m : ℕ) (r piece now left : List ℕ) (n count kept most : ℕ) (uncut : cut_at 10 left ≡ None) where
  ended : (h : IsWithin P k m r piece now left n count kept most) → ended_from r piece ≡ h.done
  ended h = h.lines ∙ ap (λ (ls : List (List ℕ)). h.done ++ ls) (no_cut now left uncut).lines ∙ append-nil h.done

  pub within_done :
      (after : List ℕ) (count' kept' most' : ℕ) → after ≡ take kept (now ++ left) → count' ≡ count → kept' ≡ kept → most' ≡ most
      → IsWithin P k m r piece now left n count kept most → HasTakenLines P k m r after n count' kept' most' piece
  within_done after count' kept' most' is same_count same_kept same_most h =
      record {
        took = subst (λ (ls : List (List ℕ)). P (kept_of k ls)) (sym (ended h)) h.took;
        rest_is = is ∙ ap (λ (j : ℕ). take j (now ++ left)) h.kept_is ∙ ap (take k) (sym (no_cut now left uncut).rest ∙ sym h.rest);
        counted = omega (arith, same_count, h.counted, ap length (ended h));
        kept_is = same_kept ∙ h.kept_is;
        most_is = same_most ∙ h.most_is;
      }

  some_bytes : (a b : List ℕ) → 0 < length b → length (where_some (a ++ b)) ≡ 1
  some_bytes [] [] some = absurd (omega arith)
  some_bytes [] (z ∷ b) some = refl
  some_bytes (z ∷ a) b some = refl

  pub within_unkept :
      (stop : LineStop S) → count ≤ most → HasStoppedAt stop ((count ≡ most) × (0 < length left)) (Unit {0}) (λ (s : S). ⊥)
      → IsWithin P k m r piece now left n count kept most → HasStoppedWithin stop P Rs k m r n piece
  within_unkept stops.NoMemory few at h =
      let size : length (kept_of k h.done) ≡ length h.done = length-map h.done (take k) in
      (kept_of k h.done, [], ap (kept_of k) (ended h) ∙ sym (append-nil (kept_of k h.done)), omega (arith, size, h.counted, few, h.most_is), h.took)
  within_unkept (stops.Stopped s) few at h = absurd at
  within_unkept stops.TooMany few at h =
      let done = kept_of k h.done in
      let last = where_some (rest_from r piece) in
      let size : length done ≡ length h.done = length-map h.done (take k) in
      let room : length done ≤ m - n = omega (arith, size, h.counted, at.0.0, h.most_is) in
      let none : m - n - length done ≡ 0 = omega (arith, size, h.counted, at.0.0, h.most_is) in
      let one : length last ≡ 1 = ap (λ (bs : List ℕ). length (where_some bs)) (h.rest ∙ (no_cut now left uncut).rest) ∙ some_bytes now left at.0.1 in
      let parts : kept_of k (lines_from r piece) ≡ done ++ kept_of k last = ap (λ (ls : List (List ℕ)). kept_of k (ls ++ last)) (ended h) ∙ map-append (take k) h.done last in
      let front : take (m - n) (kept_of k (lines_from r piece)) ≡ done =
      ap (take (m - n)) parts ∙ take_front (m - n) done (kept_of k last) room ∙ ap (λ (j : ℕ). done ++ take j (kept_of k last)) none ∙ append-nil done in
      (omega (arith, one, length-append (ended_from r piece) last, ap length (ended h), h.counted, at.0.0, h.most_is), subst P (sym front) h.took)
