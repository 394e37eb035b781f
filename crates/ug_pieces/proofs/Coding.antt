-- What bytes stand for, one behind the other.
use Rattle.std.proofs.Common.{◌≡◌, ℕ, ◌+◌, ◌≤◌, ◌<◌, slice_index_or, List, [], ◌∷◌, ◌++◌, length, take, drop, sym, ap, ◌∙◌, subst, arith, take-add, length-append, length-drop, append_assoc, Option}
use Rattle.std.specs.List.{flat_map}
use Rattle.std.proofs.lemmas.Grind.{flat_map-append, common_steps}
use Rattle.std.proofs.lemmas.List.{append-nil, take-append-drop}
use Rattle.std.proofs.Math.Seq.{take-append_seam}
use Rattle.ug_edge.specs.Told.{AppendsPiece}
use Rattle.ug_pieces.specs.Reporting.{AppendsFront}
use Rattle.ug_pieces.specs.AppendingLaws.{AppendsPiece-more, AppendsFront-more, AppendsFront-longer}
use Rattle.ug_pieces.specs.Codes.{code_text, codes_text, IsFirst}

pub codes_more : (codes text rest before : List ℕ) (at code size : ℕ) → codes_text codes ≡ before ++ take at text → rest ≡ drop at text → IsFirst code rest → size ≡ length (code_text code)
    → codes_text (codes ++ code ∷ []) ≡ before ++ take (at + size) text
codes_more codes text rest before at code size so is h long =
    let word = code_text code in
    let same : take size rest ≡ word = ap (λ (n : ℕ). take n rest) long ∙ ap (λ (xs : List ℕ). take (length word) xs) h.parts ∙ take-append_seam word h.rest in
    let one : codes_text (code ∷ []) ≡ word = append-nil word in
    let all : take (at + size) text ≡ take at text ++ take size rest = take-add at size text ∙ ap (λ (xs : List ℕ). take at text ++ take size xs) (sym is) in
    flat_map-append code_text codes (code ∷ [])
    ∙ (ap (λ (xs : List ℕ). xs ++ codes_text (code ∷ [])) so
    ∙ (append_assoc before (take at text) (codes_text (code ∷ [])) ∙ ap (λ (xs : List ℕ). before ++ xs) (ap (λ (xs : List ℕ). take at text ++ xs) (one ∙ sym same) ∙ sym all)))

pub codes_within : (text rest : List ℕ) (at code size : ℕ) → at ≤ length text → rest ≡ drop at text → IsFirst code rest → size ≡ length (code_text code) → at + size ≤ length text
codes_within text rest at code size le is h long =
    let a : length rest ≡ length (code_text code) + length h.rest = ap length h.parts ∙ length-append (code_text code) h.rest in
    let b = ap length is ∙ length-drop at text in
    omega (arith, a, b, le, long)

-- ---- what was written

module _ {X : Type 0} (f : X → List ℕ) where
  -- a piece more, behind those at the front
  pub piece_more : (a b c : Option (List ℕ)) (xs piece : List X) (at count : ℕ) → piece ≡ take count (drop at xs) → AppendsPiece a b (flat_map f (take at xs)) → AppendsPiece b c (flat_map f piece) → AppendsPiece a c (flat_map f (take (at + count) xs))
  piece_more a b c xs piece at count is h k =
      subst (AppendsPiece a c) (sym (flat_map-append f (take at xs) piece) ∙ ap (λ (ys : List X). flat_map f (take at xs ++ ys)) is ∙ ap (flat_map f) (sym (take-add at count xs)))
      (AppendsPiece-more a b c (flat_map f (take at xs)) (flat_map f piece) h k)

  -- a front of a piece more is one of all
  pub piece_front : (a b c : Option (List ℕ)) (xs piece : List X) (at count : ℕ) → piece ≡ take count (drop at xs) → AppendsPiece a b (flat_map f (take at xs)) → AppendsFront b c (flat_map f piece) → AppendsFront a c (flat_map f xs)
  piece_front a b c xs piece at count is h k =
      let joined : flat_map f (take at xs) ++ flat_map f piece ≡ flat_map f (take (at + count) xs) =
      sym (flat_map-append f (take at xs) piece) ∙ ap (λ (ys : List X). flat_map f (take at xs ++ ys)) is ∙ ap (flat_map f) (sym (take-add at count xs)) in
      let all : flat_map f (take (at + count) xs) ++ flat_map f (drop (at + count) xs) ≡ flat_map f xs =
      sym (flat_map-append f (take (at + count) xs) (drop (at + count) xs)) ∙ ap (flat_map f) (take-append-drop (at + count) xs) in
      subst (AppendsFront a c) (ap (λ (ys : List ℕ). ys ++ flat_map f (drop (at + count) xs)) joined ∙ all)
      (AppendsFront-longer a c (flat_map f (take at xs) ++ flat_map f piece) (flat_map f (drop (at + count) xs))
      (AppendsFront-more a b c (flat_map f (take at xs)) (flat_map f piece) h k))

  -- a front of one item more is one of all
  pub item_front : (a b c : Option (List ℕ)) (xs : List X) (x : X) (at : ℕ) → take (at + 1) xs ≡ take at xs ++ x ∷ [] → AppendsPiece a b (flat_map f (take at xs)) → AppendsFront b c (f x) → AppendsFront a c (flat_map f xs)
  item_front a b c xs x at is h k =
      let one : flat_map f (x ∷ []) ≡ f x = append-nil (f x) in
      let joined : flat_map f (take at xs) ++ f x ≡ flat_map f (take (at + 1) xs) =
      ap (λ (ys : List ℕ). flat_map f (take at xs) ++ ys) (sym one) ∙ sym (flat_map-append f (take at xs) (x ∷ [])) ∙ ap (flat_map f) (sym is) in
      let all : flat_map f (take (at + 1) xs) ++ flat_map f (drop (at + 1) xs) ≡ flat_map f xs =
      sym (flat_map-append f (take (at + 1) xs) (drop (at + 1) xs)) ∙ ap (flat_map f) (take-append-drop (at + 1) xs) in
      subst (AppendsFront a c) (ap (λ (ys : List ℕ). ys ++ flat_map f (drop (at + 1) xs)) joined ∙ all)
      (AppendsFront-longer a c (flat_map f (take at xs) ++ f x) (flat_map f (drop (at + 1) xs)) (AppendsFront-more a b c (flat_map f (take at xs)) (f x) h k))

-- ---- what a byte stands for at the front of a text

pub two_first : (text : List ℕ) (code : ℕ) → 2 ≤ length text → code_text code ≡ slice_index_or text 0 0 ∷ slice_index_or text 1 0 ∷ [] → IsFirst code text
two_first [] code le is = absurd (omega arith)
two_first (a ∷ []) code le is = absurd (omega arith)
two_first (a ∷ b ∷ rest) code le is = record { rest = rest; parts = ap (λ (w : List ℕ). w ++ rest) (sym is) }

itself : (a : ℕ) → a < 128 → code_text a ≡ a ∷ []
unfolding code_text
itself a lt = grind (arith, common_steps)

pub one_first : (text : List ℕ) → 1 ≤ length text → slice_index_or text 0 0 < 128 → IsFirst (slice_index_or text 0 0) text
one_first [] le lt = absurd (omega arith)
one_first (a ∷ rest) le lt = record { rest = rest; parts = ap (λ (w : List ℕ). w ++ rest) (sym (itself a lt)) }
