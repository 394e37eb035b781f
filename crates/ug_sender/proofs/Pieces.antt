-- What a wire's last session is after pieces were sent into it.
use Rattle.std.proofs.Common.{◌≡◌, ℕ, List, [], ◌∷◌, ◌++◌, Option, Some, None, length, take, refl, sym, ap, ◌∙◌, subst, append_assoc}
use Rattle.std.proofs.Math.Seq.{take-append_seam}
use Rattle.std.proofs.lemmas.List.{append-nil}
use Rattle.ug_edge.specs.Told.{onto_last, SendsPiece}

pub onto_last-nil : (sessions : List (List ℕ)) → onto_last [] sessions ≡ sessions
onto_last-nil [] = refl
onto_last-nil (s ∷ []) = ap (λ x. x ∷ []) (append-nil s)
onto_last-nil (s ∷ t ∷ sessions) = ap (λ x. s ∷ x) (onto_last-nil (t ∷ sessions))

pub onto_last-more : (p q : List ℕ) (sessions : List (List ℕ)) → onto_last q (onto_last p sessions) ≡ onto_last (p ++ q) sessions
onto_last-more p q [] = refl
onto_last-more p q (s ∷ []) = ap (λ x. x ∷ []) (append_assoc s p q)
onto_last-more p q (s ∷ t ∷ []) = ap (λ x. s ∷ x ∷ []) (append_assoc t p q)
onto_last-more p q (s ∷ t ∷ u ∷ sessions) = ap (λ x. s ∷ x) (onto_last-more p q (t ∷ u ∷ sessions))

pub SendsPiece-none : (told : Option (List (List ℕ))) → SendsPiece told told []
SendsPiece-none None = tt
SendsPiece-none (Some sessions) = sym (onto_last-nil sessions)

pub SendsPiece-more : (a b c : Option (List (List ℕ))) (p q : List ℕ) → SendsPiece a b p → SendsPiece b c q → SendsPiece a c (p ++ q)
SendsPiece-more None None None p q h k = tt
SendsPiece-more None None (Some c) p q h k = absurd k
SendsPiece-more None (Some b) c p q h k = absurd h
SendsPiece-more (Some a) None c p q h k = absurd h
SendsPiece-more (Some a) (Some b) None p q h k = absurd k
SendsPiece-more (Some a) (Some b) (Some c) p q h k = k ∙ ap (onto_last q) h ∙ onto_last-more p q a

-- the sessions of a wire, once these bytes stand at the end of the last
unfoldable pub with_piece : Option (List (List ℕ)) → List ℕ → Option (List (List ℕ))
with_piece None piece = None
with_piece (Some sessions) piece = Some (onto_last piece sessions)

pub SendsPiece-with : (told : Option (List (List ℕ))) (piece : List ℕ) → SendsPiece told (with_piece told piece) piece
unfolding with_piece
SendsPiece-with None piece = tt
SendsPiece-with (Some sessions) piece = refl

pub piece-sent : (told told' : Option (List (List ℕ))) (piece : List ℕ) → SendsPiece told told' piece → told' ≡ with_piece told piece
unfolding with_piece
piece-sent None None piece sends = refl
piece-sent None (Some new) piece sends = absurd sends
piece-sent (Some old) None piece sends = absurd sends
piece-sent (Some old) (Some new) piece sends = ap (λ s. Some s) sends

pub nothing-sent : (told told' : Option (List (List ℕ))) → SendsPiece told told' [] → told' ≡ told
nothing-sent None None sends = refl
nothing-sent None (Some new) sends = absurd sends
nothing-sent (Some old) None sends = absurd sends
nothing-sent (Some old) (Some new) sends = ap (λ s. Some s) (sends ∙ onto_last-nil old)

-- two pieces at once are one and then the other
pub piece-apart : (told told' : Option (List (List ℕ))) (p q : List ℕ) → SendsPiece told told' (p ++ q) → SendsPiece (with_piece told p) told' q
unfolding with_piece
piece-apart None None p q sends = tt
piece-apart None (Some new) p q sends = absurd sends
piece-apart (Some old) None p q sends = absurd sends
piece-apart (Some old) (Some new) p q sends = sends ∙ sym (onto_last-more p q old)

-- the front of a buffer whose front was written
pub front-of : (count n : ℕ) (xs zs : List ℕ) → length xs ≡ n → take count (take n (xs ++ zs)) ≡ take count xs
front-of count n xs zs is = ap (take count) (ap (λ m. take m (xs ++ zs)) (sym is) ∙ take-append_seam xs zs)

pub sends-nothing : (told : Option (List (List ℕ))) (filled : ℕ) (buf : List ℕ) → filled ≡ 0 → SendsPiece told told (take filled buf)
sends-nothing told filled buf is = subst (λ n. SendsPiece told told (take n buf)) (sym is) (SendsPiece-none told)
