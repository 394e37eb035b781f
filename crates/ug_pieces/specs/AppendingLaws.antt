-- Pieces added to a report, one after the other.
use Rattle.std.proofs.Common.{ℕ, List, [], ◌++◌, take, drop, Option, Some, None, sym, ap, ◌∙◌, append_assoc}
use Rattle.std.proofs.lemmas.List.{append-nil, take-append-drop}
use Rattle.ug_edge.specs.Told.{AppendsPiece}
use Rattle.ug_pieces.specs.Reporting.{AppendsFront}

pub AppendsPiece-none : (held : Option (List ℕ)) → AppendsPiece held held []
AppendsPiece-none None = tt
AppendsPiece-none (Some h) = sym (append-nil h)

pub AppendsPiece-more : (a b c : Option (List ℕ)) (p q : List ℕ) → AppendsPiece a b p → AppendsPiece b c q → AppendsPiece a c (p ++ q)
AppendsPiece-more None None None p q h k = tt
AppendsPiece-more None None (Some c) p q h k = absurd k
AppendsPiece-more None (Some b) c p q h k = absurd h
AppendsPiece-more (Some a) None c p q h k = absurd h
AppendsPiece-more (Some a) (Some b) None p q h k = absurd k
AppendsPiece-more (Some a) (Some b) (Some c) p q h k = k ∙ ap (λ (x : List ℕ). x ++ q) h ∙ append_assoc a p q

-- a front of what was still to be added
pub AppendsFront-taken : (a b : Option (List ℕ)) (n : ℕ) (text : List ℕ) → AppendsPiece a b (take n text) → AppendsFront a b text
AppendsFront-taken a b n text h = (take n text, drop n text, sym (take-append-drop n text), h)

pub AppendsFront-more : (a b c : Option (List ℕ)) (p q : List ℕ) → AppendsPiece a b p → AppendsFront b c q → AppendsFront a c (p ++ q)
AppendsFront-more a b c p q h k = (p ++ k.0, k.1, ap (λ (x : List ℕ). p ++ x) k.2 ∙ sym (append_assoc p k.0 k.1), AppendsPiece-more a b c p k.0 h k.3)

-- a front is a front of more
pub AppendsFront-longer : (a b : Option (List ℕ)) (p q : List ℕ) → AppendsFront a b p → AppendsFront a b (p ++ q)
AppendsFront-longer a b p q h = (h.0, h.1 ++ q, ap (λ (x : List ℕ). x ++ q) h.2 ∙ append_assoc h.0 h.1 q, h.3)
