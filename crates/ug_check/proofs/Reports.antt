-- A report, line by line.
use Rattle.std.proofs.Common.{◌≡◌, ℕ, List, [], ◌∷◌, ◌++◌, Option, refl, sym, ap, subst, ◌∙◌, append_assoc}
use Rattle.std.specs.List.{concat}
use Rattle.std.proofs.lemmas.List.{append-nil}
use Rattle.std.proofs.lemmas.List.Folds.{concat-append}
use Rattle.ug_edge.specs.Told.{AppendsPiece}
use Rattle.ug_pieces.specs.Reporting.{AppendsFront}
use Rattle.ug_pieces.specs.AppendingLaws.{AppendsPiece-none, AppendsPiece-more, AppendsFront-more, AppendsFront-longer}
use Rattle.ug_check.specs.Checks.{AppendsLines}
use Rattle.ug_check.specs.Written.{HasWritten}

pub written_none : (held : Option (List ℕ)) (lines : List (List ℕ)) → HasWritten held held [] lines lines
written_none held lines = record { front = []; pending = []; parts = refl; added = AppendsPiece-none held; text_is = refl }

pub written_line : (before held : Option (List ℕ)) (text line : List ℕ) (lines rest : List (List ℕ)) → HasWritten before held text lines (line ∷ rest) → HasWritten before held (text ++ line) lines rest
written_line before held text line lines rest h = record {
  front = h.front;
  pending = h.pending ++ line ∷ [];
  parts = h.parts ∙ ap (λ (ls : List (List ℕ)). h.front ++ ls) (sym (append_assoc h.pending (line ∷ []) rest));
  added = h.added;
  text_is = ap (λ (t : List ℕ). t ++ line) h.text_is ∙ ap (λ (t : List ℕ). concat h.pending ++ t) (sym (append-nil line)) ∙ sym (concat-append h.pending (line ∷ []));
}

added_more : (before held new : Option (List ℕ)) (text : List ℕ) (lines rest : List (List ℕ)) (h : HasWritten before held text lines rest) → AppendsPiece held new text → AppendsPiece before new (concat (h.front ++ h.pending))
added_more before held new text lines rest h piece =
    subst (λ (t : List ℕ). AppendsPiece before new t) (ap (λ (t : List ℕ). concat h.front ++ t) h.text_is ∙ sym (concat-append h.front h.pending)) (AppendsPiece-more before held new (concat h.front) text h.added piece)

pub written_out : (before held new : Option (List ℕ)) (text : List ℕ) (lines rest : List (List ℕ)) → HasWritten before held text lines rest → AppendsPiece held new text → HasWritten before new [] lines rest
written_out before held new text lines rest h piece = record {
  front = h.front ++ h.pending;
  pending = [];
  parts = h.parts ∙ sym (append_assoc h.front h.pending rest);
  added = added_more before held new text lines rest h piece;
  text_is = refl;
}

pub written_all : (before held new : Option (List ℕ)) (text : List ℕ) (lines : List (List ℕ)) → HasWritten before held text lines [] → AppendsPiece held new text → AppendsPiece before new (concat lines)
written_all before held new text lines h piece =
    subst (λ (ls : List (List ℕ)). AppendsPiece before new (concat ls)) (ap (λ (ls : List (List ℕ)). h.front ++ ls) (sym (append-nil h.pending)) ∙ sym h.parts) (added_more before held new text lines [] h piece)

pub written_front : (before held new : Option (List ℕ)) (text : List ℕ) (lines rest : List (List ℕ)) → HasWritten before held text lines rest → AppendsFront held new text → AppendsFront before new (concat lines)
written_front before held new text lines rest h front =
    let all : concat lines ≡ (concat h.front ++ text) ++ concat rest =
    ap concat h.parts ∙ concat-append h.front (h.pending ++ rest) ∙ ap (λ (t : List ℕ). concat h.front ++ t) (concat-append h.pending rest ∙ ap (λ (t : List ℕ). t ++ concat rest) (sym h.text_is))
    ∙ sym (append_assoc (concat h.front) text (concat rest)) in
    subst (λ (t : List ℕ). AppendsFront before new t) (sym all) (AppendsFront-longer before new (concat h.front ++ text) (concat rest) (AppendsFront-more before held new (concat h.front) text h.added front))

pub written_lines : (before held : Option (List ℕ)) (text : List ℕ) (lines rest : List (List ℕ)) → HasWritten before held text lines rest → AppendsLines before held lines
written_lines before held text lines rest h = (h.front, h.pending ++ rest, h.parts, h.added)
