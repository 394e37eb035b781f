-- The first line of a text.
use Rattle.std.proofs.Common.{◌≡◌, ℕ, Bool, true, false, List, [], ◌∷◌, ◌++◌, Option, Some, None, refl, sym, ap, ◌∙◌, append_assoc}
use Rattle.std.specs.Prelude.{◌==◌, if◌then◌else◌}
use Rattle.std.proofs.lemmas.List.{append-nil}
use Rattle.ug_text.specs.Cutting.{with_front, cut_at}
use Rattle.ug_pieces.specs.Lines.{ended_from, rest_from, where_some, lines_of}

-- what a text is cut into behind the front of a line
pub record IsCut (front text line rest : List ℕ) : Type 0 where
  pub lines : ended_from front text ≡ (front ++ line) ∷ ended_from [] rest
  pub left : rest_from front text ≡ rest_from [] rest

pub record IsUncut (front text : List ℕ) : Type 0 where
  pub lines : ended_from front text ≡ []
  pub left : rest_from front text ≡ front ++ text

front_some : (b : ℕ) (o : Option (List ℕ × List ℕ)) (line rest : List ℕ) → with_front b o ≡ Some (line, rest) → (tail : List ℕ) × (line ≡ b ∷ tail) × (o ≡ Some (tail, rest))
front_some b None line rest e = absurd cc
front_some b (Some parts) line rest e =
    let same : (b ∷ parts.0, parts.1) ≡ (line, rest) = cc in
    (parts.0, ap (λ (p : List ℕ × List ℕ). p.0) (sym same), ap (λ (r : List ℕ). Some (parts.0, r)) (ap (λ (p : List ℕ × List ℕ). p.1) same))

front_none : (b : ℕ) (o : Option (List ℕ × List ℕ)) → with_front b o ≡ None → o ≡ None
front_none b None e = refl
front_none b (Some parts) e = absurd cc

pub cut_is : (front text line rest : List ℕ) → cut_at 10 text ≡ Some (line, rest) → IsCut front text line rest
unfolding cut_at ended_from rest_from
cut_is front [] line rest e = absurd cc
cut_is front (b ∷ text) line rest e = by (b == 10) refl e (λ tail e. cut_is (front ++ b ∷ []) text tail rest e)
  where
    by : (t : Bool) → (b == 10) ≡ t → (if t then Some ([], text) else with_front b (cut_at 10 text)) ≡ Some (line, rest)
        → ((tail : List ℕ) → cut_at 10 text ≡ Some (tail, rest) → IsCut (front ++ b ∷ []) text tail rest) → IsCut front (b ∷ text) line rest
    by true is e more =
        let same : ([], text) ≡ (line, rest) = cc in
        let first : [] ≡ line = ap (λ (p : List ℕ × List ℕ). p.0) same in
        let next : text ≡ rest = ap (λ (p : List ℕ × List ℕ). p.1) same in
        record {
          lines = ap (λ (t : Bool). if t then front ∷ ended_from [] text else ended_from (front ++ b ∷ []) text) is ∙ ap (λ (l : List ℕ). l ∷ ended_from [] text) (sym (append-nil front) ∙ ap (λ (l : List ℕ). front ++ l) first) ∙ ap (λ (r : List ℕ). (front ++ line) ∷ ended_from [] r) next;
          left = ap (λ (t : Bool). if t then rest_from [] text else rest_from (front ++ b ∷ []) text) is ∙ ap (rest_from []) next;
        }
    by false is e more =
        let found = front_some b (cut_at 10 text) line rest e in
        let later = more found.0 found.2 in
        record {
          lines = ap (λ (t : Bool). if t then front ∷ ended_from [] text else ended_from (front ++ b ∷ []) text) is ∙ later.lines ∙ ap (λ (l : List ℕ). l ∷ ended_from [] rest) (append_assoc front (b ∷ []) found.0 ∙ ap (λ (l : List ℕ). front ++ l) (sym found.1));
          left = ap (λ (t : Bool). if t then rest_from [] text else rest_from (front ++ b ∷ []) text) is ∙ later.left;
        }

pub uncut_is : (front text : List ℕ) → cut_at 10 text ≡ None → IsUncut front text
unfolding cut_at ended_from rest_from
uncut_is front [] e = record { lines = refl; left = sym (append-nil front) }
uncut_is front (b ∷ text) e = by (b == 10) refl e (λ e. uncut_is (front ++ b ∷ []) text e)
  where
    by : (t : Bool) → (b == 10) ≡ t → (if t then Some ([], text) else with_front b (cut_at 10 text)) ≡ None → (cut_at 10 text ≡ None → IsUncut (front ++ b ∷ []) text)
        → IsUncut front (b ∷ text)
    by true is e more = absurd cc
    by false is e more =
        let later = more (front_none b (cut_at 10 text) e) in
        record {
          lines = ap (λ (t : Bool). if t then front ∷ ended_from [] text else ended_from (front ++ b ∷ []) text) is ∙ later.lines;
          left = ap (λ (t : Bool). if t then rest_from [] text else rest_from (front ++ b ∷ []) text) is ∙ later.left ∙ append_assoc front (b ∷ []) text;
        }

-- a line that a newline ends comes first
pub first_line : (text line rest : List ℕ) → cut_at 10 text ≡ Some (line, rest) → lines_of text ≡ line ∷ lines_of rest
first_line text line rest e =
    let cut = cut_is [] text line rest e in
    ap (λ (ls : List (List ℕ)). ls ++ where_some (rest_from [] text)) cut.lines ∙ ap (λ (r : List ℕ). line ∷ (ended_from [] rest ++ where_some r)) cut.left

-- a text without a newline is one line
pub only_line : (text : List ℕ) → cut_at 10 text ≡ None → (text ≡ [] → ⊥) → lines_of text ≡ text ∷ lines_of []
unfolding ended_from rest_from
only_line text e some =
    let uncut = uncut_is [] text e in
    ap (λ (ls : List (List ℕ)). ls ++ where_some (rest_from [] text)) uncut.lines ∙ ap where_some uncut.left ∙ one text some
  where
    one : (bytes : List ℕ) → (bytes ≡ [] → ⊥) → where_some bytes ≡ bytes ∷ []
    one [] some = absurd (some refl)
    one (b ∷ bytes) some = refl

-- an empty text has no lines
pub no_lines : (text : List ℕ) → text ≡ [] → lines_of text ≡ []
unfolding ended_from rest_from
no_lines [] e = refl
no_lines (b ∷ text) e = absurd cc
