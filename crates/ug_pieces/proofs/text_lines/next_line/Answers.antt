use Rattle.std.proofs.Common.{◌≡◌, ◌∙◌, ℕ, List, [], ◌∷◌, true, false, length, sym, refl, arith}
use Rattle.std.proofs.lemmas.Bool.{eqb-true}
use Rattle.std.specs.Prelude.{◌==◌}
use Rattle.ug_pieces.proofs.Cut.{first_line, only_line, no_lines}
use Rattle.ug_pieces.proofs.text_lines.next_line.Goals as goal

is_none : (text : List ℕ) → (length text == 0) ≡ true → text ≡ []
is_none [] e = refl
is_none (b ∷ text) e = let none : length (b ∷ text) ≡ 0 = eqb-true (length (b ∷ text)) 0 e in absurd (omega arith)

is_some : (text : List ℕ) → (length text == 0) ≡ false → text ≡ [] → ⊥
is_some [] e none = absurd cc
is_some (b ∷ text) e none = cc

pub returns-then-is_empty-clause-none : goal.returns-then-is_empty-clause-none
returns-then-is_empty-clause-none c = no_lines c.args.text.now (is_none c.args.text.now (sym c.is_empty.ensures ∙ c.if-is_empty.true))

pub returns-in-Some-clause-some : goal.returns-in-Some-clause-some
returns-in-Some-clause-some c = first_line c.args.text.now c.in-Some.line.now c.in-Some.rest.now (sym c.in-Some.ensures.parts)

pub returns-in-None-clause-some : goal.returns-in-None-clause-some
returns-in-None-clause-some c = only_line c.args.text.now (sym c.in-None.ensures.parts) (is_some c.args.text.now (sym c.is_empty.ensures ∙ c.if-is_empty.false))
