use Rattle.std.proofs.Common.{arith, ◌++◌, List, ℕ, drop, ap, sym, ◌∙◌}
use Rattle.std.proofs.lemmas.List.{take-append-drop, take_all}
use Rattle.ug_pieces.proofs.codes.begins_with.Goals as goal

pub returns : goal.returns
returns c = λ is. (
  drop c.loop-at.at c.args.text.now,
  sym (take-append-drop c.loop-at.at c.args.text.now)
      ∙ ap (λ (xs : List ℕ). xs ++ drop c.loop-at.at c.args.text.now) (c.loop-at.invariant ∙ take_all c.loop-at.at c.args.word.now (omega arith)),
)
