-- What tells the past up to a place, and what tells it from there on, tell it together.
use Rattle.std.proofs.Common.{ℕ, List, [], ◌∷◌, ◌++◌}
use Rattle.ug_hearing.specs.declared.change.Change.{Change}
use Rattle.ug_hearing.specs.Pasts.{Value, IsToldBy, IsToldUntil}

pub glued : (past : List Value) (from : ℕ) (v : Value) (changes : List Change) (c : Change) (more : List Change) → IsToldUntil past from v changes c.place → IsToldBy past c.place c.value more → IsToldBy past from v (changes ++ c ∷ more)
glued past from v [] c more h k = (h.0, h.1, k)
glued past from v (d ∷ changes) c more h k = (h.0, h.1, glued past d.place d.value changes c more h.2 k)
