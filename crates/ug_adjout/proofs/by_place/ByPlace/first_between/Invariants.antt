use Rattle.std.proofs.Common.{◌≡◌, ◌<◌, ◌≤◌, ℕ, None}
use Rattle.std.specs.Ordering.{nat_cmp}
use Rattle.ug_adjout.specs.Tables.{value_at}
use Rattle.ug_adjout.proofs.by_place.ByPlace.first_between.Given as goal

-- no place up to this one has a value
abbrev pub invariant-loop-at : goal.invariant-loop-at
invariant-loop-at l = (q : ℕ) → l.place ≤ q → q < l.at → value_at nat_cmp l.self q ≡ None
