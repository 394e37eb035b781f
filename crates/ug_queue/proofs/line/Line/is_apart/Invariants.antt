use Rattle.std.specs.Prelude.{None}
use Rattle.std.specs.Map.{keys_of}
use Rattle.std.proofs.Common.{◌≡◌, ◌<◌, ℕ, get_or}
use Rattle.ug_queue.specs.Queues.{place_of}
use Rattle.ug_queue.proofs.line.Line.is_apart.Given as goal

abbrev pub invariant-loop-member : goal.invariant-loop-member
invariant-loop-member g l =
    (keys_of l.member-items ≡ keys_of l.other.places) × ((k : ℕ) → k < l.member-index → place_of l.self (get_or (keys_of l.member-items) k 0) ≡ None)
