use Rattle.std.proofs.Common.{◌≡◌, ◌-◌, ◌≤◌, false, [], map}
use Rattle.std.specs.List.{range_with_len}
use Rattle.ug_turnstile.specs.Passes.{fresh_pass}
use Rattle.ug_turnstile.specs.Rule.{view, fresh_parts}
use Rattle.ug_turnstile.proofs.turnstile.deal.Given as goal

-- the seat has the parts of the passes that are still to be made
abbrev pub invariant-loop-number : goal.invariant-loop-number
invariant-loop-number g l =
    let root = g.S.Logged.root l.shared.key.state.value in
    (l.number ≤ l.n) × (l.base.table_id ≡ l.shared.table_id) × (l.base.me ≡ (view false (fresh_parts root l.number (l.n - l.number)), []))
    × (l.passes.items ≡ map (fresh_pass l.shared.table_id root) (range_with_len 0 l.number)) × (l.n - l.number ≤ l.passes.spare)
