use Rattle.std.proofs.Common.{◌≡◌, false, [], ◌++◌, All, map, length}
use Rattle.ug_turnstile.specs.Rule.{view, pass_of}
use Rattle.ug_turnstile.proofs.turnstile.gather.Given as goal

-- the passes that were taken out lie in the seat, as parts
abbrev pub invariant-loop-pass : goal.invariant-loop-pass
invariant-loop-pass g l =
    (l.base.table_id ≡ l.shared.table_id) × (l.base.me ≡ (view false l.base.me.0.parts, []))
    × (l.passes.items ++ map (pass_of l.shared.table_id) l.base.me.0.parts ≡ l.fn.passes.items)
    × All (λ p. p.turnstile ≡ l.shared.table_id) l.passes.items × All (λ p. p.holds ≡ false) l.passes.items

abbrev pub decreases-loop-pass : goal.decreases-loop-pass
decreases-loop-pass g l = length l.passes.items
