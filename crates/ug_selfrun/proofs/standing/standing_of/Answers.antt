use Rattle.std.proofs.Common.{◌≡◌, ℕ, ◌-◌, Some, subst}
use Rattle.std.specs.Prelude.{slice_get}
use Rattle.ug_selfrun.proofs.Counting.{standing_rows}
use Rattle.ug_selfrun.proofs.standing.standing_of.Goals as goal

pub returns-in-Ok : goal.returns-in-Ok
returns-in-Ok c = λ w p s is up holds.
    standing_rows w p s c.args.peer.now c.args.is_up _ c.args.wire.now.sessions c.in-Ok.rows is up c.if-not-is_up.false
    (subst (λ (n : ℕ). slice_get c.args.wire.now.sessions (n - 1) ≡ Some c.session.result.now) c.sessions-count.ensures c.session.ensures) c.in-Ok.ensures.ok holds
