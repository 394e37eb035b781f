use Rattle.std.proofs.Common.{sym, arith}
use Rattle.ug_groups.proofs.TurnStarts.{asking-none}
use Rattle.ug_groups.proofs.turning.open_for.Goals as goal

pub returns-in-Some-clause-steps : goal.returns-in-Some-clause-steps
returns-in-Some-clause-steps g c =
    let none = asking-none c.args.key c.args.world.now c.args.subgroups.now c.in-Some.sub (sym c.in-Some.ensures) in
    omega (arith, none)
