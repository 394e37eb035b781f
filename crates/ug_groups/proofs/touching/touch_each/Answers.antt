use Rattle.std.proofs.Common.{sym, ◌∙◌}
use Rattle.ug_groups.proofs.Touched.{other-touched, each-has}
use Rattle.ug_groups.proofs.touching.touch_each.Goals as goal

pub returns-then-not-is_own-clause-rows : goal.returns-then-not-is_own-clause-rows
returns-then-not-is_own-clause-rows g c =
    other-touched c.args.reach c.number.result c.number.ensures c.args.world.now c.args.prefix.now c.args.before.now c.args.paths.now c.args.subgroups.now c.key-group.result.now c.key-group.ensures
    (sym c.is_own.ensures ∙ c.if-not-is_own.true)

pub desire_each-requires : goal.desire_each-requires
desire_each-requires g c =
    each-has c.args.reach c.number.result c.number.ensures c.args.world.now c.args.prefix.now c.args.before.now c.args.paths.now c.args.subgroups.now c.key-group.result.now c.key-group.ensures
    c.in_ok-changes.changes.entries c.requires.there (sym c.is_own.ensures ∙ c.if-not-is_own.false) c.in_ok-changes.ensures.changes c.requires.before c.requires.paths
