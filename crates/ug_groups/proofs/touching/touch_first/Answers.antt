use Rattle.std.proofs.Common.{◌≡◌, Option, false, [], ◌∷◌, sym, ◌∙◌, ap}
use Rattle.std.proofs.lemmas.Result.{on_ok_weaker}
use Rattle.ug_types.specs.declared.route.OutAttrs.{OutAttrs}
use Rattle.ug_groups.specs.TableChanges.{Changes}
use Rattle.ug_groups.proofs.Touched.{other-touched, own-touched, same-flag}
use Rattle.ug_groups.proofs.touching.touch_first.Goals as goal

pub returns-then-not-is_own-clause-rows : goal.returns-then-not-is_own-clause-rows
returns-then-not-is_own-clause-rows g c =
    other-touched c.args.reach c.number.result c.number.ensures c.args.world.now c.args.prefix.now [] c.args.paths.now c.args.subgroups.now c.key-group.result.now c.key-group.ensures
    (sym c.is_own.ensures ∙ c.if-not-is_own.true)

pub returns-clause-rows : goal.returns-clause-rows
returns-clause-rows g c =
    on_ok_weaker c.desire.result
    (λ so. own-touched c.args.reach c.number.result c.number.ensures c.args.world.now c.args.prefix.now [] c.args.paths.now c.args.subgroups.now c.key-group.result.now c.key-group.ensures false
    ((record { prefix = c.args.prefix.now; id = 0 }, c.in_ok-value.value) ∷ []) (sym c.is_own.ensures ∙ c.if-not-is_own.false)
    (same-flag c.args.reach c.number.result c.number.ensures c.args.world.now c.args.prefix.now [] c.args.paths.now c.args.subgroups.now c.key-group.result.now c.key-group.ensures (λ key. key.add_path ≡ false) c.requires)
    (ap (λ (o : Option OutAttrs). let cs : Changes = (record { prefix = c.args.prefix.now; id = 0 }, o) ∷ [] in cs) c.in_ok-value.ensures.value) c.desire.new.subgroups so)
    c.desire.ensures
