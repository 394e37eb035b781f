use Rattle.std.proofs.Common.{◌∙◌}
use Rattle.std.proofs.lemmas.Result.{on_ok_weaker}
use Rattle.ug_groups.specs.TableChanges.{IsFillable}
use Rattle.ug_groups.proofs.FreshRows.{key-there, tabled-now, filled}
use Rattle.ug_groups.proofs.fresh.desire_wanted.Goals as goal

pub touch_world-requires-clause-there : goal.touch_world-requires-clause-there
touch_world-requires-clause-there g c = record {
  key = c.requires.there.0.sub.key;
  is = key-there c.args.g c.args.subgroups.now (λ r. IsFillable c.args.world.now r.sub) c.requires.there;
  so = tt;
}

pub returns-in-Some-clause-rows : goal.returns-in-Some-clause-rows
returns-in-Some-clause-rows g c =
    on_ok_weaker c.desire_as.result
    (λ so. tabled-now c.args.world.now c.args.from c.in-Some.from c.args.g c.args.subgroups.now c.desire_as.new.self c.in-Some.is c.requires.from c.requires.there so)
    c.desire_as.ensures

pub returns-in-None-clause-rows : goal.returns-in-None-clause-rows
returns-in-None-clause-rows g c =
    let at = key-there c.args.g c.args.subgroups.now (λ r. IsFillable c.args.world.now r.sub) c.requires.there in
    on_ok_weaker c.touch_world.result
    (λ so. so c.requires.there.0.sub.key at ∙ filled c.args.world.now c.args.g c.args.subgroups.now c.know_order.ensures c.requires.there c.requires.there.0.sub.key at)
    c.touch_world.ensures.rows
