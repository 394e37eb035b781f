use Rattle.std.proofs.Common.{◌+◌, ◌≤◌, ℕ, List, sym, ◌∙◌, ap, subst}
use Rattle.std.proofs.lemmas.Result.{on_ok_weaker}
use Rattle.ug_events.specs.Views.{event_of}
use Rattle.ug_world.specs.Good.{IsGoodWorld}
use Rattle.ug_world.proofs.GoodWorlds.{good-after}
use Rattle.ug_groups.specs.Rows.{keys_in}
use Rattle.ug_groups.specs.TableChanges.{HaveKeys, keys_decided}
use Rattle.ug_groups.proofs.RowsEntered.{list-entered, list-cost}
use Rattle.ug_groups.proofs.entering.enter_list.Goals as goal

pub touch_keys-requires-clause-good : goal.touch_keys-requires-clause-good
touch_keys-requires-clause-good g c = subst IsGoodWorld (sym c.in_ok-take.ensures.ok) (good-after c.args.world.now (event_of c.args.event.now) c.requires.good c.requires.form)

pub touch_keys-requires-clause-keys : goal.touch_keys-requires-clause-keys
touch_keys-requires-clause-keys g c = record {
  keys = keys_decided c.take.new.self c.args.name.now (keys_in c.args.subgroups.now);
  are = subst (λ (gs : List ℕ). HaveKeys gs c.args.subgroups.now (keys_decided c.take.new.self c.args.name.now (keys_in c.args.subgroups.now))) (sym c.deref.ensures.value) c.in_ok-groups-2.ensures;
}

pub returns-clause-rows : goal.returns-clause-rows
returns-clause-rows g c =
    on_ok_weaker c.touch_keys.result
    (λ so.
    so (keys_decided c.take.new.self c.args.name.now (keys_in c.args.subgroups.now))
    (subst (λ (gs : List ℕ). HaveKeys gs c.args.subgroups.now (keys_decided c.take.new.self c.args.name.now (keys_in c.args.subgroups.now))) (sym c.deref.ensures.value) c.in_ok-groups-2.ensures)
    ∙ list-entered (event_of c.args.event.now) c.args.name.now c.args.world.now c.requires.about c.take.new.self c.in_ok-take.ensures.ok c.know_order.ensures c.args.subgroups.now c.requires.kept)
    c.touch_keys.ensures.rows

pub returns-clause-steps : goal.returns-clause-steps
returns-clause-steps g c =
    on_ok_weaker c.touch_keys.result
    (λ so.
    so (keys_decided c.take.new.self c.args.name.now (keys_in c.args.subgroups.now))
    (subst (λ (gs : List ℕ). HaveKeys gs c.args.subgroups.now (keys_decided c.take.new.self c.args.name.now (keys_in c.args.subgroups.now))) (sym c.deref.ensures.value) c.in_ok-groups-2.ensures)
    ∙ ap (λ (n : ℕ). c.args.steps.now + n) (list-cost (event_of c.args.event.now) c.args.name.now c.args.world.now c.requires.about c.take.new.self c.in_ok-take.ensures.ok c.args.subgroups.now))
    c.touch_keys.ensures.steps

pub returns-clause-most : goal.returns-clause-most
returns-clause-most g c =
    subst (λ (n : ℕ). c.touch_keys.new.steps ≤ c.args.steps.now + n) (list-cost (event_of c.args.event.now) c.args.name.now c.args.world.now c.requires.about c.take.new.self c.in_ok-take.ensures.ok c.args.subgroups.now)
    (c.touch_keys.ensures.most (keys_decided c.take.new.self c.args.name.now (keys_in c.args.subgroups.now))
    (subst (λ (gs : List ℕ). HaveKeys gs c.args.subgroups.now (keys_decided c.take.new.self c.args.name.now (keys_in c.args.subgroups.now))) (sym c.deref.ensures.value) c.in_ok-groups-2.ensures))
