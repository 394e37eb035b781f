use Rattle.std.proofs.Common.{◌<◌, length, get_or, ◌∙◌, arith}
use Rattle.ug_outbound.specs.declared.key.GroupKey.{GroupKey}
use Rattle.ug_group_rules.specs.Evaluations.{all_heeded}
use Rattle.ug_groups.specs.declared.reach.Reach.TheVariants.{Alike}
use Rattle.ug_groups.specs.TableChanges.{changes_of, with_changes}
use Rattle.ug_groups.proofs.Reached.{still-key}
use Rattle.ug_groups.proofs.Walked.{key-there, keys-more, costs-more, costs-most}
use Rattle.ug_groups.proofs.walking.touch_keys.Goals as goal

pub touch_world-requires-clause-there : goal.touch_world-requires-clause-there
touch_world-requires-clause-there g c =
    let inside : c.loop-g.g-index < length c.args.groups.now = omega arith in
    let there = key-there c.args.groups.now c.args.subgroups.now c.requires.keys.keys c.loop-g.g-index c.requires.keys.are inside in
    record { key = there.key; is = c.loop-g.invariant.same _ ∙ there.is; so = tt }

pub returns-in_err-touch_world-clause-most : goal.returns-in_err-touch_world-clause-most
returns-in_err-touch_world-clause-most g c keys have =
    let inside : c.loop-g.g-index < length c.args.groups.now = omega arith in
    costs-most (λ (key : GroupKey). all_heeded key.add_path c.args.world.now.routes) c.args.groups.now c.args.subgroups.now c.loop-g.subgroups keys c.loop-g.g-index c.args.steps.now c.loop-g.steps
    c.touch_world.new.steps have inside (c.loop-g.invariant.count keys have) c.loop-g.invariant.same c.touch_world.ensures.most

pub loop-g-preserved : goal.loop-g-preserved
loop-g-preserved g c =
    let inside : c.loop-g.g-index < length c.args.groups.now = omega arith in
    let there = key-there c.args.groups.now c.args.subgroups.now c.requires.keys.keys c.loop-g.g-index c.requires.keys.are inside in
    record {
      same = λ h.
          still-key (Alike (get_or c.args.groups.now c.loop-g.g-index 0)) there.key (changes_of c.args.world.now c.args.world.now.routes there.key) h c.loop-g.subgroups c.touch_world.new.subgroups
          (c.in_ok-touch_world.ensures.rows there.key (c.loop-g.invariant.same _ ∙ there.is))
          ∙ c.loop-g.invariant.same h;
      rows = λ keys have.
          keys-more (λ key. with_changes (changes_of c.args.world.now c.args.world.now.routes key)) c.args.groups.now c.args.subgroups.now c.loop-g.subgroups c.touch_world.new.subgroups keys c.loop-g.g-index have inside
          (c.loop-g.invariant.rows keys have) c.loop-g.invariant.same c.in_ok-touch_world.ensures.rows;
      count = λ keys have.
          costs-more (λ (key : GroupKey). all_heeded key.add_path c.args.world.now.routes) c.args.groups.now c.args.subgroups.now c.loop-g.subgroups keys c.loop-g.g-index c.args.steps.now c.loop-g.steps
          c.touch_world.new.steps have inside (c.loop-g.invariant.count keys have) c.loop-g.invariant.same c.in_ok-touch_world.ensures.steps;
      counted = omega (arith, c.touch_world.ensures.counted, c.loop-g.invariant.counted);
    }
