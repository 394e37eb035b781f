use Rattle.std.proofs.Common.{◌≤◌, ◌<◌, List, length, get_or, sym, ◌∙◌, ap, arith}
use Rattle.ug_outbound.specs.declared.key.GroupKey.{GroupKey}
use Rattle.ug_group_rules.specs.Evaluations.{paths_heeded}
use Rattle.ug_groups.specs.declared.reach.Reach.TheVariants.{Alike}
use Rattle.ug_groups.specs.Rows.{keys_in}
use Rattle.ug_groups.specs.TableChanges.{by_keys, changes_to, with_changes}
use Rattle.ug_groups.proofs.ByKeys.{by-each}
use Rattle.ug_groups.proofs.Reached.{changes-key, still-key}
use Rattle.ug_groups.proofs.Walked.{key-there, keys-done, keys-more, costs-more, costs-most}
use Rattle.ug_groups.proofs.walking.touch_prefix.Goals as goal

pub touch-requires-clause-there : goal.touch-requires-clause-there
touch-requires-clause-there g c =
    let inside : c.loop-g.g-index < length c.args.groups.now = omega arith in
    let there = key-there c.args.groups.now c.args.subgroups.now (keys_in c.args.subgroups.now) c.loop-g.g-index c.requires.groups inside in
    record { key = there.key; is = c.loop-g.invariant.same _ ∙ there.is; so = tt }

pub returns-in_err-touch-clause-most : goal.returns-in_err-touch-clause-most
returns-in_err-touch-clause-most g c =
    let inside : c.loop-g.g-index < length c.args.groups.now = omega arith in
    costs-most (λ (key : GroupKey). paths_heeded key.add_path c.args.paths.now) c.args.groups.now c.args.subgroups.now c.loop-g.subgroups (keys_in c.args.subgroups.now) c.loop-g.g-index c.args.steps.now c.loop-g.steps
    c.touch.new.steps c.requires.groups inside c.loop-g.invariant.count c.loop-g.invariant.same c.touch.ensures.most

pub loop-g-preserved : goal.loop-g-preserved
loop-g-preserved g c =
    let keys = keys_in c.args.subgroups.now in
    let inside : c.loop-g.g-index < length c.args.groups.now = omega arith in
    let there = key-there c.args.groups.now c.args.subgroups.now keys c.loop-g.g-index c.requires.groups inside in
    record {
      same = λ h.
          still-key (Alike (get_or c.args.groups.now c.loop-g.g-index 0)) there.key (changes_to c.args.world.now c.args.prefix.now c.args.before.now c.args.paths.now there.key) h c.loop-g.subgroups c.touch.new.subgroups
          (c.in_ok-touch.ensures.rows there.key (c.loop-g.invariant.same _ ∙ there.is))
          ∙ c.loop-g.invariant.same h;
      rows =
          keys-more (λ key. with_changes (changes_to c.args.world.now c.args.prefix.now c.args.before.now c.args.paths.now key)) c.args.groups.now c.args.subgroups.now c.loop-g.subgroups c.touch.new.subgroups keys c.loop-g.g-index c.requires.groups inside
          c.loop-g.invariant.rows c.loop-g.invariant.same c.in_ok-touch.ensures.rows;
      count =
          costs-more (λ (key : GroupKey). paths_heeded key.add_path c.args.paths.now) c.args.groups.now c.args.subgroups.now c.loop-g.subgroups keys c.loop-g.g-index c.args.steps.now c.loop-g.steps
          c.touch.new.steps c.requires.groups inside c.loop-g.invariant.count c.loop-g.invariant.same c.in_ok-touch.ensures.steps;
      counted = omega (arith, c.touch.ensures.counted, c.loop-g.invariant.counted);
    }

pub returns-clause-rows : goal.returns-clause-rows
returns-clause-rows g c =
    let keys = keys_in c.args.subgroups.now in
    let past : length c.args.groups.now ≤ c.loop-g.g-index = omega arith in
    sym
    (ap (λ (ks : List GroupKey). by_keys (λ key. with_changes (changes_to c.args.world.now c.args.prefix.now c.args.before.now c.args.paths.now key)) ks c.loop-g.subgroups)
    (keys-done c.args.groups.now c.args.subgroups.now keys c.loop-g.g-index c.requires.groups past))
    ∙ c.loop-g.invariant.rows
    ∙ by-each (λ key. with_changes (changes_to c.args.world.now c.args.prefix.now c.args.before.now c.args.paths.now key)) (λ key. changes-key (changes_to c.args.world.now c.args.prefix.now c.args.before.now c.args.paths.now key))
    c.args.world.now c.args.subgroups.now
