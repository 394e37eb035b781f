use Rattle.std.proofs.Common.{◌≡◌, ◌+◌, ◌∷◌, [], ◌++◌, map, Some, sym, ◌∙◌, ap, subst, arith}
use Rattle.std.specs.List.{AllByRecursion}
use Rattle.std.proofs.lemmas.List.{map-append}
use Rattle.ug_outbound.specs.declared.key.GroupKey.{GroupKey}
use Rattle.ug_world.specs.World.{Routes}
use Rattle.ug_world.specs.Rows.{row_lent}
use Rattle.ug_group_rules.specs.Evaluations.{all_heeded}
use Rattle.ug_groups.specs.TableChanges.{AreNumbered, changes_of, key_at, number_of, reached, with_changes}
use Rattle.ug_groups.proofs.KeyLists.{one-more, all-between}
use Rattle.ug_groups.proofs.Reached.{still-key, reached-none}
use Rattle.ug_groups.proofs.Walked.{routes-numbered, prefix-more, heeded-more, heeded-most, all-behind}
use Rattle.ug_groups.proofs.walking.touch_world.Goals as goal

pub loop-prefix-init : goal.loop-prefix-init
loop-prefix-init g c = record {
  next = tt;
  finite = tt;
  whole = c.into_iter-prefix-iterator.ensures.into_iter_gives ∙ c.rows_behind-prefix-items.ensures.rows ∙ all-behind c.args.world.now.routes;
  rows = λ key is. sym (reached-none c.args.reach key c.args.subgroups.now);
  count = λ key is. omega arith;
  counted = omega arith;
}

pub touch-requires-clause-there : goal.touch-requires-clause-there
touch-requires-clause-there g c = record {
  key = c.requires.there.key;
  is =
      still-key c.args.reach c.requires.there.key (changes_of c.args.world.now (map row_lent c.loop-prefix.yielded) c.requires.there.key) (number_of c.args.reach) c.args.subgroups.now c.loop-prefix.subgroups
      (c.loop-prefix.invariant.rows c.requires.there.key c.requires.there.is)
      ∙ c.requires.there.is;
  so = tt;
}

pub touch-requires-clause-paths : goal.touch-requires-clause-paths
touch-requires-clause-paths g c =
    let whole = ap (λ (rs : Routes). map row_lent c.loop-prefix.yielded ++ rs) (sym c.in-Some.ensures.steps) ∙ c.loop-prefix.invariant.whole in
    all-between (λ r. AreNumbered r.1) (map row_lent c.loop-prefix.yielded) (c.in-Some.prefix, c.in-Some.paths.now) c.next.new.self
    (subst (AllByRecursion (λ r. AreNumbered r.1)) (sym whole) (routes-numbered c.args.world.now.routes c.requires.good.routes))

pub loop-prefix-preserved : goal.loop-prefix-preserved
loop-prefix-preserved g c =
    let so_far = map row_lent c.loop-prefix.yielded in
    let here = map-append row_lent c.loop-prefix.yielded ((c.in-Some.prefix, c.in-Some.paths) ∷ []) in
    let at : (key : GroupKey) → key_at (number_of c.args.reach) c.args.subgroups.now ≡ Some key → key_at (number_of c.args.reach) c.loop-prefix.subgroups ≡ Some key =
    λ key is. still-key c.args.reach key (changes_of c.args.world.now so_far key) (number_of c.args.reach) c.args.subgroups.now c.loop-prefix.subgroups (c.loop-prefix.invariant.rows key is) ∙ is
    in
    record {
      next = tt;
      finite = tt;
      whole =
          ap (λ (rs : Routes). rs ++ c.next.new.self) here ∙ one-more so_far (c.in-Some.prefix, c.in-Some.paths.now) c.next.new.self ∙ ap (λ (rs : Routes). so_far ++ rs) (sym c.in-Some.ensures.steps)
          ∙ c.loop-prefix.invariant.whole;
      rows = λ key is.
          prefix-more c.args.reach c.args.world.now so_far (c.in-Some.prefix, c.in-Some.paths.now) c.args.subgroups.now c.loop-prefix.subgroups c.touch.new.subgroups key (c.loop-prefix.invariant.rows key is)
          (c.in_ok-touch.ensures.rows key (at key is))
          ∙ ap (λ (rs : Routes). reached c.args.reach key (with_changes (changes_of c.args.world.now rs key)) c.args.subgroups.now) (sym here);
      count = λ key is.
          heeded-more key.add_path so_far (c.in-Some.prefix, c.in-Some.paths.now) c.args.steps.now c.loop-prefix.steps c.touch.new.steps (c.loop-prefix.invariant.count key is) (c.in_ok-touch.ensures.steps key (at key is))
          ∙ ap (λ (rs : Routes). c.args.steps.now + all_heeded key.add_path rs) (sym here);
      counted = omega (arith, c.touch.ensures.counted, c.loop-prefix.invariant.counted);
    }

pub returns-in_err-touch-clause-most : goal.returns-in_err-touch-clause-most
returns-in_err-touch-clause-most g c key is =
    let whole = ap (λ (rs : Routes). map row_lent c.loop-prefix.yielded ++ rs) (sym c.in-Some.ensures.steps) ∙ c.loop-prefix.invariant.whole in
    heeded-most key.add_path (map row_lent c.loop-prefix.yielded) (c.in-Some.prefix, c.in-Some.paths.now) c.next.new.self c.args.world.now.routes c.args.steps.now c.loop-prefix.steps c.touch.new.steps whole
    (c.loop-prefix.invariant.count key is)
    (c.touch.ensures.most key
    (still-key c.args.reach key (changes_of c.args.world.now (map row_lent c.loop-prefix.yielded) key) (number_of c.args.reach) c.args.subgroups.now c.loop-prefix.subgroups (c.loop-prefix.invariant.rows key is) ∙ is))
