use Rattle.std.proofs.Common.{◌∷◌, [], ◌++◌, sym, ◌∙◌, ap, subst}
use Rattle.std.specs.List.{AllByRecursion}
use Rattle.ug_pack.specs.Ready.{IsKeyOf}
use Rattle.ug_groups.specs.Rows.{Rows}
use Rattle.ug_groups.specs.TableChanges.{Changes, number_of, reached, with_changes}
use Rattle.ug_groups.proofs.KeyLists.{one-more, all-between}
use Rattle.ug_groups.proofs.Reached.{still-key, reached-none, reached-append}
use Rattle.ug_groups.proofs.desiring.desire_each.Goals as goal

pub loop-key-init : goal.loop-key-init
loop-key-init c = (tt, tt, c.into_iter-key-iterator.ensures.into_iter_gives.0, λ key is. sym (reached-none c.args.reach key c.args.subgroups.now))

pub desire-requires : goal.desire-requires
desire-requires c =
    let so_far = c.loop-key.invariant.3 c.requires.key c.requires.is in
    let all = ap (λ (cs : Changes). c.loop-key.yielded ++ cs) (sym c.in-Some.ensures.steps) ∙ c.loop-key.invariant.2 in
    record {
      key = c.requires.key;
      is = still-key c.args.reach c.requires.key c.loop-key.yielded (number_of c.args.reach) c.args.subgroups.now c.loop-key.subgroups so_far ∙ c.requires.is;
      so = all-between (λ e. IsKeyOf c.requires.key.family c.requires.key.add_path e.0) c.loop-key.yielded (c.in-Some.key, c.in-Some.value) c.next.new.self
          (subst (AllByRecursion (λ e. IsKeyOf c.requires.key.family c.requires.key.add_path e.0)) (sym all) c.requires.so);
    }

pub loop-key-preserved : goal.loop-key-preserved
loop-key-preserved c = (
  tt,
  tt,
  one-more c.loop-key.yielded (c.in-Some.key, c.in-Some.value) c.next.new.self ∙ ap (λ (cs : Changes). c.loop-key.yielded ++ cs) (sym c.in-Some.ensures.steps) ∙ c.loop-key.invariant.2,
  λ key is.
      let so_far = c.loop-key.invariant.3 key is in
      c.in_ok-desire.ensures key (still-key c.args.reach key c.loop-key.yielded (number_of c.args.reach) c.args.subgroups.now c.loop-key.subgroups so_far ∙ is)
      ∙ ap (λ (rows : Rows). reached c.args.reach key (with_changes ((c.in-Some.key, c.in-Some.value) ∷ [])) rows) so_far
      ∙ reached-append c.args.reach key c.loop-key.yielded ((c.in-Some.key, c.in-Some.value) ∷ []) c.args.subgroups.now,
)
