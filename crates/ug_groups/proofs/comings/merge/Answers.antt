use Rattle.std.specs.Prelude.{None, IfSome}
use Rattle.std.proofs.Common.{◌≡◌, refl, sym, subst, ap, ◌∙◌, slice_set, Some}
use Rattle.ug_intern.specs.Pools.{Pooled}
use Rattle.ug_types.specs.declared.route.OutAttrs.{OutAttrs}
use Rattle.ug_queue.specs.Spread.{value_of}
use Rattle.ug_queue.specs.Queues.{IsMember, place_of}
use Rattle.ug_groups.specs.Holders.{IsCounted}
use Rattle.ug_groups.specs.Subgroups.{Grouped}
use Rattle.ug_groups.specs.Entries.{Entries, IsKept}
use Rattle.ug_groups.proofs.Accounts.{counted_in}
use Rattle.ug_groups.proofs.Dones.{at_there}
use Rattle.ug_groups.proofs.PartAndMeet.{still_there, stays_there, kept_back}
use Rattle.ug_groups.proofs.comings.merge.Goals as goal

pub at_mut-entry-requires : goal.at_mut-entry-requires
at_mut-entry-requires c = stays_there c.args.live.now _ c.args.g c.args.h c.requires.other c.remove-subgroup.ensures.gone c.requires.there

pub absorb-requires-clause-apart : goal.absorb-requires-clause-apart
absorb-requires-clause-apart c =
    let xs = c.args.live.now in let f = c.remove-subgroup.result in let e = c.at_mut-entry.result.now in
    let there : value_of c.args.g xs ≡ Some e = still_there xs c.args.g c.args.h e c.requires.other (ap (value_of c.args.g) (sym c.remove-subgroup.ensures.gone) ∙ c.at_mut-entry.ensures.value) in
    at_there (λ x. (m : _) → IsMember f.subgroup.queue m → place_of x.subgroup.queue m ≡ None) xs c.args.g e there
    (at_there (λ y. IfSome (value_of c.args.g xs) (λ x. (m : _) → IsMember y.subgroup.queue m → place_of x.subgroup.queue m ≡ None)) xs c.args.h f c.remove-subgroup.ensures.value c.requires.apart)

pub absorb-requires-clause-counted : goal.absorb-requires-clause-counted
absorb-requires-clause-counted c = counted_in c.args.pool.now c.args.live.now c.args.h c.remove-subgroup.result c.requires.kept c.remove-subgroup.ensures.value

pub returns-in_default-clause-ok : goal.returns-in_default-clause-ok
returns-in_default-clause-ok c =
    let xs = c.args.live.now in let e = c.at_mut-entry.result.now in
    record {
      was = e;
      now = record { class = e.class; subgroup = c.absorb.new.self };
      other = c.remove-subgroup.result;
      there = still_there xs c.args.g c.args.h e c.requires.other (ap (value_of c.args.g) (sym c.remove-subgroup.ensures.gone) ∙ c.at_mut-entry.ensures.value);
      with_it = c.remove-subgroup.ensures.value;
      changed = ap (λ (ys : Entries). slice_set ys c.args.g (Some (record { class = e.class; subgroup = c.absorb.new.self }))) c.remove-subgroup.ensures.gone;
      class = refl;
      now_is = c.in_default.ensures.ok;
      uses = c.in_default.ensures.uses;
      values = c.in_default.ensures.values;
    }

pub retire-requires : goal.retire-requires
retire-requires c = record {
  counted =
      subst (λ (b : Grouped). IsCounted c.absorb.new.pool b.point.adj) (sym c.in-Err.ensures.returned)
      (subst (λ (q : Pooled OutAttrs). IsCounted q c.remove-subgroup.result.subgroup.point.adj) (sym c.in-Err.ensures.pool) (counted_in c.args.pool.now c.args.live.now c.args.h c.remove-subgroup.result c.requires.kept c.remove-subgroup.ensures.value));
}

pub returns-clause-err : goal.returns-clause-err
returns-clause-err c next hand kept =
    let xs = c.args.live.now in let e = c.at_mut-entry.result.now in
    subst (λ (ys : Entries). IsKept next hand c.retire.new.pool (slice_set ys c.args.g (Some (record { class = e.class; subgroup = c.absorb.new.self })))) (sym c.remove-subgroup.ensures.gone)
    (kept_back c.args.pool.now c.absorb.new.pool c.retire.new.pool xs c.args.g c.args.h e c.remove-subgroup.result c.absorb.new.self c.in-Err.back c.remove-subgroup.ensures.value (ap (value_of c.args.g) (sym c.remove-subgroup.ensures.gone) ∙ c.at_mut-entry.ensures.value)
    c.in-Err.ensures.err c.in-Err.ensures.returned c.in-Err.ensures.pool c.retire.ensures.uses c.retire.ensures.values next hand kept)
