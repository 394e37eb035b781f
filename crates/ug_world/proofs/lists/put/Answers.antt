use Rattle.std.proofs.Common.{◌≡◌, false, true, List, map, refl, sym, subst}
use Rattle.std.specs.Prelude.{slice_index_or}
use Rattle.ug_types.specs.Bytes.{same_bytes}
use Rattle.ug_policy.specs.Named.{NamedList}
use Rattle.ug_world.specs.Names.{is_name_among}
use Rattle.ug_world.specs.Kept.{IsListAt, name_of, with_value}
use Rattle.ug_world.proofs.Changing.{none_changed, one_changed, got}
use Rattle.ug_world.proofs.lists.put.Goals as goal

pub returns-in_default : goal.returns-in_default
returns-in_default c =
    sym (none_changed name_of c.args.name.now (with_value c.args.list) c.args.lists.now.items
    (subst (λ (xs : List NamedList). is_name_among (map name_of xs) c.args.name.now ≡ false) c.as_slice.ensures c.in_default.ensures))

pub returns-in-Some : goal.returns-in-Some
returns-in-Some c =
    let place = subst (λ (xs : List NamedList). IsListAt xs c.args.name.now c.in-Some.place) c.as_slice.ensures c.in-Some.ensures in
    let old : c.at_mut.result.now ≡ slice_index_or c.args.lists.now.items c.in-Some.place c.at_mut.result.now = got c.args.lists.now.items c.in-Some.place c.at_mut.result.now c.at_mut.ensures.value in
    one_changed name_of c.args.name.now (with_value c.args.list) c.args.lists.now.items c.in-Some.place c.at_mut.result.now (record { name = c.at_mut.result.now.name; value = c.args.list })
    c.requires place.inside old (subst (λ (l : NamedList). same_bytes l.name c.args.name.now ≡ true) (sym old) (place.named c.at_mut.result.now)) refl
