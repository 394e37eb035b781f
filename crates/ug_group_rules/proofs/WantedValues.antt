-- What a group key should have stands under the keys of the world, and an event changes it under those alone that it touches.
use Rattle.std.proofs.Common.{◌≡◌, ℕ, Bool, true, false, List, [], Option, Some, None, refl, sym, ◌∙◌, ap, subst}
use Rattle.std.specs.Prelude.{◌||◌}
use Rattle.ug_types.specs.Ip.{IpPrefix}
use Rattle.ug_types.specs.Keys.{same_prefix}
use Rattle.ug_types.specs.declared.key.Key.{Key}
use Rattle.ug_types.specs.declared.route.Path.{Path}
use Rattle.ug_outbound.specs.declared.key.GroupKey.{GroupKey}
use Rattle.ug_events.specs.Events.{Happening, ComesUp, GoesDown, HasPaths, HasNone, HasPolicy, HasEntries, AsksAgain, SendsRequest, SendsList}
use Rattle.ug_world.specs.World.{Routes, World, paths_to}
use Rattle.ug_world.specs.Private.{keys_to, keys_of, path_at, wanted}
use Rattle.ug_world.specs.After.{after}
use Rattle.ug_world.proofs.Keeping.{kept}
use Rattle.ug_adjout.specs.Tables.{has}
use Rattle.ug_adjout.specs.TableLaws.{has-joined}
use Rattle.ug_pack.specs.Ready.{key_order}
use Rattle.ug_pack.proofs.Keys.{key_total, key_exact}
use Rattle.ug_speaker.proofs.SameKeys.{prefix-is}
use Rattle.ug_speaker.proofs.PathKeys.{path_among}
use Rattle.ug_group_rules.proofs.WantedTables.{has-among, without-path, none-among}
use Rattle.ug_group_rules.specs.Touched.{in_order, keys_under, touched_keys}

-- ---- what isn't wanted

none_under : (group : GroupKey) (w : World) (prefix : IpPrefix) (q : Key) → same_prefix q.prefix prefix ≡ true → has key_order (keys_to group.add_path prefix (paths_to w.routes prefix)) q ≡ false → wanted group w q ≡ None
none_under group w prefix q same absent = by (path_at group.add_path q.id (paths_to w.routes q.prefix)) refl
  where
    by : (o : Option Path) → path_at group.add_path q.id (paths_to w.routes q.prefix) ≡ o → wanted group w q ≡ None
    by None e = without-path group w q e
    by (Some path) e =
        let at : path_at group.add_path q.id (paths_to w.routes prefix) ≡ Some path = subst (λ (p : IpPrefix). path_at group.add_path q.id (paths_to w.routes p) ≡ Some path) (prefix-is q.prefix prefix same) e in
        let there = path_among group.add_path q.prefix prefix q.id (paths_to w.routes prefix) path same at in
        let listed = has-among (keys_to group.add_path prefix (paths_to w.routes prefix)) q in absurd (let z = sym absent ∙ listed ∙ there in cc)

-- ---- an event

first_of_both : (a b : Bool) → (a || b) ≡ false → a ≡ false
first_of_both true b e = absurd cc
first_of_both false b e = refl

second_of_both : (a b : Bool) → (a || b) ≡ false → b ≡ false
second_of_both true b e = absurd cc
second_of_both false b e = e

ordered-has : (keys : List Key) (q : Key) → has key_order (in_order keys) q ≡ has key_order keys q
ordered-has keys q = has-joined key_total key_exact [] keys q

under_old : (add_path : Bool) (prefix : IpPrefix) (old new : World) (q : Key) → has key_order (keys_under add_path prefix old new) q ≡ false → has key_order (keys_to add_path prefix (paths_to old.routes prefix)) q ≡ false
under_old add_path prefix old new q absent =
    sym (ordered-has (keys_to add_path prefix (paths_to old.routes prefix)) q)
    ∙ first_of_both _ (has key_order (keys_to add_path prefix (paths_to new.routes prefix)) q) (sym (has-joined key_total key_exact (in_order (keys_to add_path prefix (paths_to old.routes prefix))) (keys_to add_path prefix (paths_to new.routes prefix)) q) ∙ absent)

under_new : (add_path : Bool) (prefix : IpPrefix) (old new : World) (q : Key) → has key_order (keys_under add_path prefix old new) q ≡ false → has key_order (keys_to add_path prefix (paths_to new.routes prefix)) q ≡ false
under_new add_path prefix old new q absent =
    second_of_both (has key_order (in_order (keys_to add_path prefix (paths_to old.routes prefix))) q) _ (sym (has-joined key_total key_exact (in_order (keys_to add_path prefix (paths_to old.routes prefix))) (keys_to add_path prefix (paths_to new.routes prefix)) q) ∙ absent)

by_prefix : (e : Happening) (w : World) (group : GroupKey) (prefix : IpPrefix) (q : Key) → ((same_prefix q.prefix prefix ≡ false) → wanted group (after w e) q ≡ wanted group w q)
    → has key_order (keys_under group.add_path prefix w (after w e)) q ≡ false → wanted group (after w e) q ≡ wanted group w q
by_prefix e w group prefix q apart absent = by (same_prefix q.prefix prefix) refl
  where
    by : (b : Bool) → same_prefix q.prefix prefix ≡ b → wanted group (after w e) q ≡ wanted group w q
    by true same = none_under group (after w e) prefix q same (under_new group.add_path prefix w (after w e) q absent) ∙ sym (none_under group w prefix q same (under_old group.add_path prefix w (after w e) q absent))
    by false differs = apart differs

same_routes : (w : World) (name : List ℕ) (entries : _) → (after w (HasEntries name entries)).routes ≡ w.routes
unfolding after
same_routes w name entries = refl

-- under all other keys than those that it touches, a group key wants after an event what it wanted before
pub wants-kept : (e : Happening) (w : World) (group : GroupKey) (q : Key) → has key_order (touched_keys e group.add_path w (after w e)) q ≡ false → wanted group (after w e) q ≡ wanted group w q
wants-kept (HasPaths prefix paths) w group q absent = by_prefix (HasPaths prefix paths) w group prefix q (λ differs. kept w (HasPaths prefix paths) group q differs) absent
wants-kept (HasNone prefix) w group q absent = by_prefix (HasNone prefix) w group prefix q (λ differs. kept w (HasNone prefix) group q differs) absent
wants-kept (HasEntries name entries) w group q absent =
    let out_of : has key_order (keys_of group.add_path (after w (HasEntries name entries)).routes) q ≡ false = sym (ordered-has (keys_of group.add_path (after w (HasEntries name entries)).routes) q) ∙ absent in
    none-among group (after w (HasEntries name entries)) q out_of
    ∙ sym (none-among group w q (ap (λ (r : Routes). has key_order (keys_of group.add_path r) q) (sym (same_routes w name entries)) ∙ out_of))
wants-kept (ComesUp name) w group q absent = kept w (ComesUp name) group q refl
wants-kept (GoesDown name) w group q absent = kept w (GoesDown name) group q refl
wants-kept (HasPolicy name policy) w group q absent = kept w (HasPolicy name policy) group q refl
wants-kept (AsksAgain name) w group q absent = kept w (AsksAgain name) group q refl
wants-kept (SendsRequest name) w group q absent = kept w (SendsRequest name) group q refl
wants-kept (SendsList name request) w group q absent = kept w (SendsList name request) group q refl
