-- A subgroup that desires what its key should have does so after an event, where the keys that the event touches are desired anew.
use Rattle.std.proofs.Common.{◌≡◌, Bool, List, [], sym, ◌∙◌, ap}
use Rattle.std.specs.List.Sorted.{IsStrictlySortedBy}
use Rattle.ug_types.specs.declared.key.Key.{Key}
use Rattle.ug_types.specs.Ip.{IpPrefix}
use Rattle.ug_events.specs.Events.{Happening, ComesUp, GoesDown, HasPaths, HasNone, HasPolicy, HasEntries, AsksAgain, SendsRequest, SendsList}
use Rattle.ug_world.specs.World.{World, paths_to}
use Rattle.ug_world.specs.Private.{keys_to, keys_of, wanted}
use Rattle.ug_world.specs.After.{after}
use Rattle.ug_adjout.specs.TableLaws.{sorted-joined}
use Rattle.ug_pack.specs.Ready.{key_order}
use Rattle.ug_pack.proofs.Keys.{key_total, key_exact}
use Rattle.ug_group_rules.specs.Packets.{Rows, Out, same_out, wanted_rows, with_all_desired}
use Rattle.ug_group_rules.specs.Machine.{Subgroup, retabled}
use Rattle.ug_group_rules.proofs.Tables.{row_at, wanted-sorted}
use Rattle.ug_adjout.specs.Desiring.{with_each_desired}
use Rattle.ug_adjout.proofs.Desiring.{each-desired}
use Rattle.ug_group_rules.specs.Touched.{in_order, keys_under, touched_keys, touched, IsKeptIn}
use Rattle.ug_group_rules.proofs.WantedTables.{rows-value}
use Rattle.ug_group_rules.proofs.WantedValues.{wants-kept}

-- no keys are in order
pub no-keys : IsStrictlySortedBy {K = Key} key_order []
unfolding IsStrictlySortedBy
no-keys = tt

ordered : (keys : List Key) → IsStrictlySortedBy key_order (in_order keys)
ordered keys = sorted-joined key_total key_exact [] keys no-keys

ordered_under : (add_path : Bool) (prefix : IpPrefix) (old new : World) → IsStrictlySortedBy key_order (keys_under add_path prefix old new)
ordered_under add_path prefix old new =
    sorted-joined key_total key_exact (in_order (keys_to add_path prefix (paths_to old.routes prefix))) (keys_to add_path prefix (paths_to new.routes prefix)) (ordered (keys_to add_path prefix (paths_to old.routes prefix)))

pub touched-ordered : (e : Happening) (add_path : Bool) (old new : World) → IsStrictlySortedBy key_order (touched_keys e add_path old new)
touched-ordered (HasPaths prefix paths) add_path old new = ordered_under add_path prefix old new
touched-ordered (HasNone prefix) add_path old new = ordered_under add_path prefix old new
touched-ordered (HasEntries name entries) add_path old new = ordered (keys_of add_path new.routes)
touched-ordered (ComesUp name) add_path old new = no-keys
touched-ordered (GoesDown name) add_path old new = no-keys
touched-ordered (HasPolicy name policy) add_path old new = no-keys
touched-ordered (AsksAgain name) add_path old new = no-keys
touched-ordered (SendsRequest name) add_path old new = no-keys
touched-ordered (SendsList name request) add_path old new = no-keys

pub event-touched : (e : Happening) (w : World) (x : Subgroup) → IsKeptIn w x → retabled (after w e) x ≡ touched e w x
event-touched e w x kept =
    let desired : (q : Key) → row_at x.out.desired q ≡ wanted x.key w q = λ q. ap (λ (rows : Rows). row_at rows q) kept.desires ∙ rows-value x.key w q in
    let same : with_each_desired key_order same_out (wanted x.key (after w e)) x.out (touched_keys e x.key.add_path w (after w e)) ≡ with_all_desired (wanted_rows x.key (after w e)) x.out =
    each-desired key_total key_exact same_out x.out (wanted_rows x.key (after w e)) (wanted x.key (after w e)) (touched_keys e x.key.add_path w (after w e)) kept.exact kept.shown (wanted-sorted x.key (after w e))
    (touched-ordered e x.key.add_path w (after w e)) (λ q. rows-value x.key (after w e) q) (λ q absent. wants-kept e w x.key q absent ∙ sym (desired q))
    in
    ap (λ (out : Out). record x { out = out }) (sym same)
