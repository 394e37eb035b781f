-- An event, key by key: the keys that it touches, of which alone it has to be asked what goes out, and what a subgroup
-- desires after it.
use Rattle.std.specs.Prelude.{◌≡◌, Bool, List, []}
use Rattle.ug_types.specs.Ip.{IpPrefix}
use Rattle.ug_types.specs.declared.key.Key.{Key}
use Rattle.ug_events.specs.Events.{Happening, ComesUp, GoesDown, HasPaths, HasNone, HasPolicy, HasEntries, AsksAgain, SendsRequest, SendsList}
use Rattle.ug_world.specs.World.{World, paths_to}
use Rattle.ug_world.specs.Private.{keys_to, keys_of, wanted}
use Rattle.ug_world.specs.After.{after}
use Rattle.ug_adjout.specs.Tables.{joined}
use Rattle.ug_adjout.specs.Pending.{IsExact}
use Rattle.ug_pack.specs.Ready.{key_order}
use Rattle.ug_group_rules.specs.Packets.{same_out, wanted_rows}
use Rattle.ug_group_rules.specs.Machine.{Subgroup}
use Rattle.ug_adjout.specs.Desiring.{with_each_desired, AreForcedShown}

-- keys in their order
abbrev pub in_order : List Key → List Key
in_order keys = joined key_order [] keys

-- the keys of a prefix in both worlds
abbrev pub keys_under : Bool → IpPrefix → World → World → List Key
keys_under add_path prefix old new = joined key_order (in_order (keys_to add_path prefix (paths_to old.routes prefix))) (keys_to add_path prefix (paths_to new.routes prefix))

-- those that an event touches, which leads from one world to the other
abbrev pub touched_keys : Happening → Bool → World → World → List Key
touched_keys (HasPaths prefix paths) add_path old new = keys_under add_path prefix old new
touched_keys (HasNone prefix) add_path old new = keys_under add_path prefix old new
touched_keys (HasEntries name entries) add_path old new = in_order (keys_of add_path new.routes)
touched_keys (ComesUp name) add_path old new = []
touched_keys (GoesDown name) add_path old new = []
touched_keys (HasPolicy name policy) add_path old new = []
touched_keys (AsksAgain name) add_path old new = []
touched_keys (SendsRequest name) add_path old new = []
touched_keys (SendsList name request) add_path old new = []

-- these keys are desired as the subgroup's key wants them in this world, one after the other
abbrev pub desired_anew : World → List Key → Subgroup → Subgroup
desired_anew w keys x = record x { out = with_each_desired key_order same_out (wanted x.key w) x.out keys }

-- the subgroup after an event, as far as what it desires
abbrev pub touched : Happening → World → Subgroup → Subgroup
touched e w x = desired_anew (after w e) (touched_keys e x.key.add_path w (after w e)) x

-- A subgroup desires what its key should have, its pending list is exact, and each forced key stands in a table.
pub record IsKeptIn (w : World) (x : Subgroup) : Type 0 where
  pub exact : IsExact key_order same_out x.out
  pub shown : AreForcedShown key_order x.out
  pub desires : x.out.desired ≡ wanted_rows x.key w
