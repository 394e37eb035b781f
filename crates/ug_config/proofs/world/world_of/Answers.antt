use Rattle.std.proofs.Common.{refl, sym, subst}
use Rattle.ug_world.specs.declared.parts.WorldParts.{WorldParts}
use Rattle.ug_config.specs.Readings.{Tables}
use Rattle.ug_config.specs.Worlds.{IsSound}
use Rattle.ug_config.proofs.Making.{good_parts}
use Rattle.ug_config.proofs.world.world_of.Goals as goal

pub new-requires : goal.new-requires
new-requires c =
    let given = c.setup.inside in
    let t : Tables = record { local = given.local; lists = given.lists.items; maps = given.maps.items; policies = given.policies.items; peers = given.peers.items } in
    let p : WorldParts = record { local = given.local; lists = c.in_ok-lists.lists; maps = c.in_ok-maps.maps; policies = c.from_vec.result; peers = c.from_vec-2.result } in
    record { good = good_parts t (subst IsSound (sym c.setup.view_is) c.requires) p refl c.in_ok-lists.ensures c.in_ok-maps.ensures c.from_vec.ensures.items c.from_vec-2.ensures.items }
