use Rattle.std.proofs.Common.{◌≡◌, ap, arith}
use Rattle.ug_world.specs.World.{World}
use Rattle.ug_world.specs.declared.peer_state.PeerState.{PeerState}
use Rattle.ug_world.specs.After.{come_up}
use Rattle.ug_world.proofs.Staying.{world_with_peer, sessions_up_to, within}
use Rattle.ug_world.proofs.world.World.come_up.Goals as goal

pub invariant_of-self : goal.invariant_of-self
invariant_of-self c =
    world_with_peer c.self.inside.none c.self.inside.version c.self.inside.peers c.self.inside.policies.lists c.self.invariant c.args.name.now (come_up) c.come_up.new.self c.come_up.ensures (λ (s : PeerState). omega arith)

pub come_up-requires : goal.come_up-requires
come_up-requires c = record {
  sessions =
      let version : c.self.inside.version ≡ c.args.self.now.version = ap (λ (w : World). w.version) c.self.view_is in
      sessions_up_to c.self.inside.version 4294967294 c.self.inside.peers (omega (arith, c.requires, version))
      (within c.self.inside.none c.self.inside.version c.self.inside.peers c.self.inside.policies.lists c.self.invariant);
}
