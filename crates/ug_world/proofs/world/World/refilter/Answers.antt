use Rattle.std.proofs.Common.{arith}
use Rattle.ug_world.specs.declared.peer_state.PeerState.{PeerState}
use Rattle.ug_world.specs.After.{refiltered}
use Rattle.ug_world.proofs.Staying.{world_with_peer}
use Rattle.ug_world.proofs.world.World.refilter.Goals as goal

pub invariant_of-self-2 : goal.invariant_of-self-2
invariant_of-self-2 c =
    world_with_peer c.self.inside.none c.self.inside.version c.self.inside.peers c.self.inside.policies.lists c.self.invariant c.args.name.now (refiltered) c.refilter.new.self c.in_ok-refilter.ensures.ok (λ (s : PeerState). omega arith)
