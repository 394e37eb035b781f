use Rattle.std.proofs.Common.{arith}
use Rattle.ug_world.specs.declared.peer_state.PeerState.{PeerState}
use Rattle.ug_world.specs.After.{with_policy}
use Rattle.ug_world.proofs.Staying.{world_with_peer}
use Rattle.ug_world.proofs.world.World.set_policy.Goals as goal

pub invariant_of-self : goal.invariant_of-self
invariant_of-self c =
    world_with_peer c.self.inside.none c.self.inside.version c.self.inside.peers c.self.inside.policies.lists c.self.invariant c.args.name.now (with_policy c.in_ok-policy.policy) c.set_policy.new.self c.set_policy.ensures (λ (s : PeerState). omega arith)
