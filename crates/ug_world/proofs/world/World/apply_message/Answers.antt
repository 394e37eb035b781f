use Rattle.std.proofs.Common.{arith}
use Rattle.ug_policy.specs.OrfViews.{orf_seen}
use Rattle.ug_world.specs.declared.peer_state.PeerState.{PeerState}
use Rattle.ug_world.specs.After.{with_orf}
use Rattle.ug_world.proofs.Staying.{world_with_peer}
use Rattle.ug_world.proofs.world.World.apply_message.Goals as goal

pub invariant_of-self-2 : goal.invariant_of-self-2
invariant_of-self-2 c =
    world_with_peer c.self.inside.none c.self.inside.version c.self.inside.peers c.self.inside.policies.lists c.self.invariant c.args.name.now (with_orf (orf_seen c.args.message.now)) c.apply_message.new.self c.in_ok-apply_message.ensures.ok (λ (s : PeerState). omega arith)
