use Rattle.std.proofs.Common.{arith}
use Rattle.ug_selfrun.proofs.Growing.{peers_step}
use Rattle.ug_selfrun.proofs.configuration.peers_of.Goals as goal

pub loop-i-preserved : goal.loop-i-preserved
loop-i-preserved c =
    peers_step c.args.count c.loop-i.i c.loop-i.peers.items c.push.new.self.items c.in_ok-peer.field-0 _ (omega arith) c.in_ok-push.ensures.items c.in_ok-peer.ensures c.loop-i.invariant
