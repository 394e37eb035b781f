use Rattle.std.proofs.Common.{map}
use Rattle.std.specs.String.{string_bytes}
use Rattle.ug_selfrun.proofs.Going.{GoesOn}
use Rattle.ug_selfrun.proofs.summing.write_peers.Given as goal

abbrev pub invariant-loop-place : goal.invariant-loop-place
invariant-loop-place l = GoesOn l.world l.world.peers (map (λ wire. wire.sessions) l.wires) (string_bytes l.fn.out) l.place (string_bytes l.out)
