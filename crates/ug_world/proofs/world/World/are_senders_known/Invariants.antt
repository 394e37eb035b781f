use Rattle.std.proofs.Common.{◌≡◌, drop}
use Rattle.std.specs.List.{list_all}
use Rattle.ug_world.specs.Verdicts.{is_sender_known}
use Rattle.ug_world.proofs.world.World.are_senders_known.Given as goal

-- the paths that are left decide
abbrev pub invariant-loop-path : goal.invariant-loop-path
invariant-loop-path l = list_all (is_sender_known l.self.peers) (drop l.path-index l.given) ≡ list_all (is_sender_known l.self.peers) l.given
