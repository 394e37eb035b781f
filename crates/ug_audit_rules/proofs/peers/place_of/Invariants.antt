use Rattle.std.proofs.Common.{◌≡◌, drop}
use Rattle.ug_audit_rules.specs.Reports.{peer_names_in, place_from}
use Rattle.ug_audit_rules.proofs.peers.place_of.Given as goal

-- the names that are left decide
abbrev pub invariant-loop-id : goal.invariant-loop-id
invariant-loop-id l = place_from l.id (drop l.id (peer_names_in l.world)) l.name ≡ place_from 0 (peer_names_in l.world) l.name
