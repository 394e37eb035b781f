use Rattle.std.proofs.Common.{◌≡◌, ◌<◌, ◌≤◌, ℕ, List, length, slice_get, Some}
use Rattle.ug_audit_rules.specs.Reports.{peer_names_in}
use Rattle.ug_audit_rules.proofs.peers.most_kept.Given as goal

abbrev pub invariant-loop-id : goal.invariant-loop-id
invariant-loop-id l = record {
  names : (p : ℕ) (name : List ℕ) → slice_get (peer_names_in l.world) p ≡ Some name → p < l.id → length name ≤ l.longest;
  small : l.longest ≤ 9223372036854775807;
}
