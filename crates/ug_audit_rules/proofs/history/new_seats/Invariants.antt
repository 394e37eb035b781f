use Rattle.std.proofs.Common.{◌≡◌, ℕ, ◌≤◌, length, slice_get, Some}
use Rattle.ug_outbound.specs.Keys.{ends_of}
use Rattle.ug_world.specs.declared.peer_state.PeerState.{PeerState}
use Rattle.ug_audit_rules.specs.declared.seat.Seat.{Seat}
use Rattle.ug_audit_rules.specs.Seats.{IsNew}
use Rattle.ug_audit_rules.proofs.history.new_seats.Given as goal

-- the peers so far have their seats
abbrev pub invariant-loop-id : goal.invariant-loop-id
invariant-loop-id l = record {
  many : length l.seats.items ≡ l.id;
  inside : l.id ≤ length l.first.peers;
  each : (p : ℕ) (s : PeerState) (seat : Seat) → slice_get l.first.peers p ≡ Some s → slice_get l.seats.items p ≡ Some seat → IsNew (ends_of s.peer) seat;
}
