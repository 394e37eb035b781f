-- A run may begin in the world of a workload.
use Rattle.std.proofs.Common.{◌≡◌, ℕ, ◌≤◌, true, List, [], map, Option, Some, None, refl}
use Rattle.std.specs.List.{list_all}
use Rattle.std.specs.Fmt.{digits}
use Rattle.ug_outbound.specs.Bounds.{SetsFew}
use Rattle.ug_world.specs.declared.peer_state.PeerState.{PeerState}
use Rattle.ug_world.specs.Parts.{fresh}
use Rattle.ug_world.specs.Good.{is_peer_in_range}
use Rattle.ug_speaker.specs.Owes.{IsOpening}
use Rattle.ug_selfrun.specs.Configuration.{peer_name, workload_peer, peers_from, workload_parts, workload_world}
use Rattle.ug_selfrun.proofs.Counted.{at_each}
use Rattle.ug_selfrun.proofs.Good.{workload_good}

no_sets : (map : Option (List ℕ)) → SetsFew [] map
no_sets None = tt
no_sets (Some name) = tt

in_range : (n : ℕ) → n ≤ 16 → list_all (λ (s : PeerState). is_peer_in_range s.peer) (map fresh (peers_from 1 n)) ≡ true
unfolding digits peer_name workload_peer
in_range n h = at_each (λ (k : ℕ). list_all (λ (s : PeerState). is_peer_in_range s.peer) (map fresh (peers_from 1 k))) 16 n refl h

pub workload_opens : (n : ℕ) → n ≤ 16 → IsOpening (workload_world n)
unfolding workload_world
workload_opens n h = record {
  parts = workload_parts n;
  good = workload_good n h;
  first = refl;
  few_sets = no_sets;
  in_range = record { asn = refl; cluster = refl; maps = refl; peers = in_range n h };
}
