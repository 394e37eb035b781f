-- A world can be made of the workload's configuration.
use Rattle.std.proofs.Common.{◌≡◌, ℕ, ◌≤◌, Bool, true, List, [], ◌∷◌, refl, ◌∙◌, ap}
use Rattle.std.specs.Fmt.{digits}
use Rattle.ug_policy.specs.Named.{NamedList}
use Rattle.ug_policy.specs.NamedMaps.{NamedMap}
use Rattle.ug_outbound.specs.Policies.{NamedPolicy}
use Rattle.ug_outbound.specs.declared.settings.Local.{Local}
use Rattle.ug_outbound.specs.declared.peer.Peer.{Peer}
use Rattle.ug_world.specs.declared.parts.WorldParts.{WorldParts}
use Rattle.ug_world.specs.Parts.{is_good, IsGood}
use Rattle.ug_selfrun.specs.Configuration.{peer_name, workload_peer, workload_local, workload_parts, list_gl, policy_gp, peers_from}
use Rattle.ug_selfrun.proofs.Counted.{at_each}

pub workload_good : (n : ℕ) → n ≤ 16 → is_good (workload_parts n) ≡ true
unfolding digits peer_name workload_peer
workload_good n h = at_each (λ (k : ℕ). is_good (workload_parts k)) 16 n refl h

abbrev good_of : Local → List NamedList → List NamedMap → List NamedPolicy → List Peer → Bool
good_of local lists maps policies peers = is_good (record {
  local = local;
  lists = record { items = lists; spare = 0 };
  maps = record { items = maps; spare = 0 };
  policies = record { items = policies; spare = 0 };
  peers = record { items = peers; spare = 0 };
})

pub good_parts : (n : ℕ) → n ≤ 16 → (p : WorldParts) → p.local ≡ workload_local → p.lists.items ≡ list_gl ∷ [] → p.maps.items ≡ [] → p.policies.items ≡ policy_gp ∷ [] → p.peers.items ≡ peers_from 1 n → IsGood p
good_parts n h p l ls ms pols ps =
    ap (λ (x : Local). good_of x p.lists.items p.maps.items p.policies.items p.peers.items) l
    ∙ ap (λ (x : List NamedList). good_of workload_local x p.maps.items p.policies.items p.peers.items) ls
    ∙ ap (λ (x : List NamedMap). good_of workload_local (list_gl ∷ []) x p.policies.items p.peers.items) ms
    ∙ ap (λ (x : List NamedPolicy). good_of workload_local (list_gl ∷ []) [] x p.peers.items) pols
    ∙ ap (λ (x : List Peer). good_of workload_local (list_gl ∷ []) [] (policy_gp ∷ []) x) ps
    ∙ workload_good n h
