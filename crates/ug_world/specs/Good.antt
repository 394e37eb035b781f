-- Good worlds: what a message tells of their configuration and of their routes can be spelled, and is short. Numbers have
-- 32 bits, and addresses no bit past their family's width.
use Rattle.std.specs.Prelude.{◌≡◌, ℕ, nat_le, nat_lt, Bool, true, ◌&&◌, List, Option, is_none}
use Rattle.std.specs.List.{list_all}
use Rattle.ug_types.specs.declared.family.Family.{Family}
use Rattle.ug_types.specs.declared.family.Family.TheVariants.{V4}
use Rattle.ug_types.specs.declared.route.Learned.{Learned}
use Rattle.ug_types.specs.declared.route.Learned.TheVariants as learned
use Rattle.ug_types.specs.declared.route.Path.{Path}
use Rattle.ug_types.specs.Ip.{IpPrefix}
use Rattle.ug_types.specs.Attributes.{refusal_of}
use Rattle.ug_message.specs.Spellable.{is_number, is_prefix, is_address, where_there, can_be_spelled}
use Rattle.ug_policy.specs.Rules.{MapRule}
use Rattle.ug_policy.specs.NamedMaps.{NamedMap}
use Rattle.ug_outbound.specs.declared.peer.Peer.{Peer}
use Rattle.ug_outbound.specs.Outbound.{number_of_address}
use Rattle.ug_outbound.specs.Bounds.{SetsFew}
use Rattle.ug_world.specs.declared.peer_state.PeerState.{PeerState}
use Rattle.ug_world.specs.World.{World}

-- ---- the configuration

-- what an entry of a route map sets
abbrev pub is_rule_in_range : MapRule → Bool
is_rule_in_range r =
    where_there (λ (n : ℕ). nat_le n 2) r.set_origin
    && (where_there (is_address V4) r.set_next_hop
    && (where_there is_number r.set_med
    && (where_there is_number r.set_local_pref
    && (where_there (list_all is_number) r.set_prepend && (where_there (list_all is_number) r.set_communities && where_there (list_all is_number) r.add_communities)))))

abbrev pub is_map_in_range : NamedMap → Bool
is_map_in_range m = list_all is_rule_in_range m.value

-- a peer's router id, and the speaker's own address towards it
abbrev pub is_peer_in_range : Peer → Bool
is_peer_in_range p = is_address V4 p.router_id && is_address p.family p.local_address

pub record IsWorldInRange (w : World) : Type 0 where
  pub asn : is_number w.local.asn ≡ true
  pub cluster : is_number (number_of_address w.local.cluster_id) ≡ true
  pub maps : list_all is_map_in_range w.tables.maps ≡ true
  pub peers : list_all (λ (s : PeerState). is_peer_in_range s.peer) w.peers ≡ true

-- ---- the routes

-- the router id of an internal peer that a path is from
abbrev pub is_learned_in_range : Learned → Bool
is_learned_in_range learned.Local = true
is_learned_in_range learned.External = true
is_learned_in_range (learned.Internal client router) = is_address V4 router

-- A path to a prefix of that family has an identifier and attributes within the bounds of those from within, and a
-- message can tell it.
abbrev pub is_path_good : Family → Path → Bool
is_path_good family path =
    nat_lt 0 path.id && (is_number path.id && (is_none (refusal_of path.attrs) && (can_be_spelled family path.attrs && is_learned_in_range path.learned)))

abbrev pub is_route_good : IpPrefix × List Path → Bool
is_route_good r = is_prefix r.0.family r.0 && list_all (is_path_good r.0.family) r.1

-- ---- a world

-- Its configuration is in range, each of its route maps sets little, and its routes are good.
pub record IsGoodWorld (w : World) : Type 0 where
  pub in_range : IsWorldInRange w
  pub few_sets : (map : Option (List ℕ)) → SetsFew w.tables.maps map
  pub routes : list_all is_route_good w.routes ≡ true
