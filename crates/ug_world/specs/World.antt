-- The world of a speaker: its settings, its policies, its peers, and the routes that it has.
use Rattle.std.specs.Prelude.{ℕ, ◌==◌, List, [], ◌∷◌, Option, Some, None, unwrap_or, if◌then◌else◌}
use Rattle.std.specs.Map.{lookup}
use Rattle.ug_types.specs.Ip.{IpPrefix}
use Rattle.ug_types.specs.Keys.{same_prefix}
use Rattle.ug_types.specs.declared.route.Learned.{Learned}
use Rattle.ug_types.specs.declared.route.Learned.TheVariants as learned
use Rattle.ug_types.specs.declared.route.Path.{Path}
use Rattle.ug_types.specs.Bytes.{same_bytes}
use Rattle.ug_policy.specs.Named.{value_named}
use Rattle.ug_outbound.specs.Tables.{Tables}
use Rattle.ug_outbound.specs.Keys.{group_key_of}
use Rattle.ug_outbound.specs.declared.settings.Local.{Local}
use Rattle.ug_outbound.specs.declared.policy.Policy.{Policy}
use Rattle.ug_outbound.specs.declared.key.GroupKey.{GroupKey}
use Rattle.ug_outbound.specs.Policies.{NamedPolicy}
use Rattle.ug_world.specs.declared.peer_state.PeerState.{PeerState}

-- the routes that a speaker has, its Loc-RIB: each prefix with its paths, the best first, in the order of the prefixes
abbrev pub Routes : Type 0
Routes = List (IpPrefix × List Path)

-- `tables` has the prefix lists and the route maps by name, and `peers` stand in configured order. The version is the
-- number of events that were accepted.
pub record World : Type 0 where
  pub local : Local
  pub tables : Tables
  pub policies : List NamedPolicy
  pub peers : List PeerState
  pub routes : List (IpPrefix × List Path)
  pub version : ℕ

-- the paths of a prefix, or none
abbrev pub paths_to : Routes → IpPrefix → List Path
paths_to routes prefix = unwrap_or (lookup (same_prefix prefix) routes) []

-- the first peer of that name
abbrev pub peer_named : List PeerState → List ℕ → Option PeerState
peer_named [] name = None
peer_named (s ∷ peers) name = if same_bytes s.peer.name name then Some s else peer_named peers name

-- neither a prefix list nor a route map
abbrev pub no_policy : Policy
no_policy = record { list = None; map = None }

-- the policy of that name; without a name, and where it is not there, none
abbrev pub policy_named : List NamedPolicy → Option (List ℕ) → Policy
policy_named policies None = no_policy
policy_named policies (Some name) = unwrap_or (value_named policies name) no_policy

-- what decides what goes out to a peer
abbrev pub key_in : World → PeerState → GroupKey
key_in w s = group_key_of w.local s.peer (policy_named w.policies s.peer.policy) s.filter

-- where the paths of a peer are learned from
abbrev pub learned_from : Local → PeerState → Learned
learned_from local s = if s.peer.asn == local.asn then learned.Internal s.peer.client s.peer.router_id else learned.External
