-- Group keys: what decides what goes out to a peer. Peers of equal keys are sent the same routes but for the next hop.
use Rattle.std.specs.Prelude.{ℕ, ◌==◌, List, Some, None, if◌then◌else◌}
use Rattle.ug_types.specs.declared.route.PeerEnds.{PeerEnds}
use Rattle.ug_policy.specs.declared.list_entry.ListEntry.{ListEntry}
use Rattle.ug_outbound.specs.declared.settings.Local.{Local}
use Rattle.ug_outbound.specs.declared.peer.Peer.{Peer}
use Rattle.ug_outbound.specs.declared.kind.Kind.{Kind}
use Rattle.ug_outbound.specs.declared.kind.Kind.TheVariants.{External, Internal, Client}
use Rattle.ug_outbound.specs.declared.policy.Policy.{Policy}
use Rattle.ug_outbound.specs.declared.key.GroupKey.{GroupKey}

-- an external peer, an internal one, or an internal one that is a client (RFC 4456 section 6)
abbrev pub kind_of : Local → Peer → Kind
kind_of local peer = if peer.asn == local.asn then (if peer.client then Client else Internal) else External

-- the ends of the link to a peer
abbrev pub ends_of : Peer → PeerEnds
ends_of peer = record { address = peer.address; local = peer.local_address; subnet = peer.subnet }

-- the key of a peer with this policy and these entries of its own filter
abbrev pub group_key_of : Local → Peer → Policy → List ListEntry → GroupKey
group_key_of local peer policy filter = record {
  kind = kind_of local peer;
  family = peer.family;
  list = policy.list;
  map = policy.map;
  next_hop_self = peer.next_hop_self;
  as_override = if peer.as_override then Some peer.asn else None;
  remove_private_as = peer.remove_private_as;
  send_community = peer.send_community;
  add_path = peer.add_path;
  extended = peer.extended;
  enhanced_refresh = peer.enhanced_refresh;
  filter = filter;
}

-- how many bytes a message may have (RFC 4271 section 4.1, RFC 8654 section 4)
abbrev pub limit_of : GroupKey → ℕ
limit_of key = if key.extended then 65535 else 4096
