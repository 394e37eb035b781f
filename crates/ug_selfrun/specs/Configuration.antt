-- The configuration of the drawn workload: a speaker of AS 65001, whose peers are external and internal by turns.
use Rattle.std.specs.Prelude.{ℕ, zero, suc, ◌+◌, ◌*◌, ◌%◌, ◌^◌, ◌==◌, true, false, List, [], ◌∷◌, ◌++◌, Some, None, codes, if◌then◌else◌}
use Rattle.std.specs.Fmt.{decimal}
use Rattle.ug_types.specs.Ip.{IpPrefix, IpAddress, ipv4}
use Rattle.ug_types.specs.declared.family.Family.TheVariants.{V4}
use Rattle.ug_types.specs.declared.named.Named.{Named}
use Rattle.ug_policy.specs.declared.list_entry.ListEntry.{ListEntry}
use Rattle.ug_outbound.specs.declared.settings.Local.{Local}
use Rattle.ug_outbound.specs.declared.peer.Peer.{Peer}
use Rattle.ug_outbound.specs.declared.policy.Policy.{Policy}
use Rattle.ug_world.specs.declared.parts.WorldParts.{WorldParts}
use Rattle.ug_world.specs.World.{World}
use Rattle.ug_world.specs.Parts.{first_world}

-- the IPv4 prefix of 24 bits of that number
abbrev pub slash24 : ℕ → IpPrefix
slash24 number = record { family = V4; bits = number * 2 ^ 104; len = 24 }

-- router id and cluster id 10.255.0.1
abbrev pub workload_local : Local
workload_local = record {
  asn = 65001;
  router_id = ipv4 0x0AFF0001;
  cluster_id = ipv4 0x0AFF0001;
  queue_limit = 20;
  coalesce = 4;
  slow_after = 8;
}

-- the name of peer i, `g` and the number
unfoldable pub peer_name : ℕ → List ℕ
peer_name i = codes "g" ++ decimal i

-- 10.200.i.n
abbrev pub on_link : ℕ → ℕ → IpAddress
on_link i n = ipv4 (0x0AC80000 + i * 256 + n)

-- Peer i: of AS 65100 + i where i is odd and internal where it is even, 10.200.i.2 behind 10.200.i.1 in 10.200.i.0/24, with
-- no policy, ADD-PATH where i is a multiple of 3, and every other option off.
unfoldable pub workload_peer : ℕ → Peer
workload_peer i = record {
  name = peer_name i;
  asn = if i % 2 == 0 then 65001 else 65100 + i;
  router_id = on_link i 2;
  family = V4;
  address = on_link i 2;
  local_address = on_link i 1;
  subnet = slash24 (0x0AC800 + i);
  policy = None;
  client = false;
  next_hop_self = false;
  as_override = false;
  remove_private_as = false;
  send_community = false;
  add_path = i % 3 == 0;
  extended = false;
  enhanced_refresh = false;
  orf = false;
}

-- so many peers, the first of which has this number
abbrev pub peers_from : ℕ → ℕ → List Peer
peers_from i zero = []
peers_from i (suc count) = workload_peer i ∷ peers_from (i + 1) count

-- `10:permit:10.0.0.0/8:le=..`
abbrev pub list_entry : ℕ → ListEntry
list_entry le = record { seq = 10; permit = true; prefix = record { family = V4; bits = 10 * 2 ^ 120; len = 8 }; ge = None; le = Some le }

-- the list `gl`, by which the policy `gp` filters
abbrev pub list_gl : Named (List ListEntry)
list_gl = record { name = codes "gl"; value = list_entry 24 ∷ [] }

abbrev pub policy_gp : Named Policy
policy_gp = record { name = codes "gp"; value = record { list = Some (codes "gl"); map = None } }

abbrev pub workload_parts : ℕ → WorldParts
workload_parts peers = record {
  local = workload_local;
  lists = record { items = list_gl ∷ []; spare = 0 };
  maps = record { items = []; spare = 0 };
  policies = record { items = policy_gp ∷ []; spare = 0 };
  peers = record { items = peers_from 1 peers; spare = 0 };
}

-- the world of so many peers before any event
unfoldable pub workload_world : ℕ → World
workload_world peers = first_world (workload_parts peers)
