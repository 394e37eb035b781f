-- The fixed configuration of the command `one`: a speaker of AS 65001 and one external peer.
use Rattle.std.specs.Prelude.{◌*◌, ◌^◌, false, [], ◌∷◌, None, codes}
use Rattle.ug_types.specs.Ip.{ipv4}
use Rattle.ug_types.specs.declared.family.Family.TheVariants.{V4}
use Rattle.ug_outbound.specs.declared.settings.Local.{Local}
use Rattle.ug_outbound.specs.declared.peer.Peer.{Peer}
use Rattle.ug_world.specs.declared.parts.WorldParts.{WorldParts}
use Rattle.ug_world.specs.World.{World}
use Rattle.ug_world.specs.Parts.{first_world}

-- 192.0.2.254, with the defaults of a configuration
abbrev pub one_local : Local
one_local = record {
  asn = 65001;
  router_id = ipv4 3221226238;
  cluster_id = ipv4 3221226238;
  queue_limit = 40;
  coalesce = 1;
  slow_after = 16;
}

-- p1, 192.0.2.2 of AS 65002, behind 192.0.2.1 in 192.0.2.0/24, with no policy and every option off
abbrev pub p1 : Peer
p1 = record {
  name = codes "p1";
  asn = 65002;
  router_id = ipv4 3221225986;
  family = V4;
  address = ipv4 3221225986;
  local_address = ipv4 3221225985;
  subnet = record { family = V4; bits = 3221225984 * 2 ^ 96; len = 24 };
  policy = None;
  client = false;
  next_hop_self = false;
  as_override = false;
  remove_private_as = false;
  send_community = false;
  add_path = false;
  extended = false;
  enhanced_refresh = false;
  orf = false;
}

-- neither lists, maps nor policies
abbrev pub one_parts : WorldParts
one_parts = record {
  local = one_local;
  lists = record { items = []; spare = 0 };
  maps = record { items = []; spare = 0 };
  policies = record { items = []; spare = 0 };
  peers = record { items = p1 ∷ []; spare = 0 };
}

abbrev pub one_world : World
one_world = first_world one_parts
