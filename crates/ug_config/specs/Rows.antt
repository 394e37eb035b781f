-- Which fields each table of a configuration has, in the order in which they are checked.
use Rattle.std.specs.Prelude.{List, [], ◌∷◌, codes}
use Rattle.ug_config.specs.declared.kind.Kind.TheVariants.{Number, Length, Flag, Ipv4Flag, Name, PeerName, Ipv4, Ipv4Prefix, Family, Address, Subnet, Action, OnMatch, Origin, Community, Numbers, Communities, Table, Tables}
use Rattle.ug_config.specs.declared.kind.Need.TheVariants.{Required, Optional, False}
use Rattle.ug_config.specs.declared.kind.Need.TheVariants as unless
use Rattle.ug_config.specs.FieldRows.{FieldRow}

-- the document itself
unfoldable pub document_rows : List FieldRow
document_rows =
    record { name = codes "local"; kind = Table; need = Required }
    ∷ record { name = codes "prefix_list"; kind = Tables; need = Optional }
    ∷ record { name = codes "route_map"; kind = Tables; need = Optional }
    ∷ record { name = codes "policy"; kind = Tables; need = Optional }
    ∷ record { name = codes "peer"; kind = Tables; need = Optional }
    ∷ []

-- the speaker's own settings
unfoldable pub local_rows : List FieldRow
local_rows =
    record { name = codes "as"; kind = Number 1 4294967295; need = Required }
    ∷ record { name = codes "router_id"; kind = Ipv4; need = Required }
    ∷ record { name = codes "cluster_id"; kind = Ipv4; need = Optional }
    ∷ record { name = codes "queue_limit"; kind = Number 20 100; need = unless.Number 40 }
    ∷ record { name = codes "coalesce"; kind = Number 1 4096; need = unless.Number 1 }
    ∷ record { name = codes "slow_after"; kind = Number 1 1000; need = unless.Number 16 }
    ∷ []

-- a prefix list, and a route map
unfoldable pub named_rows : List FieldRow
named_rows =
    record { name = codes "name"; kind = Name; need = Required }
    ∷ record { name = codes "entry"; kind = Tables; need = Optional }
    ∷ []

-- an entry of a prefix list
unfoldable pub list_entry_rows : List FieldRow
list_entry_rows =
    record { name = codes "seq"; kind = Number 1 4294967295; need = Required }
    ∷ record { name = codes "action"; kind = Action; need = Required }
    ∷ record { name = codes "prefix"; kind = Ipv4Prefix; need = Required }
    ∷ record { name = codes "ge"; kind = Length; need = Optional }
    ∷ record { name = codes "le"; kind = Length; need = Optional }
    ∷ []

-- an entry of a route map
unfoldable pub map_entry_rows : List FieldRow
map_entry_rows =
    record { name = codes "seq"; kind = Number 1 4294967295; need = Required }
    ∷ record { name = codes "action"; kind = Action; need = Required }
    ∷ record { name = codes "on_match"; kind = OnMatch; need = Optional }
    ∷ record { name = codes "match_prefix_list"; kind = Name; need = Optional }
    ∷ record { name = codes "match_community"; kind = Community; need = Optional }
    ∷ record { name = codes "match_origin"; kind = Origin; need = Optional }
    ∷ record { name = codes "match_med"; kind = Number 0 4294967295; need = Optional }
    ∷ record { name = codes "match_local_pref"; kind = Number 0 4294967295; need = Optional }
    ∷ record { name = codes "set_origin"; kind = Origin; need = Optional }
    ∷ record { name = codes "set_next_hop"; kind = Ipv4; need = Optional }
    ∷ record { name = codes "set_med"; kind = Number 0 4294967295; need = Optional }
    ∷ record { name = codes "set_local_pref"; kind = Number 0 4294967295; need = Optional }
    ∷ record { name = codes "set_prepend"; kind = Numbers; need = Optional }
    ∷ record { name = codes "set_communities"; kind = Communities; need = Optional }
    ∷ record { name = codes "add_communities"; kind = Communities; need = Optional }
    ∷ []

-- a policy
unfoldable pub policy_rows : List FieldRow
policy_rows =
    record { name = codes "name"; kind = Name; need = Required }
    ∷ record { name = codes "prefix_list"; kind = Name; need = Optional }
    ∷ record { name = codes "route_map"; kind = Name; need = Optional }
    ∷ []

-- a peer; an IPv6 one may not send a filter of its own
unfoldable pub peer_rows : List FieldRow
peer_rows =
    record { name = codes "name"; kind = PeerName; need = Required }
    ∷ record { name = codes "as"; kind = Number 1 4294967295; need = Required }
    ∷ record { name = codes "router_id"; kind = Ipv4; need = Required }
    ∷ record { name = codes "family"; kind = Family; need = unless.Ipv4 }
    ∷ record { name = codes "address"; kind = Address; need = Required }
    ∷ record { name = codes "local_address"; kind = Address; need = Required }
    ∷ record { name = codes "subnet"; kind = Subnet; need = Required }
    ∷ record { name = codes "policy"; kind = Name; need = Optional }
    ∷ record { name = codes "client"; kind = Flag; need = False }
    ∷ record { name = codes "next_hop_self"; kind = Flag; need = False }
    ∷ record { name = codes "as_override"; kind = Flag; need = False }
    ∷ record { name = codes "remove_private_as"; kind = Flag; need = False }
    ∷ record { name = codes "send_community"; kind = Flag; need = False }
    ∷ record { name = codes "add_path"; kind = Flag; need = False }
    ∷ record { name = codes "extended"; kind = Flag; need = False }
    ∷ record { name = codes "enhanced_refresh"; kind = Flag; need = False }
    ∷ record { name = codes "orf"; kind = Ipv4Flag; need = False }
    ∷ []
