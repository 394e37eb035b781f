-- What each table of a configuration says.
use Rattle.std.specs.Prelude.{ℕ, Bool, false, List, [], ◌++◌, Option, Some, None, Ok, codes, unwrap_or, if◌then◌else◌}
use Rattle.toml.specs.Data.{Data, get}
use Rattle.ug_types.specs.Ip.{IpAddress, IpPrefix, ipv4}
use Rattle.ug_types.specs.declared.family.Family.{Family}
use Rattle.ug_types.specs.declared.family.Family.TheVariants.{V4}
use Rattle.ug_types.specs.declared.named.Named.{Named}
use Rattle.ug_policy.specs.declared.list_entry.ListEntry.{ListEntry}
use Rattle.ug_policy.specs.Lists.{is_good}
use Rattle.ug_policy.specs.declared.map_entry.OnMatch.TheVariants as on_matches
use Rattle.ug_policy.specs.Rules.{MapRule}
use Rattle.ug_policy.specs.Refusals.{is_ahead}
use Rattle.ug_outbound.specs.declared.settings.Local.{Local}
use Rattle.ug_outbound.specs.declared.policy.Policy.{Policy}
use Rattle.ug_outbound.specs.declared.peer.Peer.{Peer}
use Rattle.ug_outbound.specs.Policies.{NamedPolicy}
use Rattle.ug_config.specs.Reads.{Reads, ◌>>=◌, refused, or_refused, each_table, missing, malformed}
use Rattle.ug_config.specs.Kinds.{tables_at, family_at}
use Rattle.ug_config.specs.Tables.{Entry, fields}
use Rattle.ug_config.specs.Looks.{number_at, octet_at, flag_at, name_at, address_at, prefix_at, on_match_at, numbers_at}
use Rattle.ug_config.specs.Rows.{document_rows, local_rows, named_rows, list_entry_rows, map_entry_rows, policy_rows, peer_rows}

-- Fields that are required, or that have a default, are always there.
abbrev pub number : List ℕ → List Entry → ℕ
number name es = unwrap_or (number_at name es) 0

abbrev pub flag : List ℕ → List Entry → Bool
flag name es = unwrap_or (flag_at name es) false

abbrev pub address : List ℕ → List Entry → IpAddress
address name es = unwrap_or (address_at name es) (ipv4 0)

abbrev pub prefix : List ℕ → List Entry → IpPrefix
prefix name es = unwrap_or (prefix_at name es) (record { family = V4; bits = 0; len = 0 })

abbrev pub own_name : List ℕ → List Entry → Reads (List ℕ)
own_name way es = or_refused missing (way ++ codes "name") (name_at (codes "name") es)

-- ---- the speaker's own settings; its cluster is that of its router id where none is given

abbrev pub local_of : List Entry → Local
local_of es = record {
  asn = number (codes "as") es;
  router_id = address (codes "router_id") es;
  cluster_id = unwrap_or (address_at (codes "cluster_id") es) (address (codes "router_id") es);
  queue_limit = number (codes "queue_limit") es;
  coalesce = number (codes "coalesce") es;
  slow_after = number (codes "slow_after") es;
}

unfoldable pub local : Data → Reads Local
local d = do
  es ← fields V4 (codes "local.") local_rows d
  Ok (local_of es)

-- ---- prefix lists

abbrev pub list_entry_of : List Entry → ListEntry
list_entry_of es = record {
  seq = number (codes "seq") es;
  permit = flag (codes "action") es;
  prefix = prefix (codes "prefix") es;
  ge = octet_at (codes "ge") es;
  le = octet_at (codes "le") es;
}

-- the bound that is named where an entry is not good
abbrev pub last_bound : Option ℕ → List ℕ
last_bound None = codes "ge"
last_bound (Some le) = codes "le"

abbrev pub where_good : List ℕ → ListEntry → Reads ListEntry
where_good way e = if is_good e then Ok e else refused malformed (way ++ last_bound e.le)

unfoldable pub list_entry : List ℕ → Data → Reads ListEntry
list_entry way d = do
  es ← fields V4 way list_entry_rows d
  where_good way (list_entry_of es)

-- ---- route maps

abbrev pub rule_of : List Entry → MapRule
rule_of es = record {
  seq = number (codes "seq") es;
  permit = flag (codes "action") es;
  on_match = unwrap_or (on_match_at (codes "on_match") es) on_matches.End;
  match_prefix_list = name_at (codes "match_prefix_list") es;
  match_community = number_at (codes "match_community") es;
  match_origin = octet_at (codes "match_origin") es;
  match_med = number_at (codes "match_med") es;
  match_local_pref = number_at (codes "match_local_pref") es;
  set_origin = octet_at (codes "set_origin") es;
  set_next_hop = address_at (codes "set_next_hop") es;
  set_med = number_at (codes "set_med") es;
  set_local_pref = number_at (codes "set_local_pref") es;
  set_prepend = numbers_at (codes "set_prepend") es;
  set_communities = numbers_at (codes "set_communities") es;
  add_communities = numbers_at (codes "add_communities") es;
}

abbrev pub where_ahead : List ℕ → MapRule → Reads MapRule
where_ahead way r = if is_ahead r then Ok r else refused malformed (way ++ codes "on_match")

unfoldable pub rule : List ℕ → Data → Reads MapRule
rule way d = do
  es ← fields V4 way map_entry_rows d
  where_ahead way (rule_of es)

-- ---- a list or a map: its name, and its entries right after its own fields

abbrev pub with_entries : {E : Type 0} → (List ℕ → Data → Reads E) → List ℕ → Data → List ℕ → Reads (Named (List E))
with_entries entry way d name = do
  entries ← each_table entry (way ++ codes "entry") 0 (tables_at (codes "entry") d)
  Ok (record { name = name; value = entries })

unfoldable pub named : {E : Type 0} → (List ℕ → Data → Reads E) → List ℕ → Data → Reads (Named (List E))
named entry way d = do
  es ← fields V4 way named_rows d
  name ← own_name way es
  with_entries entry way d name

-- ---- policies

abbrev pub policy_of : List Entry → Policy
policy_of es = record { list = name_at (codes "prefix_list") es; map = name_at (codes "route_map") es }

unfoldable pub policy : List ℕ → Data → Reads NamedPolicy
policy way d = do
  es ← fields V4 way policy_rows d
  name ← own_name way es
  Ok (record { name = name; value = policy_of es })

-- ---- peers

abbrev pub peer_of : Family → List Entry → List ℕ → Peer
peer_of family es name = record {
  name = name;
  asn = number (codes "as") es;
  router_id = address (codes "router_id") es;
  family = family;
  address = address (codes "address") es;
  local_address = address (codes "local_address") es;
  subnet = prefix (codes "subnet") es;
  policy = name_at (codes "policy") es;
  client = flag (codes "client") es;
  next_hop_self = flag (codes "next_hop_self") es;
  as_override = flag (codes "as_override") es;
  remove_private_as = flag (codes "remove_private_as") es;
  send_community = flag (codes "send_community") es;
  add_path = flag (codes "add_path") es;
  extended = flag (codes "extended") es;
  enhanced_refresh = flag (codes "enhanced_refresh") es;
  orf = flag (codes "orf") es;
}

unfoldable pub peer : List ℕ → Data → Reads Peer
peer way d = do
  es ← fields (family_at d) way peer_rows d
  name ← own_name way es
  Ok (peer_of (family_at d) es name)

-- ---- the document

-- what the tables of a configuration say, in their order
pub record Tables : Type 0 where
  pub local : Local
  pub lists : List (Named (List ListEntry))
  pub maps : List (Named (List MapRule))
  pub policies : List NamedPolicy
  pub peers : List Peer

-- the table that is required
abbrev pub local_table : Data → Reads Data
local_table d = or_refused missing (codes "local") (get (codes "local") d)

unfoldable pub lists : Data → Reads (List (Named (List ListEntry)))
lists d = each_table (named list_entry) (codes "prefix_list") 0 (tables_at (codes "prefix_list") d)

unfoldable pub maps : Data → Reads (List (Named (List MapRule)))
maps d = each_table (named rule) (codes "route_map") 0 (tables_at (codes "route_map") d)

unfoldable pub policies : Data → Reads (List NamedPolicy)
policies d = each_table policy (codes "policy") 0 (tables_at (codes "policy") d)

unfoldable pub peers : Data → Reads (List Peer)
peers d = each_table peer (codes "peer") 0 (tables_at (codes "peer") d)

-- The document's own fields, and then the tables in their order.
unfoldable pub tables : Data → Reads Tables
tables d = do
  es ← fields V4 [] document_rows d
  own ← local_table d
  l ← local own
  ls ← lists d
  ms ← maps d
  pols ← policies d
  ps ← peers d
  Ok (record { local = l; lists = ls; maps = ms; policies = pols; peers = ps })
