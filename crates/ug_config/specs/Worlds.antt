-- The world that a configuration stands for.
use Rattle.std.specs.Prelude.{◌≡◌, ℕ, Bool, true, ◌&&◌, List, [], map, is_none, Ok}
use Rattle.std.specs.List.{list_all}
use Rattle.ug_types.specs.declared.named.Named.{Named}
use Rattle.ug_policy.specs.Order.{ascending}
use Rattle.ug_policy.specs.declared.list_entry.ListEntry.{ListEntry}
use Rattle.ug_policy.specs.Lists.{seq_of, list_refusal}
use Rattle.ug_policy.specs.Rules.{MapRule, rule_seq}
use Rattle.ug_policy.specs.Refusals.{sets_origin, map_refusal}
use Rattle.ug_world.specs.World.{World}
use Rattle.ug_world.specs.Parts.{is_local_good, are_few, names_of, peer_names, is_map_good, is_policy_good, is_peer_good, fresh}
use Rattle.ug_config.specs.Reads.{Reads, ◌>>=◌}
use Rattle.ug_config.specs.Readings.{Tables}
use Rattle.ug_config.specs.Checks.{setup}

abbrev pub in_order : {E : Type 0} → (E → ℕ) → Named (List E) → Named (List E)
in_order seq x = record { name = x.name; value = ascending seq x.value }

-- The entries of lists and maps stand in ascending order, nobody is up, and there are no routes.
abbrev pub world_of : Tables → World
world_of t = record {
  local = t.local;
  tables = record { lists = map (in_order seq_of) t.lists; maps = map (in_order rule_seq) t.maps };
  policies = t.policies;
  peers = map fresh t.peers;
  routes = [];
  version = 0;
}

-- what a text stands for, or the first refusal
unfoldable pub config : List ℕ → Reads World
config bytes = setup bytes >>= λ t. Ok (world_of t)

-- rules that set origins with a meaning
abbrev pub sets_origins : Named (List MapRule) → Bool
sets_origins m = list_all sets_origin m.value

-- entries that a prefix list takes
abbrev pub is_list : Named (List ListEntry) → Bool
is_list l = is_none (list_refusal l.value)

-- rules that a route map takes, where there are lists of these names
abbrev pub is_map : List (List ℕ) → Named (List MapRule) → Bool
is_map lists m = sets_origins m && is_none (map_refusal lists m.value)

-- What is known of tables against which nothing is: they make lists and maps, and a good world.
pub record IsSound (t : Tables) : Type 0 where
  pub settings : is_local_good t.local ≡ true
  pub lists : are_few (names_of t.lists) ≡ true
  pub maps : are_few (names_of t.maps) ≡ true
  pub policies : are_few (names_of t.policies) ≡ true
  pub peers : are_few (peer_names t.peers) ≡ true
  pub are_lists : list_all is_list t.lists ≡ true
  pub are_maps : list_all (is_map (names_of t.lists)) t.maps ≡ true
  pub in_maps : list_all (is_map_good (names_of t.lists)) t.maps ≡ true
  pub in_policies : list_all (is_policy_good (names_of t.lists) (names_of t.maps)) t.policies ≡ true
  pub in_peers : list_all (is_peer_good (names_of t.policies)) t.peers ≡ true
