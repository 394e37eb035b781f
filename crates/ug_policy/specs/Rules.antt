-- Entries of route maps as plain records.
use Rattle.std.specs.Prelude.{ℕ, Bool, List, Option}
use Rattle.std.specs.Option.{option_map}
use Rattle.ug_types.specs.Ip.{IpAddress}
use Rattle.ug_types.specs.Listed.{Listed}
use Rattle.ug_policy.specs.declared.map_entry.OnMatch.{OnMatch}
use Rattle.ug_policy.specs.declared.map_entry.MapEntry.{MapEntry}

-- an entry: its place, what it says where it is met, when it is met, and what it sets
pub record MapRule : Type 0 where
  pub seq : ℕ
  pub permit : Bool
  pub on_match : OnMatch
  pub match_prefix_list : Option (List ℕ)
  pub match_community : Option ℕ
  pub match_origin : Option ℕ
  pub match_med : Option ℕ
  pub match_local_pref : Option ℕ
  pub set_origin : Option ℕ
  pub set_next_hop : Option IpAddress
  pub set_med : Option ℕ
  pub set_local_pref : Option ℕ
  pub set_prepend : Option (List ℕ)
  pub set_communities : Option (List ℕ)
  pub add_communities : Option (List ℕ)

abbrev pub numbers_of : Option (Listed ℕ) → Option (List ℕ)
numbers_of given = option_map (λ (l : Listed ℕ). l.items) given

abbrev pub rule_of : MapEntry → MapRule
rule_of e = record {
  seq = e.seq;
  permit = e.permit;
  on_match = e.on_match;
  match_prefix_list = e.match_prefix_list;
  match_community = e.match_community;
  match_origin = e.match_origin;
  match_med = e.match_med;
  match_local_pref = e.match_local_pref;
  set_origin = e.set_origin;
  set_next_hop = e.set_next_hop;
  set_med = e.set_med;
  set_local_pref = e.set_local_pref;
  set_prepend = numbers_of e.set_prepend;
  set_communities = numbers_of e.set_communities;
  add_communities = numbers_of e.add_communities;
}

abbrev pub rule_seq : MapRule → ℕ
rule_seq r = r.seq
