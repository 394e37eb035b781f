-- What the tables of a configuration say is in range.
use Rattle.std.proofs.Common.{◌≡◌, ℕ, ◌^◌, ◌/◌, ◌<◌, Bool, true, false, ◌&&◌, List, [], ◌++◌, Option, Some, None, Ok, refl, subst, arith, nat_lt}
use Rattle.std.specs.Prelude.{nat_le, ◌==◌, codes, unwrap_or, if◌then◌else◌}
use Rattle.std.specs.List.{list_all}
use Rattle.std.proofs.lemmas.Bool.Decides.{nat_tests}
use Rattle.toml.specs.Data.{Data}
use Rattle.ug_types.specs.Ip.{IpAddress, ipv4, same_family, cleared}
use Rattle.ug_types.specs.declared.family.Family.TheVariants.{V4}
use Rattle.ug_types.specs.declared.named.Named.{Named}
use Rattle.ug_policy.specs.Rules.{MapRule}
use Rattle.ug_policy.specs.Refusals.{is_ahead}
use Rattle.ug_outbound.specs.declared.settings.Local.{Local}
use Rattle.ug_outbound.specs.declared.peer.Peer.{Peer}
use Rattle.ug_outbound.specs.Outbound.{number_of_address}
use Rattle.ug_message.specs.Spellable.{is_number, is_address, where_there}
use Rattle.ug_world.specs.Good.{is_rule_in_range, is_map_in_range, is_peer_in_range}
use Rattle.ug_config.specs.FieldRows.{FieldRow}
use Rattle.ug_config.specs.Reads.{◌>>=◌, refused, malformed}
use Rattle.ug_config.specs.Kinds.{family_at, tables_at}
use Rattle.ug_config.specs.Tables.{document, fields}
use Rattle.ug_config.specs.Looks.{value_at, as_address}
use Rattle.ug_config.specs.Rows.{document_rows, local_rows, map_entry_rows, peer_rows}
use Rattle.ug_config.specs.Readings.{Tables, local_table, local, local_of, lists, maps, policies, peers, tables, named, rule, rule_of, where_ahead, peer, peer_of, own_name}
use Rattle.ug_config.specs.Checks.{checked, fault, where_none, setup}
use Rattle.ug_config.proofs.Inverting.{ok, ok_is, bound, both, second_of, all_read}
use Rattle.ug_config.proofs.Fitting.{row_named}
use Rattle.ug_config.proofs.Sound.{entries_good}
use Rattle.ug_commands.proofs.Found.{found, required_number, required_ipv4, required_address, address_or, optional_ipv4, optional_number, optional_origin, optional_numbers, optional_communities}
use Rattle.ug_config.specs.Reads.{Refusal}

-- ---- the speaker's own settings

high_number : (bits : ℕ) → nat_lt bits (2 ^ 128) ≡ true → is_number (bits / 2 ^ 96) ≡ true
high_number bits h =
    let lt : bits < 2 ^ 128 = grind (arith, nat_tests) in
    let small : bits / 2 ^ 96 < 2 ^ 32 = omega arith in
    grind (arith, nat_tests)

number_of_ipv4 : (a : IpAddress) → is_address V4 a ≡ true → is_number (number_of_address a) ≡ true
number_of_ipv4 a h = high_number a.bits (second_of (same_family a.family V4 && (cleared 32 a.bits == a.bits)) (nat_lt a.bits (2 ^ 128)) h)

abbrev pub is_local_in_range : Local → Bool
is_local_in_range l = is_number l.asn && is_number (number_of_address l.cluster_id)

local_in_range : (d : Data) (l : Local) → local d ≡ ok l → is_local_in_range l ≡ true
unfolding local local_rows
local_in_range d l h =
    let es = bound (fields V4 (codes "local.") local_rows d) (λ es. Ok (local_of es)) l h in
    let at = λ (name : List ℕ) (r : FieldRow) (there : row_named name local_rows ≡ Some r). found V4 (codes "local.") d name local_rows es.0 r es.1 there in
    let asn = required_number V4 (codes "as") _ (at (codes "as") _ refl) in
    let id = required_ipv4 V4 (codes "router_id") _ (at (codes "router_id") _ refl) in
    let cluster = address_or V4 (codes "cluster_id") (unwrap_or (as_address (value_at (codes "router_id") es.0)) (ipv4 0)) _ id (at (codes "cluster_id") _ refl) in
    subst (λ (x : Local). is_local_in_range x ≡ true) (ok_is (local_of es.0) l es.2) (both _ _ asn (number_of_ipv4 _ cluster))

-- ---- route maps

rule_in_range : (way : List ℕ) (d : Data) (r : MapRule) → rule way d ≡ ok r → is_rule_in_range r ≡ true
unfolding rule map_entry_rows
rule_in_range way d r h =
    let es = bound (fields V4 way map_entry_rows d) (λ es. where_ahead way (rule_of es)) r h in
    let at = λ (name : List ℕ) (q : FieldRow) (there : row_named name map_entry_rows ≡ Some q). found V4 way d name map_entry_rows es.0 q es.1 there in
    let origin = optional_origin V4 (codes "set_origin") _ (at (codes "set_origin") _ refl) in
    let hop = optional_ipv4 V4 (codes "set_next_hop") _ (at (codes "set_next_hop") _ refl) in
    let med = optional_number V4 (codes "set_med") _ (at (codes "set_med") _ refl) in
    let pref = optional_number V4 (codes "set_local_pref") _ (at (codes "set_local_pref") _ refl) in
    let prepend = optional_numbers V4 (codes "set_prepend") _ (at (codes "set_prepend") _ refl) in
    let communities = optional_communities V4 (codes "set_communities") _ (at (codes "set_communities") _ refl) in
    let added = optional_communities V4 (codes "add_communities") _ (at (codes "add_communities") _ refl) in
    subst (λ (x : MapRule). is_rule_in_range x ≡ true) (one (rule_of es.0) (is_ahead (rule_of es.0)) es.2)
    (both _ _ origin (both _ _ hop (both _ _ med (both _ _ pref (both _ _ prepend (both _ _ communities added))))))
  where
    one : (q : MapRule) (b : Bool) → (if b then ok q else refused malformed (way ++ codes "on_match")) ≡ ok r → q ≡ r
    one q true h = ok_is q r h
    one q false h = absurd cc

maps_in_range : (d : Data) (ms : List (Named (List MapRule))) → maps d ≡ ok ms → list_all is_map_in_range ms ≡ true
unfolding maps
maps_in_range d ms h = all_read (named rule) is_map_in_range (entries_good rule is_rule_in_range rule_in_range) (codes "route_map") 0 (tables_at (codes "route_map") d) ms h

-- ---- peers

peer_in_range : (way : List ℕ) (d : Data) (p : Peer) → peer way d ≡ ok p → is_peer_in_range p ≡ true
unfolding peer peer_rows
peer_in_range way d p h =
    let es = bound (fields (family_at d) way peer_rows d) (λ es. own_name way es >>= λ name. Ok (peer_of (family_at d) es name)) p h in
    let name = bound (own_name way es.0) (λ name. Ok (peer_of (family_at d) es.0 name)) p es.2 in
    let at = λ (n : List ℕ) (r : FieldRow) (there : row_named n peer_rows ≡ Some r). found (family_at d) way d n peer_rows es.0 r es.1 there in
    let id = required_ipv4 (family_at d) (codes "router_id") _ (at (codes "router_id") _ refl) in
    let local_address = required_address (family_at d) (codes "local_address") _ (at (codes "local_address") _ refl) in
    subst (λ (x : Peer). is_peer_in_range x ≡ true) (ok_is (peer_of (family_at d) es.0 name.0) p name.2) (both _ _ id local_address)

peers_in_range : (d : Data) (ps : List Peer) → peers d ≡ ok ps → list_all is_peer_in_range ps ≡ true
unfolding peers
peers_in_range d ps h = all_read peer is_peer_in_range peer_in_range (codes "peer") 0 (tables_at (codes "peer") d) ps h

-- ---- all tables

abbrev pub InRange : Tables → Type 0
InRange t = (is_local_in_range t.local ≡ true) × (list_all is_map_in_range t.maps ≡ true) × (list_all is_peer_in_range t.peers ≡ true)

tables_in_range : (d : Data) (t : Tables) → tables d ≡ ok t → InRange t
unfolding tables
tables_in_range d t h =
    let es = bound (fields V4 [] document_rows d) _ t h in
    let own = bound (local_table d) _ t es.2 in
    let l = bound (local own.0) _ t own.2 in
    let ls = bound (lists d) _ t l.2 in
    let ms = bound (maps d) _ t ls.2 in
    let pols = bound (policies d) _ t ms.2 in
    let ps = bound (peers d) (λ ps. Ok (record { local = l.0; lists = ls.0; maps = ms.0; policies = pols.0; peers = ps })) t pols.2 in
    subst InRange (ok_is (record { local = l.0; lists = ls.0; maps = ms.0; policies = pols.0; peers = ps.0 }) t ps.2) (local_in_range own.0 l.0 l.1, maps_in_range d ms.0 ms.1, peers_in_range d ps.0 ps.1)

passed : (s t : Tables) (o : Option Refusal) → where_none s o ≡ ok t → s ≡ t
passed s t None h = ok_is s t h
passed s t (Some r) h = absurd cc

-- what could be read is in range
pub in_range : (bytes : List ℕ) (t : Tables) → setup bytes ≡ Ok t → InRange t
unfolding setup
in_range bytes t h =
    let d = bound (document bytes) (λ d. tables d >>= λ s. checked s) t h in
    let s = bound (tables d.0) (λ s. checked s) t d.2 in
    subst InRange (passed s.0 t (fault s.0) s.2) (tables_in_range d.0 s.0 s.1)
