-- Attributes that can be spelled, put together.
use Rattle.std.proofs.Common.{◌≡◌, true, ◌&&◌}
use Rattle.std.specs.List.{list_all}
use Rattle.ug_types.specs.declared.family.Family.{Family}
use Rattle.ug_types.specs.declared.family.Family.TheVariants.{V4, V6}
use Rattle.ug_types.specs.declared.attrs.Aggregator.{Aggregator}
use Rattle.ug_types.specs.Ip.{IpAddress, same_family}
use Rattle.ug_types.specs.Attributes.{Attributes, is_well_formed}
use Rattle.ug_message.specs.Spellable.{is_number, has_numbers, is_address, is_ipv4, is_aggregator, where_there, has_ipv4_addresses, can_be_spelled}
use Rattle.ug_message.proofs.Formed.{both, and}

ipv4_by : (family : Family) (a : IpAddress) → same_family family V4 ≡ true → is_address family a ≡ true → is_address V4 a ≡ true
ipv4_by V4 a e is = is
ipv4_by V6 a e is = absurd cc

-- an address of its own family, which is IPv4
pub as_ipv4 : (a : IpAddress) → is_ipv4 a ≡ true → is_address a.family a ≡ true → is_address V4 a ≡ true
as_ipv4 a e is = ipv4_by a.family a e is

pub spelled_by : (a : Attributes) → is_well_formed a ≡ true → list_all has_numbers a.path ≡ true → is_address a.next_hop.family a.next_hop ≡ true
    → where_there is_number a.med ≡ true → where_there is_number a.local_pref ≡ true
    → (where_there (λ (g : Aggregator). is_ipv4 g.addr) a.aggregator ≡ true → where_there is_aggregator a.aggregator ≡ true)
    → list_all is_number a.communities ≡ true → (where_there is_ipv4 a.originator ≡ true → where_there (is_address V4) a.originator ≡ true) → list_all is_number a.clusters ≡ true
    → has_ipv4_addresses a ≡ true → can_be_spelled a.next_hop.family a ≡ true
unfolding has_ipv4_addresses can_be_spelled
spelled_by a one two three four five six seven eight nine ipv4 =
    let p = both (where_there (λ (g : Aggregator). is_ipv4 g.addr) a.aggregator) (where_there is_ipv4 a.originator) ipv4 in
    let t2 = and (is_well_formed a) (list_all has_numbers a.path) one two in
    let t3 = and (is_well_formed a && list_all has_numbers a.path) (is_address a.next_hop.family a.next_hop) t2 three in
    let t4 = and (is_well_formed a && list_all has_numbers a.path && is_address a.next_hop.family a.next_hop) (where_there is_number a.med) t3 four in
    let b4 = is_well_formed a && list_all has_numbers a.path && is_address a.next_hop.family a.next_hop && where_there is_number a.med in
    let t5 = and b4 (where_there is_number a.local_pref) t4 five in
    let b5 = b4 && where_there is_number a.local_pref in
    let t6 = and b5 (where_there is_aggregator a.aggregator) t5 (six p.0) in
    let b6 = b5 && where_there is_aggregator a.aggregator in
    let t7 = and b6 (list_all is_number a.communities) t6 seven in
    let b7 = b6 && list_all is_number a.communities in
    let t8 = and b7 (where_there (is_address V4) a.originator) t7 (eight p.1) in
    and (b7 && where_there (is_address V4) a.originator) (list_all is_number a.clusters) t8 nine
