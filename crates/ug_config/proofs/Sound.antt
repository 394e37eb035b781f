-- What is known of tables that could be read.
use Rattle.std.proofs.Common.{◌≡◌, ℕ, Bool, true, false, ◌&&◌, List, ◌++◌, Option, Some, None, Ok, refl, ap, ◌∙◌, subst, inl, inr}
use Rattle.std.specs.Prelude.{nat_le, not, codes, unwrap_or, if◌then◌else◌}
use Rattle.std.specs.List.{list_all}
use Rattle.toml.specs.Data.{Data, as_table}
use Rattle.ug_types.specs.Ip.{IpAddress, IpPrefix, same_family, ipv4}
use Rattle.ug_types.specs.declared.family.Family.{Family}
use Rattle.ug_types.specs.declared.family.Family.TheVariants.{V4, V6}
use Rattle.ug_types.specs.declared.named.Named.{Named}
use Rattle.ug_types.specs.Bytes.{same_bytes}
use Rattle.ug_policy.specs.declared.list_entry.ListEntry.{ListEntry}
use Rattle.ug_policy.specs.Lists.{is_good}
use Rattle.ug_policy.specs.Rules.{MapRule}
use Rattle.ug_policy.specs.Refusals.{is_origin, sets_origin, is_ahead}
use Rattle.ug_outbound.specs.declared.settings.Local.{Local}
use Rattle.ug_outbound.specs.declared.peer.Peer.{Peer}
use Rattle.ug_world.specs.Parts.{is_local_good, is_ipv4, is_between, may_filter}
use Rattle.ug_config.specs.declared.kind.Kind.{Kind}
use Rattle.ug_config.specs.declared.kind.Kind.TheVariants as kinds
use Rattle.ug_config.specs.declared.kind.Need.TheVariants as needs
use Rattle.ug_config.specs.declared.given.Given.{Given}
use Rattle.ug_config.specs.declared.given.Given.TheVariants as givens
use Rattle.ug_config.specs.FieldRows.{FieldRow}
use Rattle.ug_config.specs.Reads.{Reads, ◌>>=◌, each_read, each_table, or_refused, refused, missing, malformed}
use Rattle.ug_config.specs.Kinds.{family_at, tables_at}
use Rattle.ug_config.specs.Tables.{Entry, entry, fields, unknown, where_known}
use Rattle.ug_config.specs.Looks.{value_at, as_number, as_octet, as_flag, as_address}
use Rattle.ug_config.specs.Rows.{local_rows, named_rows, list_entry_rows, map_entry_rows, peer_rows}
use Rattle.ug_config.specs.Readings.{local, local_of, list_entry, list_entry_of, where_good, last_bound, rule, rule_of, where_ahead, named, own_name, with_entries, address, peer, peer_of}
use Rattle.ug_config.proofs.Inverting.{ok, ok_is, some_is, bound, both, second_of, all_read}
use Rattle.ug_config.proofs.Fitting.{within, is_no_local, is_of, lies_in, may, fits, FitsRow, row_named, found}

-- the fields are those of the rows
rows_read : (f : Family) (way : List ℕ) (rows : List FieldRow) (d : Data) (es : List Entry) → fields f way rows d ≡ ok es → each_read (entry f way d) rows ≡ ok es
unfolding fields
rows_read f way rows d es h =
    let read = bound (each_read (entry f way d) rows) (λ entries. where_known way entries (unknown rows (as_table d))) es h in
    read.1 ∙ ap Ok (one read.0 (unknown rows (as_table d)) read.2)
  where
    one : (entries : List Entry) (o : Option (List ℕ)) → where_known way entries o ≡ ok es → entries ≡ es
    one entries None h = ok_is entries es h
    one entries (Some name) h = absurd cc

-- ---- fields of a row

required : (f : Family) (k : Kind) (name : List ℕ) (v : Given) → FitsRow f (record { name = name; kind = k; need = needs.Required }) v → fits f k v ≡ true
required f k name v (inl e) = e
required f k name v (inr e) = absurd cc

numbered : (f : Family) (least most n : ℕ) (name : List ℕ) (v : Given) → within least most (Some n) ≡ true → FitsRow f (record { name = name; kind = kinds.Number least most; need = needs.Number n }) v → within least most (as_number v) ≡ true
numbered f least most n name v good (inl e) = e
numbered f least most n name v good (inr e) = subst (λ (x : Given). within least most (as_number x) ≡ true) (some_is (givens.Number n) v e) good

from_within : (least most : ℕ) (o : Option ℕ) → within least most o ≡ true → is_between least most (unwrap_or o 0) ≡ true
from_within least most None e = absurd cc
from_within least most (Some n) e = e

from_least : (most : ℕ) (o : Option ℕ) → within 1 most o ≡ true → nat_le 1 (unwrap_or o 0) ≡ true
from_least most None e = absurd cc
from_least most (Some n) e = first (nat_le 1 n) (nat_le n most) e
  where
    first : (a b : Bool) → (a && b) ≡ true → a ≡ true
    first true b e = refl
    first false b e = e

from_of : (f : Family) (o : Option IpAddress) → is_of f o ≡ true → same_family (unwrap_or o (ipv4 0)).family f ≡ true
from_of f None e = absurd cc
from_of f (Some a) e = e

from_in : (f : Family) (none : IpPrefix) (o : Option IpPrefix) → lies_in f o ≡ true → same_family (unwrap_or o none).family f ≡ true
from_in f none None e = absurd cc
from_in f none (Some p) e = e

from_may : (f : Family) (o : Option Bool) → may f o ≡ true → may_filter f (unwrap_or o false) ≡ true
from_may f None e = absurd cc
from_may f (Some b) e = e

-- an address that is there, or else another one
optional_address : (name : List ℕ) (other : IpAddress) (v : Given) → is_ipv4 other ≡ true → FitsRow V4 (record { name = name; kind = kinds.Ipv4; need = needs.Optional }) v → is_ipv4 (unwrap_or (as_address v) other) ≡ true
optional_address name other v good (inl e) = one (as_address v) e
  where
    one : (o : Option IpAddress) → is_of V4 o ≡ true → is_ipv4 (unwrap_or o other) ≡ true
    one None e = absurd cc
    one (Some a) e = e
optional_address name other v good (inr e) = subst (λ (x : Given). is_ipv4 (unwrap_or (as_address x) other) ≡ true) (some_is givens.Absent v e) good

optional_origin : (name : List ℕ) (v : Given) → FitsRow V4 (record { name = name; kind = kinds.Origin; need = needs.Optional }) v → is_origin (as_octet v) ≡ true
optional_origin name v (inl e) = one (as_octet v) e
  where
    one : (o : Option ℕ) → within 0 2 o ≡ true → is_origin o ≡ true
    one None e = absurd cc
    one (Some n) e = second_of (nat_le 0 n) (nat_le n 2) e
optional_origin name v (inr e) = subst (λ (x : Given). is_origin (as_octet x) ≡ true) (some_is givens.Absent v e) refl

no_filter : (f : Family) → may f (Some false) ≡ true
no_filter V4 = refl
no_filter V6 = refl

filter_flag : (f : Family) (name : List ℕ) (v : Given) → FitsRow f (record { name = name; kind = kinds.Ipv4Flag; need = needs.False }) v → may f (as_flag v) ≡ true
filter_flag f name v (inl e) = e
filter_flag f name v (inr e) = subst (λ (x : Given). may f (as_flag x) ≡ true) (some_is (givens.Flag false) v e) (no_filter f)

-- ---- the tables

pub local_good : (d : Data) (l : Local) → local d ≡ ok l → is_local_good l ≡ true
unfolding local local_rows
local_good d l h =
    let es = bound (fields V4 (codes "local.") local_rows d) (λ es. Ok (local_of es)) l h in
    let read = rows_read V4 (codes "local.") local_rows d es.0 es.1 in
    let at = λ (name : List ℕ) (r : FieldRow) (there : row_named name local_rows ≡ Some r). found V4 (codes "local.") d name local_rows es.0 r read there in
    let as_number_of = required V4 (kinds.Number 1 4294967295) (codes "as") _ (at (codes "as") _ refl) in
    let id = from_of V4 _ (required V4 kinds.Ipv4 (codes "router_id") _ (at (codes "router_id") _ refl)) in
    let cluster = optional_address (codes "cluster_id") (unwrap_or (as_address (value_at (codes "router_id") es.0)) (ipv4 0)) _ id (at (codes "cluster_id") _ refl) in
    let limit = numbered V4 20 100 40 (codes "queue_limit") _ refl (at (codes "queue_limit") _ refl) in
    let coalesce = numbered V4 1 4096 1 (codes "coalesce") _ refl (at (codes "coalesce") _ refl) in
    let slow = numbered V4 1 1000 16 (codes "slow_after") _ refl (at (codes "slow_after") _ refl) in
    subst (λ (x : Local). is_local_good x ≡ true) (ok_is (local_of es.0) l es.2)
    (both _ _ (from_least 4294967295 (as_number (value_at (codes "as") es.0)) as_number_of) (both _ _ id (both _ _ cluster (both _ _ (from_within 20 100 (as_number (value_at (codes "queue_limit") es.0)) limit) (both _ _ (from_within 1 4096 (as_number (value_at (codes "coalesce") es.0)) coalesce) (from_within 1 1000 (as_number (value_at (codes "slow_after") es.0)) slow))))))

pub rule_good : (way : List ℕ) (d : Data) (r : MapRule) → rule way d ≡ ok r → sets_origin r ≡ true
unfolding rule map_entry_rows
rule_good way d r h =
    let es = bound (fields V4 way map_entry_rows d) (λ es. where_ahead way (rule_of es)) r h in
    let read = rows_read V4 way map_entry_rows d es.0 es.1 in
    let origin = optional_origin (codes "set_origin") _ (found V4 way d (codes "set_origin") map_entry_rows es.0 _ read refl) in
    subst (λ (x : MapRule). sets_origin x ≡ true) (one (rule_of es.0) (is_ahead (rule_of es.0)) es.2) origin
  where
    one : (q : MapRule) (b : Bool) → (if b then ok q else refused malformed (way ++ codes "on_match")) ≡ ok r → q ≡ r
    one q true h = ok_is q r h
    one q false h = absurd cc

pub rule_ahead : (way : List ℕ) (d : Data) (r : MapRule) → rule way d ≡ ok r → is_ahead r ≡ true
unfolding rule
rule_ahead way d r h =
    let es = bound (fields V4 way map_entry_rows d) (λ es. where_ahead way (rule_of es)) r h in
    one (rule_of es.0) (is_ahead (rule_of es.0)) refl es.2
  where
    one : (q : MapRule) (b : Bool) → is_ahead q ≡ b → (if b then ok q else refused malformed (way ++ codes "on_match")) ≡ ok r → is_ahead r ≡ true
    one q true e h = subst (λ (x : MapRule). is_ahead x ≡ true) (ok_is q r h) e
    one q false e h = absurd cc

pub entry_good : (way : List ℕ) (d : Data) (e : ListEntry) → list_entry way d ≡ ok e → is_good e ≡ true
unfolding list_entry
entry_good way d e h =
    let es = bound (fields V4 way list_entry_rows d) (λ es. where_good way (list_entry_of es)) e h in
    one (list_entry_of es.0) (is_good (list_entry_of es.0)) refl es.2
  where
    one : (q : ListEntry) (b : Bool) → is_good q ≡ b → (if b then ok q else refused malformed (way ++ last_bound q.le)) ≡ ok e → is_good e ≡ true
    one q true same h = subst (λ (x : ListEntry). is_good x ≡ true) (ok_is q e h) same
    one q false same h = absurd cc

-- what the world asks of a peer, but that its policy is there
abbrev pub is_peer_right : Peer → Bool
is_peer_right p =
    not (same_bytes p.name (codes "local")) && (nat_le 1 p.asn && (is_ipv4 p.router_id && (same_family p.address.family p.family && (same_family p.local_address.family p.family
    && (same_family p.subnet.family p.family && may_filter p.family p.orf)))))

name_right : (o : Option (List ℕ)) (field name : List ℕ) → is_no_local o ≡ true → or_refused missing field o ≡ ok name → not (same_bytes name (codes "local")) ≡ true
name_right None field name e h = absurd cc
name_right (Some x) field name e h = subst (λ (n : List ℕ). not (same_bytes n (codes "local")) ≡ true) (ok_is x name h) e

-- the router id of a peer is an IPv4 address
is_v4 : (f : Family) → same_family f V4 ≡ true → f ≡ V4
is_v4 V4 e = refl
is_v4 V6 e = absurd cc

pub router_read : (f : Family) (way : List ℕ) (d : Data) (es : List Entry) → fields f way peer_rows d ≡ ok es → (address (codes "router_id") es).family ≡ V4
unfolding peer_rows
router_read f way d es h =
    is_v4 _ (from_of V4 _ (required f kinds.Ipv4 (codes "router_id") _ (found f way d (codes "router_id") peer_rows es _ (rows_read f way peer_rows d es h) refl)))

pub peer_good : (way : List ℕ) (d : Data) (p : Peer) → peer way d ≡ ok p → is_peer_right p ≡ true
unfolding peer peer_rows
peer_good way d p h =
    let f = family_at d in
    let es = bound (fields (family_at d) way peer_rows d) (λ es. own_name way es >>= λ name. Ok (peer_of (family_at d) es name)) p h in
    let name = bound (own_name way es.0) (λ name. Ok (peer_of (family_at d) es.0 name)) p es.2 in
    let read = rows_read (family_at d) way peer_rows d es.0 es.1 in
    let at = λ (n : List ℕ) (r : FieldRow) (there : row_named n peer_rows ≡ Some r). found (family_at d) way d n peer_rows es.0 r read there in
    let own = name_right _ _ name.0 (required (family_at d) kinds.PeerName (codes "name") _ (at (codes "name") _ refl)) name.1 in
    let as_number_of = from_least 4294967295 (as_number (value_at (codes "as") es.0)) (required (family_at d) (kinds.Number 1 4294967295) (codes "as") _ (at (codes "as") _ refl)) in
    let id = from_of V4 _ (required (family_at d) kinds.Ipv4 (codes "router_id") _ (at (codes "router_id") _ refl)) in
    let address = from_of (family_at d) _ (required (family_at d) kinds.Address (codes "address") _ (at (codes "address") _ refl)) in
    let local_address = from_of (family_at d) _ (required (family_at d) kinds.Address (codes "local_address") _ (at (codes "local_address") _ refl)) in
    let subnet = from_in (family_at d) (record { family = V4; bits = 0; len = 0 }) _ (required (family_at d) kinds.Subnet (codes "subnet") _ (at (codes "subnet") _ refl)) in
    let orf = from_may (family_at d) _ (filter_flag (family_at d) (codes "orf") _ (at (codes "orf") _ refl)) in
    subst (λ (x : Peer). is_peer_right x ≡ true) (ok_is (peer_of (family_at d) es.0 name.0) p name.2)
    (both _ _ own (both _ _ as_number_of (both _ _ id (both _ _ address (both _ _ local_address (both _ _ subnet orf))))))

-- what holds of each entry that could be read holds of all entries of a list or a map
pub entries_good : {E : Type 0} (entry : List ℕ → Data → Reads E) (p : E → Bool) → ((way : List ℕ) (d : Data) (e : E) → entry way d ≡ ok e → p e ≡ true)
    → (way : List ℕ) (d : Data) (x : Named (List E)) → named entry way d ≡ ok x → list_all p x.value ≡ true
unfolding named
entries_good entry p good way d x h =
    let es = bound (fields V4 way named_rows d) (λ es. own_name way es >>= λ name. with_entries entry way d name) x h in
    let name = bound (own_name way es.0) (λ name. with_entries entry way d name) x es.2 in
    let read = bound (each_table entry (way ++ codes "entry") 0 (tables_at (codes "entry") d)) (λ entries. Ok (record { name = name.0; value = entries })) x name.2 in
    subst (λ (y : Named (List _)). list_all p y.value ≡ true) (ok_is (record { name = name.0; value = read.0 }) x read.2)
    (all_read entry p good (way ++ codes "entry") 0 (tables_at (codes "entry") d) read.0 read.1)
