-- The fields of a path: words such as `id=1`, in any order, each at most once.
use Rattle.std.specs.Prelude.{ℕ, Bool, true, false, ◌&&◌, List, [], Option, Some, None, is_some, codes, unwrap_or, Ok, if◌then◌else◌}
use Rattle.ug_types.specs.declared.family.Family.{Family}
use Rattle.ug_types.specs.declared.attrs.Aggregator.{Aggregator}
use Rattle.ug_types.specs.Ip.{IpAddress}
use Rattle.ug_types.specs.Names.{is_name}
use Rattle.ug_types.specs.Attributes.{Attributes, PathSegment, refusal_of}
use Rattle.ug_types.specs.Bytes.{same_bytes}
use Rattle.ug_text.specs.declared.list_reader.Spelled.TheVariants.{Community, Address}
use Rattle.ug_text.specs.Cutting.{cut_at}
use Rattle.ug_text.specs.Numbers.{any_number, positive_number}
use Rattle.ug_text.specs.Addresses.{address_in, ipv4_address, aggregator}
use Rattle.ug_text.specs.Paths.{numbers_as, path, origin}
use Rattle.ug_message.specs.Spellable.{is_ipv4, where_there}
use Rattle.ug_events.specs.declared.field.Field.{Field}
use Rattle.ug_events.specs.declared.field.Field.TheVariants as fields
use Rattle.ug_events.specs.Events.{GivenPath}
use Rattle.ug_events.specs.Reads.{Reads, bad_words, bad_attribute, bad_name, refused, or_refused, ◌>>=◌}

-- the fields of a path that have been read
pub record Fields : Type 0 where
  pub id : Option ℕ
  pub from : Option (Option (List ℕ))
  pub next_hop : Option IpAddress
  pub origin : Option ℕ
  pub path : Option (List PathSegment)
  pub med : Option ℕ
  pub local_pref : Option ℕ
  pub atomic : Bool
  pub aggregator : Option Aggregator
  pub communities : Option (List ℕ)
  pub originator : Option IpAddress
  pub clusters : Option (List ℕ)

abbrev pub no_fields : Fields
no_fields = record {
  id = None;
  from = None;
  next_hop = None;
  origin = None;
  path = None;
  med = None;
  local_pref = None;
  atomic = false;
  aggregator = None;
  communities = None;
  originator = None;
  clusters = None;
}

-- ---- which field a word is

-- the fields that have a value, by what stands before the `=`
abbrev pub valued_field : List ℕ → Option Field
valued_field key =
    if same_bytes key (codes "id") then Some fields.Id
    else if same_bytes key (codes "from") then Some fields.From
    else if same_bytes key (codes "nh") then Some fields.NextHop
    else if same_bytes key (codes "origin") then Some fields.Origin
    else if same_bytes key (codes "as") then Some fields.AsPath
    else if same_bytes key (codes "med") then Some fields.Med
    else if same_bytes key (codes "lp") then Some fields.LocalPref
    else if same_bytes key (codes "agg") then Some fields.Aggregator
    else if same_bytes key (codes "comm") then Some fields.Communities
    else if same_bytes key (codes "originator") then Some fields.Originator
    else if same_bytes key (codes "clusters") then Some fields.Clusters
    else None

abbrev pub with_value : List ℕ → Option Field → Option (Field × List ℕ)
with_value value None = None
with_value value (Some field) = Some (field, value)

-- a key, `=` and a value
abbrev pub valued_word : Option (List ℕ × List ℕ) → Option (Field × List ℕ)
valued_word None = None
valued_word (Some parts) = with_value parts.1 (valued_field parts.0)

-- a field and its value; `atomic` has none
unfoldable pub field_of : List ℕ → Option (Field × List ℕ)
field_of word = if same_bytes word (codes "atomic") then Some (fields.Atomic, []) else valued_word (cut_at 61 word)

-- the field was there before
abbrev pub has : Field → Fields → Bool
has fields.Id f = is_some f.id
has fields.From f = is_some f.from
has fields.NextHop f = is_some f.next_hop
has fields.Origin f = is_some f.origin
has fields.AsPath f = is_some f.path
has fields.Med f = is_some f.med
has fields.LocalPref f = is_some f.local_pref
has fields.Atomic f = f.atomic
has fields.Aggregator f = is_some f.aggregator
has fields.Communities f = is_some f.communities
has fields.Originator f = is_some f.originator
has fields.Clusters f = is_some f.clusters

-- ---- its value

abbrev pub attribute : {A : Type 0} → Option A → Reads A
attribute value = or_refused bad_attribute value

-- a name
abbrev pub name_of : List ℕ → Reads (List ℕ)
name_of word = if is_name word then Ok word else refused bad_name

-- `local`, or the name of a peer
abbrev pub source_of : List ℕ → Reads (Option (List ℕ))
source_of value = if same_bytes value (codes "local") then Ok None else name_of value >>= λ name. Ok (Some name)

-- the fields with one more; the next hop has the family of the path's prefix, every other address is one of IPv4
abbrev pub with_field : Family → Field → List ℕ → Fields → Reads Fields
with_field family fields.Id value f = attribute (positive_number value) >>= λ n. Ok (record f { id = Some n })
with_field family fields.From value f = source_of value >>= λ from. Ok (record f { from = Some from })
with_field family fields.NextHop value f = attribute (address_in family value) >>= λ a. Ok (record f { next_hop = Some a })
with_field family fields.Origin value f = attribute (origin value) >>= λ n. Ok (record f { origin = Some n })
with_field family fields.AsPath value f = attribute (path value) >>= λ p. Ok (record f { path = Some p })
with_field family fields.Med value f = attribute (any_number value) >>= λ n. Ok (record f { med = Some n })
with_field family fields.LocalPref value f = attribute (any_number value) >>= λ n. Ok (record f { local_pref = Some n })
with_field family fields.Atomic value f = Ok (record f { atomic = true })
with_field family fields.Aggregator value f = attribute (aggregator value) >>= λ g. Ok (record f { aggregator = Some g })
with_field family fields.Communities value f = attribute (numbers_as Community value) >>= λ ns. Ok (record f { communities = Some ns })
with_field family fields.Originator value f = attribute (ipv4_address value) >>= λ a. Ok (record f { originator = Some a })
with_field family fields.Clusters value f = attribute (numbers_as Address value) >>= λ ns. Ok (record f { clusters = Some ns })

-- a field that is known and new
abbrev pub with_new : Family → Field → List ℕ → Fields → Reads Fields
with_new family field value f = if has field f then refused bad_words else with_field family field value f

-- The fields with that of a word: an unknown or repeated one is refused before its value is looked at.
unfoldable pub with_word : Family → List ℕ → Fields → Reads Fields
with_word family word f = or_refused bad_words (field_of word) >>= λ x. with_new family x.0 x.1 f

-- the aggregator and the originator, where they are there, are IPv4 addresses
abbrev pub are_ipv4 : Fields → Bool
are_ipv4 f = where_there (λ (g : Aggregator). is_ipv4 g.addr) f.aggregator && where_there is_ipv4 f.originator

-- ---- the path of all its fields

abbrev pub attributes_from : Fields → ℕ → List PathSegment → IpAddress → Attributes
attributes_from f origin path next_hop = record {
  origin = origin;
  path = path;
  next_hop = next_hop;
  med = f.med;
  local_pref = f.local_pref;
  atomic = f.atomic;
  aggregator = f.aggregator;
  communities = unwrap_or f.communities [];
  originator = f.originator;
  clusters = unwrap_or f.clusters [];
}

abbrev pub where_accepted : GivenPath → Option ℕ → Reads GivenPath
where_accepted given None = Ok given
where_accepted given (Some number) = refused bad_attribute

-- A path has at least its identifier, where it is from, its next hop, its origin and its AS path. Its attributes are
-- looked at as a whole behind that.
unfoldable pub path_of_fields : Fields → Reads GivenPath
path_of_fields f = do
  id ← or_refused bad_words f.id
  from ← or_refused bad_words f.from
  next_hop ← or_refused bad_words f.next_hop
  origin ← or_refused bad_words f.origin
  path ← or_refused bad_words f.path
  where_accepted (record { id = id; from = from; attrs = attributes_from f origin path next_hop }) (refusal_of (attributes_from f origin path next_hop))
