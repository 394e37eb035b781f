-- Each attribute that was written is read again: what holds of every row of the table, and then a lemma for each row.
use Rattle.std.proofs.Common.{◌≡◌, ℕ, ◌+◌, ◌*◌, ◌%◌, ◌^◌, ◌<◌, ◌≤◌, ◌==◌, Bool, true, false, ◌&&◌, not, nat_le, nat_lt, List, [], ◌∷◌, ◌++◌, length, Option, Some, None, Result, Ok, Err, refl, sym, ap, ◌∙◌, subst, arith, lit<}
use Rattle.std.specs.Prelude.{if◌then◌else◌, IfSome}
use Rattle.std.specs.List.{list_any, list_all}
use Rattle.std.proofs.lemmas.Bool.{le-ltb}
use Rattle.std.proofs.lemmas.Bool.Decides.{nat_tests}
use Rattle.byteorder.specs.Endian.{big_number}
use Rattle.byteorder.specs.Numbers.{big_number-reads_back}
use Rattle.ug_types.specs.declared.attrs.Aggregator.{Aggregator}
use Rattle.ug_types.specs.declared.family.Family.{Family}
use Rattle.ug_types.specs.declared.family.Family.TheVariants.{V4, V6}
use Rattle.ug_types.specs.Ip.{IpAddress}
use Rattle.ug_types.specs.Attributes.{PathSegment, Attributes, is_segment}
use Rattle.ug_message.specs.Walking.{◌>>=◌, walk}
use Rattle.ug_message.specs.Attribute.{Attribute, has}
use Rattle.ug_message.specs.Values.{number, numbers, four_bytes, sixteen_bytes, ipv6_unicast, where_present, where_some}
use Rattle.ug_message.specs.Kind.{Kind, Placed, Reach, ReadSoFar, nothing_read, was_there, are_flags, attribute_of, kind_among}
use Rattle.ug_message.specs.AttributeTable.{origin_kind, origin, segments, as_path_kind, as_path, next_hop_kind, next_hop, multi_exit_disc_kind, local_pref_kind, atomic_aggregate_kind, aggregator_kind, communities_kind, originator_id_kind, cluster_list_kind, reach_in, mp_reach_nlri_kind, mp_reach_nlri, unreach_in, mp_unreach_nlri_kind, mp_unreach_nlri, kinds, kind_of}
use Rattle.ug_message.specs.AttributesRead.{with_known, with_kind, with_attribute, attribute_step}
use Rattle.ug_message.specs.Lengths.{HasShortValues}
use Rattle.ug_message.proofs.Formed.{both, AreNumbers, IsAddressOf, IsAggregator, IsSpellable}
use Rattle.ug_message.proofs.Heads.{length_numbers}
use Rattle.ug_message.proofs.ValuesAgain.{numbers_again, number_again, address_again, aggregator_again, path_again}
use Rattle.ug_message.proofs.AttributesAgain.{AreWritten, Taken, taken}

-- ---- every row

-- what is written of a kind has flags of the kind, with a length of one byte and of two
abbrev has_written_flags : Kind → Bool
has_written_flags kind = not (has kind.flags 16) && has (kind.flags + 16) 16 && are_flags kind kind.flags && are_flags kind (kind.flags + 16)

all_written : (family : Family) → list_all has_written_flags (kinds family) ≡ true
unfolding kinds
all_written V4 = refl
all_written V6 = refl

row_by : (b : Bool) (test : Kind → Bool) (row kind : Kind) (found : Option Kind) → test row ≡ true → (found ≡ Some kind → test kind ≡ true)
    → (if b then Some row else found) ≡ Some kind → test kind ≡ true
row_by true test row kind found first others e = let same : row ≡ kind = cc in subst (λ (k : Kind). test k ≡ true) same first
row_by false test row kind found first others e = others e

-- what holds of all rows holds of the one that is found
row_is : (test : Kind → Bool) (rows : List Kind) (type : ℕ) (kind : Kind) → list_all test rows ≡ true → kind_among rows type ≡ Some kind → test kind ≡ true
row_is test [] type kind all e = absurd cc
row_is test (row ∷ rows) type kind all e =
    let parts = both (test row) (list_all test rows) all in
    row_by (row.type == type) test row kind (kind_among rows type) parts.0 (row_is test rows type kind parts.1) e

record HasWrittenFlags (kind : Kind) : Type 0 where
  are_written : AreWritten kind.flags
  plain : are_flags kind kind.flags ≡ true
  long : are_flags kind (kind.flags + 16) ≡ true

unset : (b : Bool) → not b ≡ true → b ≡ false
unset true e = absurd cc
unset false e = refl

written_flags : (family : Family) (type : ℕ) (kind : Kind) → kind_of family type ≡ Some kind → HasWrittenFlags kind
written_flags family type kind known =
    let a = both (not (has kind.flags 16) && has (kind.flags + 16) 16 && are_flags kind kind.flags) (are_flags kind (kind.flags + 16)) (row_is has_written_flags (kinds family) type kind (all_written family) known) in
    let b = both (not (has kind.flags 16) && has (kind.flags + 16) 16) (are_flags kind kind.flags) a.0 in
    let c = both (not (has kind.flags 16)) (has (kind.flags + 16) 16) b.0 in
    record { are_written = record { plain = unset (has kind.flags 16) c.0; extended = c.1 }; plain = b.1; long = a.1 }

abbrev unless_there : Bool → Result ReadSoFar ℕ → Result ReadSoFar ℕ
unless_there there next = if there then Err 2 else next

abbrev where_fitting : Bool → Bool → Result ReadSoFar ℕ → Result ReadSoFar ℕ
where_fitting flags len read = if not flags then Err 3 else if not len then Err 4 else read

with_again : (family : Family) (kind : Kind) (a : Attribute) (r next : ReadSoFar) → was_there a.type r ≡ false → kind_of family a.type ≡ Some kind → are_flags kind a.flags ≡ true → kind.is_length (length a.value) ≡ true
    → kind.read a.place a.value (record r { types = r.types ++ a.type ∷ [] }) ≡ Ok next → with_attribute family a r ≡ Ok next
unfolding with_attribute with_known
with_again family kind a r next new known flags len read =
    let now = record r { types = r.types ++ a.type ∷ [] } in
    ap (λ (b : Bool). unless_there b (with_kind (kind_of family a.type) a now)) new
    ∙ ap (λ (k : Option Kind). with_kind k a now) known
    ∙ ap (λ (b : Bool). where_fitting b (kind.is_length (length a.value)) (kind.read a.place a.value now)) flags
    ∙ ap (λ (b : Bool). where_fitting true b (kind.read a.place a.value now)) len ∙ read

-- ---- the types so far are lower ones

abbrev pub Below : ℕ → List ℕ → Type 0
Below n [] = Unit {0}
Below n (t ∷ types) = (t < n) × Below n types

other_type : (t n : ℕ) → t < n → (t == n) ≡ false
other_type t n lt = grind (arith, nat_tests)

below_new : (n : ℕ) (types : List ℕ) → Below n types → list_any (λ t. t == n) types ≡ false
below_new n [] h = refl
below_new n (t ∷ types) h = rw (other_type t n h.0, below_new n types h.1) refl

below_push : (n : ℕ) (types : List ℕ) → Below n types → Below (n + 1) (types ++ n ∷ [])
below_push n [] h = (omega arith, tt)
below_push n (t ∷ types) h = (omega (arith, h.0), below_push n types h.1)

pub below_next : (n : ℕ) (types : List ℕ) → Below n types → Below (n + 1) types
below_next n [] h = tt
below_next n (t ∷ types) h = (omega (arith, h.0), below_next n types h.1)

below_more : (n m : ℕ) (types : List ℕ) → n ≤ m → Below n types → Below m types
below_more n m [] le h = tt
below_more n m (t ∷ types) le h = (omega (arith, h.0), below_more n m types le h.1)

-- from some bytes on, up to the rest of them: the types read there are below n, and the last value stood at some place
pub record Went (family : Family) (n : ℕ) (r : ReadSoFar) (place : ℕ) (bytes rest : List ℕ) (next : ℕ → List ℕ → ReadSoFar) : Type 0 where
  pub at : ℕ
  pub value : ℕ
  pub types : List ℕ
  pub below : Below n types
  pub same : walk (attribute_step family) 0 place r bytes ≡ walk (attribute_step family) 0 at (next value types) rest

-- An attribute of a row is read, where its value can have that length and is read so.
taken_row : (family : Family) (kind : Kind) (value rest : List ℕ) (r : ReadSoFar) (next : ℕ → ReadSoFar) (place : ℕ) → kind_of family kind.type ≡ Some kind → length value < 2 ^ 16 → was_there kind.type r ≡ false
    → kind.is_length (length value) ≡ true → ((p : ℕ) → kind.read p value (record r { types = r.types ++ kind.type ∷ [] }) ≡ Ok (next p)) → Taken family (attribute_of kind value) rest r next place
taken_row family kind value rest r next place known small new len read =
    let flags = written_flags family kind.type kind known in
    taken family kind.flags kind.type value rest r next place flags.are_written small (record {
      short = λ p. with_again family kind (record { flags = kind.flags; type = kind.type; place = p; value = value }) r (next p) new known flags.plain len (read p);
      long = λ p. with_again family kind (record { flags = kind.flags + 16; type = kind.type; place = p; value = value }) r (next p) new known flags.long len (read p);
    })

present_at : (family : Family) (kind : Kind) (value rest : List ℕ) (r : ReadSoFar) (next : ℕ → List ℕ → ReadSoFar) (place : ℕ) → kind_of family kind.type ≡ Some kind → length value < 2 ^ 16 → Below kind.type r.types
    → kind.is_length (length value) ≡ true → ((p : ℕ) → kind.read p value (record r { types = r.types ++ kind.type ∷ [] }) ≡ Ok (next p (r.types ++ kind.type ∷ [])))
    → Went family (kind.type + 1) r place (attribute_of kind value ++ rest) rest next
present_at family kind value rest r next place known small below len read =
    let types = r.types ++ kind.type ∷ [] in
    let went = taken_row family kind value rest r (λ p. next p types) place known small (below_new kind.type r.types below) len read in
    record { at = place + length (attribute_of kind value); value = went.value; types = types; below = below_push kind.type r.types below; same = went.same }

-- where the place of the value doesn't matter
present : (family : Family) (kind : Kind) (value rest : List ℕ) (r : ReadSoFar) (next : List ℕ → ReadSoFar) (place : ℕ) → kind_of family kind.type ≡ Some kind → length value < 2 ^ 16 → Below kind.type r.types
    → kind.is_length (length value) ≡ true → ((p : ℕ) → kind.read p value (record r { types = r.types ++ kind.type ∷ [] }) ≡ Ok (next (r.types ++ kind.type ∷ [])))
    → Went family (kind.type + 1) r place (attribute_of kind value ++ rest) rest (λ p. next)
present family kind value rest r next place known small below len read = present_at family kind value rest r (λ p. next) place known small below len read

-- an attribute that isn't written
absent : (family : Family) (n : ℕ) (r : List ℕ → ReadSoFar) (types : List ℕ) (place : ℕ) (rest : List ℕ) → Below n types → Went family (n + 1) (r types) place rest rest (λ p. r)
absent family n r types place rest below = record { at = place; value = 0; types = types; below = below_next n types below; same = refl }

-- ---- each row, and what has been read behind it

abbrev pub behind_origin : Attributes → List ℕ → ReadSoFar
behind_origin a t = record nothing_read { types = t; origin = Some a.origin }

not_above : (n : ℕ) → nat_le n 2 ≡ true → nat_lt 2 n ≡ false
not_above n e = grind (arith, nat_tests)

abbrev chosen_origin : Bool → ℕ → Result ℕ ℕ
chosen_origin above n = if above then Err 5 else Ok n

origin_read : (p n : ℕ) (r : ReadSoFar) → nat_le n 2 ≡ true → origin_kind.read p (n ∷ []) r ≡ Ok (record r { origin = Some n })
origin_read p n r e = ap (λ (b : Bool). chosen_origin b n >>= λ m. Ok (record r { origin = Some m })) (not_above n e)

pub origin_again : (family : Family) (a : Attributes) (place : ℕ) (rest : List ℕ) → nat_le a.origin 2 ≡ true → Went family 2 nothing_read place (origin a ++ rest) rest (λ p. behind_origin a)
unfolding kinds
origin_again family a place rest e =
    present family origin_kind (a.origin ∷ []) rest nothing_read (behind_origin a) place refl (lit< tt) tt refl (λ p. origin_read p a.origin (record nothing_read { types = 1 ∷ [] }) e)

abbrev pub behind_as_path : Attributes → List ℕ → ReadSoFar
behind_as_path a t = record (behind_origin a t) { path = Some a.path }

pub as_path_again : (family : Family) (a : Attributes) (t : List ℕ) (place : ℕ) (rest : List ℕ) → IsSpellable family a → HasShortValues a → Below 2 t
    → Went family 3 (behind_origin a t) place (as_path a ++ rest) rest (λ p. behind_as_path a)
unfolding kinds
as_path_again family a t place rest s short below =
    let formed = both (list_all is_segment a.path) (nat_le a.origin 2) s.well_formed in
    present family as_path_kind (segments a.path) rest (behind_origin a t) (behind_as_path a) place refl (omega (arith, short.path)) below refl
    (λ place. ap (λ (x : Result (List PathSegment) ℕ). x >>= λ p. Ok (record (behind_origin a (t ++ 2 ∷ [])) { path = Some p })) (path_again a.path formed.0 s.path))

abbrev pub behind_next_hop : Attributes → Option IpAddress → List ℕ → ReadSoFar
behind_next_hop a h t = record (behind_as_path a t) { next_hop = h }

pub next_hop_again : (a : Attributes) (t : List ℕ) (place : ℕ) (rest : List ℕ) → IsSpellable V4 a → Below 3 t
    → Went V4 4 (behind_as_path a t) place (next_hop a ++ rest) rest (λ p. behind_next_hop a (Some a.next_hop))
unfolding kinds
next_hop_again a t place rest s below =
    present V4 next_hop_kind (four_bytes a.next_hop) rest (behind_as_path a t) (behind_next_hop a (Some a.next_hop)) place refl (lit< tt) below refl
    (λ place. ap (λ (x : IpAddress). Ok (record (behind_as_path a (t ++ 3 ∷ [])) { next_hop = Some x })) (address_again a.next_hop s.next_hop))

abbrev pub behind_med : Attributes → Option IpAddress → List ℕ → ReadSoFar
behind_med a h t = record (behind_next_hop a h t) { med = a.med }

pub med_again : (family : Family) (a : Attributes) (h : Option IpAddress) (med : Option ℕ) (t : List ℕ) (place : ℕ) (rest : List ℕ) → IfSome med (λ n. n < 2 ^ 32) → Below 4 t
    → Went family 5 (behind_next_hop a h t) place (where_present (λ n. attribute_of multi_exit_disc_kind (number n)) med ++ rest) rest (λ p t. record (behind_next_hop a h t) { med = med })
unfolding kinds
med_again family a h None t place rest s below = absent family 4 (behind_next_hop a h) t place rest below
med_again family a h (Some n) t place rest s below =
    present family multi_exit_disc_kind (number n) rest (behind_next_hop a h t) (λ t. record (behind_next_hop a h t) { med = Some n }) place refl (lit< tt) below refl
    (λ place. ap (λ (m : ℕ). Ok (record (behind_next_hop a h (t ++ 4 ∷ [])) { med = Some m })) (number_again n s))

abbrev pub behind_local_pref : Attributes → Option IpAddress → List ℕ → ReadSoFar
behind_local_pref a h t = record (behind_med a h t) { local_pref = a.local_pref }

pub local_pref_again : (family : Family) (a : Attributes) (h : Option IpAddress) (preference : Option ℕ) (t : List ℕ) (place : ℕ) (rest : List ℕ) → IfSome preference (λ n. n < 2 ^ 32) → Below 5 t
    → Went family 6 (behind_med a h t) place (where_present (λ n. attribute_of local_pref_kind (number n)) preference ++ rest) rest (λ p t. record (behind_med a h t) { local_pref = preference })
unfolding kinds
local_pref_again family a h None t place rest s below = absent family 5 (behind_med a h) t place rest below
local_pref_again family a h (Some n) t place rest s below =
    present family local_pref_kind (number n) rest (behind_med a h t) (λ t. record (behind_med a h t) { local_pref = Some n }) place refl (lit< tt) below refl
    (λ place. ap (λ (m : ℕ). Ok (record (behind_med a h (t ++ 5 ∷ [])) { local_pref = Some m })) (number_again n s))

abbrev pub behind_atomic : Attributes → Option IpAddress → List ℕ → ReadSoFar
behind_atomic a h t = record (behind_local_pref a h t) { atomic = a.atomic }

pub atomic_again : (family : Family) (a : Attributes) (h : Option IpAddress) (atomic : Bool) (t : List ℕ) (place : ℕ) (rest : List ℕ) → Below 6 t
    → Went family 7 (behind_local_pref a h t) place ((if atomic then attribute_of atomic_aggregate_kind [] else []) ++ rest) rest (λ p t. record (behind_local_pref a h t) { atomic = atomic })
unfolding kinds
atomic_again family a h false t place rest below = absent family 6 (behind_local_pref a h) t place rest below
atomic_again family a h true t place rest below =
    present family atomic_aggregate_kind [] rest (behind_local_pref a h t) (λ t. record (behind_local_pref a h t) { atomic = true }) place refl (lit< tt) below refl (λ place. refl)

abbrev pub behind_aggregator : Attributes → Option IpAddress → List ℕ → ReadSoFar
behind_aggregator a h t = record (behind_atomic a h t) { aggregator = a.aggregator }

pub aggregator_row_again : (family : Family) (a : Attributes) (h : Option IpAddress) (by : Option Aggregator) (t : List ℕ) (place : ℕ) (rest : List ℕ) → IfSome by IsAggregator → Below 7 t
    → Went family 8 (behind_atomic a h t) place (where_present (λ (g : Aggregator). attribute_of aggregator_kind (number g.asn ++ four_bytes g.addr)) by ++ rest) rest (λ p t. record (behind_atomic a h t) { aggregator = by })
unfolding kinds
aggregator_row_again family a h None t place rest s below = absent family 7 (behind_atomic a h) t place rest below
aggregator_row_again family a h (Some g) t place rest s below =
    present family aggregator_kind (number g.asn ++ four_bytes g.addr) rest (behind_atomic a h t) (λ t. record (behind_atomic a h t) { aggregator = Some g }) place refl (lit< tt) below refl
    (λ place. ap (λ (m : Aggregator). Ok (record (behind_atomic a h (t ++ 7 ∷ [])) { aggregator = Some m })) (aggregator_again g s))

multiple : (n k : ℕ) → n ≡ 4 * k → (n % 4 == 0) ≡ true
multiple n k e = grind (arith, nat_tests)

fours : (ns : List ℕ) → (length (numbers ns) % 4 == 0) ≡ true
fours ns = multiple (length (numbers ns)) (length ns) (length_numbers ns)

abbrev pub behind_communities : Attributes → Option IpAddress → List ℕ → ReadSoFar
behind_communities a h t = record (behind_aggregator a h t) { communities = a.communities }

pub communities_again : (family : Family) (a : Attributes) (h : Option IpAddress) (ns : List ℕ) (t : List ℕ) (place : ℕ) (rest : List ℕ) → AreNumbers ns → length (numbers ns) ≤ 65535 → Below 8 t
    → Went family 9 (behind_aggregator a h t) place (where_some (λ ns. attribute_of communities_kind (numbers ns)) ns ++ rest) rest (λ p t. record (behind_aggregator a h t) { communities = ns })
unfolding kinds
communities_again family a h [] t place rest s short below = absent family 8 (behind_aggregator a h) t place rest below
communities_again family a h (n ∷ ns) t place rest s short below =
    present family communities_kind (numbers (n ∷ ns)) rest (behind_aggregator a h t) (λ t. record (behind_aggregator a h t) { communities = n ∷ ns }) place refl (omega (arith, short)) below (fours (n ∷ ns))
    (λ place. ap (λ (m : List ℕ). Ok (record (behind_aggregator a h (t ++ 8 ∷ [])) { communities = m })) (numbers_again (n ∷ ns) s))

abbrev pub behind_originator : Attributes → Option IpAddress → List ℕ → ReadSoFar
behind_originator a h t = record (behind_communities a h t) { originator = a.originator }

pub originator_again : (family : Family) (a : Attributes) (h : Option IpAddress) (by : Option IpAddress) (t : List ℕ) (place : ℕ) (rest : List ℕ) → IfSome by (IsAddressOf V4) → Below 9 t
    → Went family 10 (behind_communities a h t) place (where_present (λ id. attribute_of originator_id_kind (four_bytes id)) by ++ rest) rest (λ p t. record (behind_communities a h t) { originator = by })
unfolding kinds
originator_again family a h None t place rest s below = absent family 9 (behind_communities a h) t place rest below
originator_again family a h (Some x) t place rest s below =
    present family originator_id_kind (four_bytes x) rest (behind_communities a h t) (λ t. record (behind_communities a h t) { originator = Some x }) place refl (lit< tt) below refl
    (λ place. ap (λ (m : IpAddress). Ok (record (behind_communities a h (t ++ 9 ∷ [])) { originator = Some m })) (address_again x s))

abbrev pub behind_clusters : Attributes → Option IpAddress → List ℕ → ReadSoFar
behind_clusters a h t = record (behind_originator a h t) { clusters = a.clusters }

pub clusters_again : (family : Family) (a : Attributes) (h : Option IpAddress) (ns : List ℕ) (t : List ℕ) (place : ℕ) (rest : List ℕ) → AreNumbers ns → length (numbers ns) ≤ 65535 → Below 10 t
    → Went family 11 (behind_originator a h t) place (where_some (λ ns. attribute_of cluster_list_kind (numbers ns)) ns ++ rest) rest (λ p t. record (behind_originator a h t) { clusters = ns })
unfolding kinds
clusters_again family a h [] t place rest s short below = absent family 10 (behind_originator a h) t place rest below
clusters_again family a h (n ∷ ns) t place rest s short below =
    present family cluster_list_kind (numbers (n ∷ ns)) rest (behind_originator a h t) (λ t. record (behind_originator a h t) { clusters = n ∷ ns }) place refl (omega (arith, short)) below (fours (n ∷ ns))
    (λ place. ap (λ (m : List ℕ). Ok (record (behind_originator a h (t ++ 10 ∷ [])) { clusters = m })) (numbers_again (n ∷ ns) s))

reach_read : (place : ℕ) (hop : IpAddress) (routes : List ℕ) → IsAddressOf V6 hop
    → reach_in place (ipv6_unicast ++ 16 ∷ (sixteen_bytes hop ++ 0 ∷ routes)) ≡ Ok (record { next_hop = hop; routes = record { place = place + 21; routes = routes } })
unfolding reach_in
reach_read place hop routes h =
    let bytes = ipv6_unicast ++ 16 ∷ (sixteen_bytes hop ++ 0 ∷ routes) in
    let long : nat_lt (length bytes) 21 ≡ false = le-ltb _ _ (omega arith) in
    let made : ℕ → Family → Result Reach ℕ = λ bits family. Ok (record { next_hop = record { family = family; bits = bits }; routes = record { place = place + 21; routes = routes } }) in
    ap (λ (b : Bool). if b then Err 9 else made (big_number 16 (sixteen_bytes hop ++ 0 ∷ routes)) V6) long
    ∙ ap (λ (bits : ℕ). made bits V6) (big_number-reads_back 16 hop.bits (0 ∷ routes) h.fits)
    ∙ ap (λ (family : Family). made hop.bits family) (sym h.family_is)

abbrev pub behind_reach : Attributes → List ℕ → ℕ → List ℕ → ReadSoFar
behind_reach a routes place t = record (behind_clusters a None t) { reach = Some (record { next_hop = a.next_hop; routes = record { place = place + 21; routes = routes } }) }

pub reach_again : (a : Attributes) (routes t : List ℕ) (place : ℕ) → IsSpellable V6 a → length routes + 21 < 2 ^ 16 → Below 11 t
    → Went V6 15 (behind_clusters a None t) place (mp_reach_nlri a.next_hop routes ++ []) [] (behind_reach a routes)
unfolding kinds mp_reach_nlri
reach_again a routes t place s small below =
    let value = ipv6_unicast ++ 16 ∷ (sixteen_bytes a.next_hop ++ 0 ∷ routes) in
    present_at V6 mp_reach_nlri_kind value [] (behind_clusters a None t) (behind_reach a routes) place refl (omega arith) (below_more 11 14 t (omega arith) below) refl
    (λ place. ap (λ (x : Result Reach ℕ). x >>= λ reach. Ok (record (behind_clusters a None (t ++ 14 ∷ [])) { reach = Some reach })) (reach_read place a.next_hop routes s.next_hop))

abbrev pub behind_unreach : List ℕ → ℕ → List ℕ → ReadSoFar
behind_unreach routes place t = record nothing_read { types = t; unreach = Some (record { place = place + 3; routes = routes }) }

unreach_read : (place : ℕ) (routes : List ℕ) → unreach_in place (ipv6_unicast ++ routes) ≡ Ok (record { place = place + 3; routes = routes })
unfolding unreach_in
unreach_read place routes = refl

-- where it comes first
pub unreach_again : (routes : List ℕ) → length routes + 3 < 2 ^ 16 → Taken V6 (mp_unreach_nlri routes) [] nothing_read (λ p. behind_unreach routes p (15 ∷ [])) 0
unfolding kinds mp_unreach_nlri
unreach_again routes small =
    taken_row V6 mp_unreach_nlri_kind (ipv6_unicast ++ routes) [] nothing_read (λ p. behind_unreach routes p (15 ∷ [])) 0 refl (omega arith) refl refl
    (λ place. ap (λ (x : Result Placed ℕ). x >>= λ placed. Ok (record nothing_read { types = 15 ∷ []; unreach = Some placed })) (unreach_read place routes))
