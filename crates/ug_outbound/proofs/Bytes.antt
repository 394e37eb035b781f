-- How many bytes attributes take that have few numbers.
use Rattle.std.proofs.Common.{◌≡◌, ℕ, ◌+◌, ◌*◌, ◌≤◌, Bool, true, false, nat_lt, List, [], ◌∷◌, ◌++◌, length, Option, Some, None, refl, ap, arith, length-append}
use Rattle.std.specs.Prelude.{if◌then◌else◌}
use Rattle.std.specs.Int.{w16, w32, to_be_bytes}
use Rattle.std.proofs.lemmas.Bool.{le-ltb}
use Rattle.std.proofs.lemmas.List.Sums.{sum_by-cons}
use Rattle.ug_types.specs.Ip.{IpAddress}
use Rattle.ug_types.specs.declared.attrs.Aggregator.{Aggregator}
use Rattle.ug_types.specs.Attributes.{PathSegment, Attributes, numbers_in}
use Rattle.ug_message.specs.Spelling.{attribute, well_known, optional, optional_transitive, where_present, where_some, numbers, four_bytes, segments, origin, as_path, multi_exit_disc, local_pref, atomic_aggregate, aggregator, communities, originator_id, cluster_list, before_next_hop, after_next_hop, attributes, attributes_but_next_hop}
use Rattle.ug_message.proofs.Heads.{length_numbers}
use Rattle.ug_message.proofs.AttributeParts.{length_attributes, length_next_hop, but_next_hop_are}

headed : (long : Bool) (flags type len : ℕ) (value : List ℕ)
    → length (if long then (flags + 16) ∷ type ∷ (to_be_bytes w16 len ++ value) else flags ∷ type ∷ len ∷ value) ≤ length value + 4
headed true flags type len value = omega (arith, length-append (to_be_bytes w16 len) value)
headed false flags type len value = omega arith

at_most : (flags type : ℕ) (value : List ℕ) → length (attribute flags type value) ≤ length value + 4
unfolding attribute
at_most flags type value = headed (nat_lt 255 (length value)) flags type (length value) value

short : (flags type : ℕ) (value : List ℕ) → length value ≤ 255 → length (attribute flags type value) ≡ length value + 3
unfolding attribute
short flags type value le = rw (le-ltb 255 (length value) le) (omega arith)

length_segments : (path : List PathSegment) → length (segments path) ≡ 2 * length path + 4 * numbers_in path
length_segments [] = refl
length_segments (s ∷ path) = omega (arith, length_segments path, sum_by-cons (λ (t : PathSegment). length t.numbers) s path, length_numbers s.numbers, length-append (numbers s.numbers) (segments path))

length_four : (a : IpAddress) → length (four_bytes a) ≡ 4
length_four a = refl

length_word : (n : ℕ) → length (to_be_bytes w32 n) ≡ 4
length_word n = refl

word_at_most : (flags type : ℕ) (given : Option ℕ) → length (where_present (λ n. attribute flags type (to_be_bytes w32 n)) given) ≤ 7
word_at_most flags type None = omega arith
word_at_most flags type (Some n) = omega (arith, short flags type (to_be_bytes w32 n) (omega (arith, length_word n)), length_word n)

address_at_most : (flags type : ℕ) (given : Option IpAddress) → length (where_present (λ r. attribute flags type (four_bytes r)) given) ≤ 7
address_at_most flags type None = omega arith
address_at_most flags type (Some r) = omega (arith, short flags type (four_bytes r) (omega (arith, length_four r)), length_four r)

atomic_at_most : (b : Bool) → length (if b then attribute well_known 6 [] else []) ≤ 3
atomic_at_most true = omega (arith, short well_known 6 [] (omega arith))
atomic_at_most false = omega arith

aggregator_at_most : (given : Option Aggregator) → length (where_present (λ (g : Aggregator). attribute optional_transitive 7 (to_be_bytes w32 g.asn ++ four_bytes g.addr)) given) ≤ 11
aggregator_at_most None = omega arith
aggregator_at_most (Some g) = omega (arith, short optional_transitive 7 (to_be_bytes w32 g.asn ++ four_bytes g.addr) (omega arith))

list_at_most : (flags type : ℕ) (ns : List ℕ) → length (where_some (λ (ms : List ℕ). attribute flags type (numbers ms)) ns) ≤ 4 * length ns + 4
list_at_most flags type [] = omega arith
list_at_most flags type (n ∷ ns) = omega (arith, at_most flags type (numbers (n ∷ ns)), length_numbers (n ∷ ns))

short_list_at_most : (flags type : ℕ) (ns : List ℕ) → length ns ≤ 33 → length (where_some (λ (ms : List ℕ). attribute flags type (numbers ms)) ns) ≤ 135
short_list_at_most flags type [] few = omega arith
short_list_at_most flags type (n ∷ ns) few = omega (arith, short flags type (numbers (n ∷ ns)) (omega (arith, length_numbers (n ∷ ns))), length_numbers (n ∷ ns))

length_after : (a : Attributes) → length (after_next_hop a) ≡ length (multi_exit_disc a) + length (local_pref a) + length (atomic_aggregate a) + length (aggregator a) + length (communities a) + length (originator_id a) + length (cluster_list a)
length_after a =
    let two = multi_exit_disc a ++ local_pref a in
    let three = two ++ atomic_aggregate a in
    let four = three ++ aggregator a in
    let five = four ++ communities a in
    omega (arith, length-append (five ++ originator_id a) (cluster_list a), length-append five (originator_id a), length-append four (communities a), length-append three (aggregator a), length-append two (atomic_aggregate a), length-append (multi_exit_disc a) (local_pref a))

-- NEXT_HOP has seven bytes
pub length_but_next_hop : (a : Attributes) → length (attributes a) ≡ length (attributes_but_next_hop a) + 7
length_but_next_hop a =
    omega (arith, length_attributes a, length_next_hop a, ap (λ (x : List ℕ). length x) (but_next_hop_are a), length-append (before_next_hop a) (after_next_hop a))

pub few_bytes : (a : Attributes) → numbers_in a.path ≤ 317 → length a.path ≤ 17 → length a.communities ≤ 144 → length a.clusters ≤ 33 → length (attributes a) ≤ 2067
few_bytes a numbers_few segments_few communities_few clusters_few =
    omega (
      arith,
      length_attributes a,
      length-append (origin a) (as_path a),
      length_next_hop a,
      length_after a,
      short well_known 1 (a.origin ∷ []) (omega arith),
      at_most well_known 2 (segments a.path),
      length_segments a.path,
      word_at_most optional 4 a.med,
      word_at_most well_known 5 a.local_pref,
      atomic_at_most a.atomic,
      aggregator_at_most a.aggregator,
      list_at_most optional_transitive 8 a.communities,
      address_at_most optional 9 a.originator,
      short_list_at_most optional 10 a.clusters clusters_few,
    )
