-- Where all attributes together are short, each value is.
use Rattle.std.proofs.Common.{◌≡◌, ℕ, ◌+◌, ◌*◌, ◌≤◌, Bool, true, false, not, nat_lt, List, [], ◌∷◌, ◌++◌, length, Option, Some, None, refl, arith, length-append}
use Rattle.std.specs.Prelude.{if◌then◌else◌}
use Rattle.std.proofs.lemmas.Bool.{ltb-false}
use Rattle.std.proofs.lemmas.List.Sums.{sum_by-cons}
use Rattle.ug_types.specs.Attributes.{PathSegment, Attributes, numbers_in, is_well_formed, refusal_of}
use Rattle.ug_message.specs.Spelling.{attribute, numbers, segments, where_some, origin, as_path, multi_exit_disc, local_pref, atomic_aggregate, aggregator, communities, originator_id, cluster_list, before_next_hop, after_next_hop, attributes, attributes_but_next_hop}
use Rattle.ug_message.specs.Lengths.{HasShortValues}
use Rattle.ug_message.proofs.Heads.{length_parts, length_numbers}
use Rattle.ug_message.proofs.AttributeParts.{length_attributes}

list_within : (flags type : ℕ) (ns : List ℕ) → length (numbers ns) ≤ length (where_some (λ ns. attribute flags type (numbers ns)) ns)
list_within flags type [] = omega arith
list_within flags type (n ∷ ns) = omega (arith, length_parts flags type (numbers (n ∷ ns)))

communities_within : (a : Attributes) → length (communities a) ≤ length (after_next_hop a)
communities_within a =
    let before = multi_exit_disc a ++ local_pref a ++ atomic_aggregate a ++ aggregator a in
    omega (arith, length-append ((before ++ communities a) ++ originator_id a) (cluster_list a), length-append (before ++ communities a) (originator_id a), length-append before (communities a))

clusters_within : (a : Attributes) → length (cluster_list a) ≤ length (after_next_hop a)
clusters_within a =
    omega (arith, length-append (multi_exit_disc a ++ local_pref a ++ atomic_aggregate a ++ aggregator a ++ communities a ++ originator_id a) (cluster_list a))

short_by : (a : Attributes) → length (before_next_hop a) + length (after_next_hop a) ≤ 65535 → HasShortValues a
short_by a le =
    record {
      path = omega (arith, length-append (origin a) (as_path a), length_parts 64 2 (segments a.path));
      communities = omega (arith, communities_within a, list_within 192 8 a.communities);
      clusters = omega (arith, clusters_within a, list_within 128 10 a.clusters);
    }

pub short_values : (a : Attributes) → length (attributes a) ≤ 65535 → HasShortValues a
short_values a le = short_by a (omega (arith, length_attributes a))

pub short_but_next_hop : (a : Attributes) → length (attributes_but_next_hop a) ≤ 65535 → HasShortValues a
unfolding attributes_but_next_hop
short_but_next_hop a le = short_by a (omega (arith, length-append (before_next_hop a) (after_next_hop a)))

-- ---- attributes within the limits of those from within

length_segments : (path : List PathSegment) → length (segments path) ≡ 2 * length path + 4 * numbers_in path
length_segments [] = refl
length_segments (s ∷ path) = omega (arith, length_segments path, sum_by-cons (λ (t : PathSegment). length t.numbers) s path, length_numbers s.numbers, length-append (numbers s.numbers) (segments path))

abbrev first_of_five : Bool → Bool → Bool → Bool → Bool → Option ℕ
first_of_five one two three four five = if one then Some 1 else if two then Some 2 else if three then Some 3 else if four then Some 4 else if five then Some 5 else None

none_of : (one two three four five : Bool) → first_of_five one two three four five ≡ None → (one ≡ false) × (two ≡ false) × (four ≡ false) × (five ≡ false)
none_of true two three four five e = absurd cc
none_of false true three four five e = absurd cc
none_of false false true four five e = absurd cc
none_of false false false true five e = absurd cc
none_of false false false false true e = absurd cc
none_of false false false false false e = (refl, refl, refl, refl)

pub short_within_limits : (a : Attributes) → refusal_of a ≡ None → HasShortValues a
short_within_limits a e =
    let within = none_of (nat_lt 300 (numbers_in a.path)) (nat_lt 16 (length a.path)) (not (is_well_formed a)) (nat_lt 128 (length a.communities)) (nat_lt 32 (length a.clusters)) e in
    let numbers_few : numbers_in a.path ≤ 300 = ltb-false _ _ within.0 in
    let segments_few : length a.path ≤ 16 = ltb-false _ _ within.1 in
    let communities_few : length a.communities ≤ 128 = ltb-false _ _ within.2 in
    let clusters_few : length a.clusters ≤ 32 = ltb-false _ _ within.3 in
    record {
      path = omega (arith, length_segments a.path);
      communities = omega (arith, length_numbers a.communities);
      clusters = omega (arith, length_numbers a.clusters);
    }
