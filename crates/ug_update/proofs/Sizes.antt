-- How long attributes are at most.
use Rattle.std.proofs.Common.{◌≡◌, ℕ, ◌+◌, ◌≤◌, ◌<◌, ◌^◌, Bool, true, false, nat_lt, List, [], ◌∷◌, ◌++◌, length, Option, Some, None, arith, length-append}
use Rattle.std.specs.Prelude.{if◌then◌else◌}
use Rattle.std.specs.Int.{w32, to_be_bytes}
use Rattle.ug_types.specs.declared.attrs.Aggregator.{Aggregator}
use Rattle.ug_types.specs.Attributes.{Attributes}
use Rattle.ug_message.specs.Attribute.{attribute}
use Rattle.ug_message.specs.Values.{numbers, where_present, where_some, four_bytes}
use Rattle.ug_message.specs.AttributeTable.{origin, as_path, multi_exit_disc, local_pref, atomic_aggregate, aggregator, communities, originator_id, cluster_list, before_next_hop, after_next_hop}
use Rattle.ug_message.specs.Lengths.{HasShortValues}
use Rattle.ug_message.proofs.Heads.{length_attribute}

around : (long : Bool) (len : ℕ) → len ≤ 65535 → (if long then len + 4 else len + 3) ≤ 65539
around true len le = omega arith
around false len le = omega arith

one : (flags type : ℕ) (value : List ℕ) → length value ≤ 65535 → length (attribute flags type value) ≤ 65539
one flags type value le = rw (length_attribute flags type value) (around (nat_lt 255 (length value)) (length value) le)

where_there : {T : Type 0} (spelled : T → List ℕ) (o : Option T) → ((x : T) → length (spelled x) ≤ 65539) → length (where_present spelled o) ≤ 65539
where_there spelled None each = omega arith
where_there spelled (Some x) each = each x

where_any : (spelled : List ℕ → List ℕ) (ns : List ℕ) → length (spelled ns) ≤ 65539 → length (where_some spelled ns) ≤ 65539
where_any spelled [] le = omega arith
where_any spelled (n ∷ ns) le = le

flag : (atomic : Bool) → length (if atomic then attribute 64 6 [] else []) ≤ 65539
flag true = one 64 6 [] (omega arith)
flag false = omega arith

-- those before the next hop
pub before_fits : (a : Attributes) → HasShortValues a → length (before_next_hop a) < 2 ^ 18
before_fits a short =
    let o = one 64 1 (a.origin ∷ []) (omega arith) in
    let p = one 64 2 _ short.path in
    omega (arith, length-append (origin a) (as_path a))

seven : (m l t g c r k : List ℕ) → length m ≤ 65539 → length l ≤ 65539 → length t ≤ 65539 → length g ≤ 65539 → length c ≤ 65539 → length r ≤ 65539 → length k ≤ 65539
    → length (m ++ l ++ t ++ g ++ c ++ r ++ k) < 2 ^ 19
seven m l t g c r k h1 h2 h3 h4 h5 h6 h7 =
    let size : length (m ++ l ++ t ++ g ++ c ++ r ++ k) ≡ length m + length l + length t + length g + length c + length r + length k = simp (length-append) in
    omega (arith, size)

-- those behind it
pub behind_fits : (a : Attributes) → HasShortValues a → length (after_next_hop a) < 2 ^ 19
behind_fits a short =
    seven (multi_exit_disc a) (local_pref a) (atomic_aggregate a) (aggregator a) (communities a) (originator_id a) (cluster_list a)
    (where_there (λ n. attribute 128 4 (to_be_bytes w32 n)) a.med (λ n. one 128 4 (to_be_bytes w32 n) (omega arith)))
    (where_there (λ n. attribute 64 5 (to_be_bytes w32 n)) a.local_pref (λ n. one 64 5 (to_be_bytes w32 n) (omega arith)))
    (flag a.atomic)
    (where_there (λ (g : Aggregator). attribute 192 7 (to_be_bytes w32 g.asn ++ four_bytes g.addr)) a.aggregator (λ g. one 192 7 (to_be_bytes w32 g.asn ++ four_bytes g.addr) (omega arith)))
    (where_any (λ ns. attribute 192 8 (numbers ns)) a.communities (one 192 8 (numbers a.communities) short.communities))
    (where_there (λ r. attribute 128 9 (four_bytes r)) a.originator (λ r. one 128 9 (four_bytes r) (omega arith)))
    (where_any (λ ns. attribute 128 10 (numbers ns)) a.clusters (one 128 10 (numbers a.clusters) short.clusters))
