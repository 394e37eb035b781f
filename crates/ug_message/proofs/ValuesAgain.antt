-- Values that were written are read again.
use Rattle.std.proofs.Common.{◌≡◌, ℕ, suc, ◌+◌, ◌*◌, ◌/◌, ◌^◌, ◌<◌, ◌≤◌, ◌==◌, Bool, true, false, ◌&&◌, nat_lt, nat_le, List, [], ◌∷◌, ◌++◌, length, take, Result, Ok, Err, refl, sym, ap, ◌∙◌, arith, append_assoc, length-append}
use Rattle.std.specs.Prelude.{if◌then◌else◌}
use Rattle.std.specs.List.{list_all}
use Rattle.std.specs.Int.{w32, w128, to_be_bytes}
use Rattle.std.proofs.lemmas.Bool.{le-ltb}
use Rattle.std.proofs.lemmas.List.{take_at, drop_at, append-nil}
use Rattle.std.proofs.lemmas.Bool.Decides.{nat_tests}
use Rattle.byteorder.specs.Endian.{big_number}
use Rattle.byteorder.specs.Numbers.{big_number-reads_back}
use Rattle.ug_types.specs.declared.family.Family.{Family}
use Rattle.ug_types.specs.declared.family.Family.TheVariants.{V4}
use Rattle.ug_types.specs.declared.attrs.Aggregator.{Aggregator}
use Rattle.ug_types.specs.Ip.{IpAddress}
use Rattle.ug_types.specs.Attributes.{PathSegment, is_segment}
use Rattle.ug_message.specs.Values.{numbers, numbers_in, number_in, four_bytes, address_in}
use Rattle.ug_message.specs.Walking.{◌>>=◌, walk, with_one}
use Rattle.ug_message.specs.AttributeTable.{segment, segments, segment_at, path_in, aggregator_in}
use Rattle.ug_message.proofs.Formed.{AreNumbers, HaveNumbers, IsAddressOf, IsAggregator}
use Rattle.ug_message.proofs.Heads.{length_numbers}
use Rattle.ug_message.proofs.Walks.{walk_on}

pub numbers_again : (ns : List ℕ) → AreNumbers ns → numbers_in (numbers ns) ≡ ns
numbers_again [] h = refl
numbers_again (n ∷ ns) h =
    ap (λ (m : ℕ). m ∷ numbers_in (numbers ns)) (big_number-reads_back 4 n [] h.0) ∙ ap (λ (ms : List ℕ). n ∷ ms) (numbers_again ns h.1)

pub number_again : (n : ℕ) → n < 2 ^ 32 → number_in (to_be_bytes w32 n) ≡ n
number_again n h = big_number-reads_back 4 n [] h

bits_again : (bits : ℕ) → bits / 2 ^ 96 * 2 ^ 96 ≡ bits → bits < 2 ^ 128 → big_number 4 (take 4 (to_be_bytes w128 bits)) * 2 ^ 96 ≡ bits
bits_again bits clear fits = omega arith

pub address_again : (a : IpAddress) → IsAddressOf V4 a → address_in (four_bytes a) ≡ a
address_again a h =
    ap (λ (bits : ℕ). record { family = V4; bits = bits }) (bits_again a.bits h.clear h.fits)
    ∙ ap (λ (family : Family). record { family = family; bits = a.bits }) (sym h.family_is)

pub aggregator_again : (g : Aggregator) → IsAggregator g → aggregator_in (to_be_bytes w32 g.asn ++ four_bytes g.addr) ≡ g
aggregator_again g h =
    ap (λ (asn : ℕ). record { asn = asn; addr = address_in (four_bytes g.addr) }) (big_number-reads_back 4 g.asn (four_bytes g.addr) h.asn)
    ∙ ap (λ (addr : IpAddress). record { asn = g.asn; addr = addr }) (address_again g.addr h.addr)

-- ---- the segments of a path

both : (a b : Bool) → (a && b) ≡ true → (a ≡ true) × (b ≡ true)
both true true e = (refl, refl)
both true false e = absurd cc
both false b e = absurd cc

positive : (n : ℕ) → nat_lt 0 n ≡ true → (n == 0) ≡ false
positive n e = grind (arith, nat_tests)

abbrev read_from : Bool → Bool → Bool → List ℕ → ℕ → Result (PathSegment × ℕ) ℕ
read_from empty short is_set ns size = if empty then Err 6 else if short then Err 6 else Ok (record { is_set = is_set; numbers = ns }, size)

-- the bytes of the numbers are all there, and are read as these
segment_by : (is_set : Bool) (ns rest : List ℕ) → nat_lt 0 (length ns) ≡ true → AreNumbers ns
    → read_from (length ns == 0) (nat_lt (suc (suc (length (numbers ns ++ rest)))) (2 + 4 * length ns)) is_set (numbers_in (take (4 * length ns) (numbers ns ++ rest))) (2 + 4 * length ns)
    ≡ Ok (record { is_set = is_set; numbers = ns }, 2 + length (numbers ns))
segment_by is_set ns rest some h =
    let len = length_numbers ns in
    let all : nat_lt (suc (suc (length (numbers ns ++ rest)))) (2 + 4 * length ns) ≡ false = le-ltb _ _ (omega (arith, length-append (numbers ns) rest)) in
    let size : 2 + 4 * length ns ≡ 2 + length (numbers ns) = omega arith in
    let read : numbers_in (take (4 * length ns) (numbers ns ++ rest)) ≡ ns = ap (λ (b : List ℕ). numbers_in b) (take_at (numbers ns) rest (4 * length ns) len) ∙ numbers_again ns h in
    ap (λ (empty : Bool). read_from empty (nat_lt (suc (suc (length (numbers ns ++ rest)))) (2 + 4 * length ns)) is_set (numbers_in (take (4 * length ns) (numbers ns ++ rest))) (2 + 4 * length ns)) (positive (length ns) some)
    ∙ ap (λ (short : Bool). read_from false short is_set (numbers_in (take (4 * length ns) (numbers ns ++ rest))) (2 + 4 * length ns)) all
    ∙ ap (λ (ms : List ℕ). read_from false false is_set ms (2 + 4 * length ns)) read ∙ ap (λ (n : ℕ). read_from false false is_set ns n) size

segment_case : (is_set : Bool) (ns rest : List ℕ) → nat_lt 0 (length ns) ≡ true → AreNumbers ns
    → segment_at ((if is_set then 1 else 2) ∷ length ns ∷ (numbers ns ++ rest)) ≡ Ok (record { is_set = is_set; numbers = ns }, 2 + length (numbers ns))
unfolding segment_at
segment_case true ns rest some h = segment_by true ns rest some h
segment_case false ns rest some h = segment_by false ns rest some h

segment_again : (s : PathSegment) (rest : List ℕ) → is_segment s ≡ true → AreNumbers s.numbers → segment_at (segment s ++ rest) ≡ Ok (s, length (segment s))
segment_again s rest formed fits =
    segment_case s.is_set s.numbers rest (both (nat_lt 0 (length s.numbers)) (nat_le (length s.numbers) 255) formed).0 fits
    ∙ ap (λ (n : ℕ). Ok (s, n)) (omega arith)

path_walk : (path so_far : List PathSegment) (place : ℕ) → list_all is_segment path ≡ true → HaveNumbers path → walk (with_one (λ place. segment_at)) 0 place so_far (segments path) ≡ Ok (so_far ++ path)
path_walk [] so_far place formed h = ap (λ (p : List PathSegment). Ok p) (sym (append-nil so_far))
path_walk (s ∷ path) so_far place formed h =
    let parts = both (is_segment s) (list_all is_segment path) formed in
    let size = length (segment s) in
    let rest = segments path in
    let whole : size ≤ length (segment s ++ rest) = omega (arith, length-append (segment s) rest) in
    let one : with_one (λ place. segment_at) place so_far (segment s ++ rest) ≡ Ok (so_far ++ s ∷ [], size) =
    ap (λ (r : Result (PathSegment × ℕ) ℕ). r >>= λ x. Ok (so_far ++ x.0 ∷ [], x.1)) (segment_again s rest parts.0 h.0) in
    walk_on (with_one (λ place. segment_at)) size place so_far (so_far ++ s ∷ []) (segment s ++ rest) (omega arith) whole one
    ∙ ap (λ (b : List ℕ). walk (with_one (λ place. segment_at)) 0 (place + size) (so_far ++ s ∷ []) b) (drop_at (segment s) rest size refl)
    ∙ path_walk path (so_far ++ s ∷ []) (place + size) parts.1 h.1 ∙ ap (λ (p : List PathSegment). Ok p) (append_assoc so_far (s ∷ []) path)

pub path_again : (path : List PathSegment) → list_all is_segment path ≡ true → HaveNumbers path → path_in (segments path) ≡ Ok path
path_again path formed h = path_walk path [] 0 formed h
