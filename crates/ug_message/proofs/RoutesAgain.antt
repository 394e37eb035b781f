-- What is spelled as a route is read as that route, whatever follows.
use Rattle.std.proofs.Common.{◌≡◌, ℕ, ◌+◌, ◌-◌, ◌*◌, ◌/◌, ◌%◌, ◌^◌, ◌<◌, ◌≤◌, Bool, true, false, nat_lt, List, [], ◌∷◌, ◌++◌, length, take, drop, Result, Ok, Err, refl, sym, ap, subst, ◌∙◌, arith, length-append}
use Rattle.std.specs.Prelude.{if◌then◌else◌}
use Rattle.std.specs.Int.{w32, w128, to_be_bytes}
use Rattle.std.proofs.Math.Nat.{mul-div_cancel, mul_assoc, mul-mod_left, mod-eq_of_lt}
use Rattle.std.proofs.lemmas.Bool.{le-ltb}
use Rattle.std.proofs.lemmas.List.{take_at, length-take}
use Rattle.std.proofs.lemmas.Nat.{pow_pos, pow-add}
use Rattle.byteorder.specs.Endian.{big_number}
use Rattle.byteorder.specs.Numbers.{big_number-reads_back}
use Rattle.byteorder.proofs.Bytes.{pow256}
use Rattle.ug_types.specs.declared.key.Key.{Key}
use Rattle.ug_types.specs.declared.family.Family.{Family}
use Rattle.ug_types.specs.declared.family.Family.TheVariants.{V4, V6}
use Rattle.ug_types.specs.Ip.{IpPrefix, cleared, bytes_for, width_of}
use Rattle.ug_message.specs.Spelling.{route}
use Rattle.ug_message.specs.Spellable.{is_route}
use Rattle.ug_message.specs.RoutesRead.{prefix_from, prefix_at, behind, route_at}
use Rattle.ug_message.proofs.Formed.{IsPrefixOf, IsRouteOf, route_formed}
use Rattle.ug_message.proofs.Digits.{first_bytes}

pub width_of-le : (family : Family) → width_of family ≤ 128
width_of-le V4 = omega arith
width_of-le V6 = omega arith

-- ---- the bits of a prefix

-- a multiple is cleared already
multiple : (m d : ℕ) → 0 < d → m * d / d * d ≡ m * d
multiple m d h = ap (λ (x : ℕ). x * d) (mul-div_cancel m h)

-- with no bit set past a length, none is past a greater one
cleared_further : (i j bits : ℕ) → i ≤ j → j ≤ 128 → cleared i bits ≡ bits → cleared j bits ≡ bits
cleared_further i j bits le top e =
    let unit = 2 ^ (128 - j) in
    let more = 2 ^ (j - i) in
    let split : 2 ^ (128 - i) ≡ more * unit = ap (λ (n : ℕ). 2 ^ n) (omega arith) ∙ pow-add 2 (j - i) (128 - j) in
    let is : bits / 2 ^ (128 - i) * more * unit ≡ bits = mul_assoc (bits / 2 ^ (128 - i)) more unit ∙ ap (λ (x : ℕ). bits / 2 ^ (128 - i) * x) (sym split) ∙ e in
    let P : ℕ → Type 0 = λ n. cleared j n ≡ n in
    subst P is (multiple (bits / 2 ^ (128 - i) * more) unit (pow_pos (128 - j)))

-- the fewest bytes that hold the bits hold all of them
whole : (k r bits : ℕ) → 16 ≡ k + r → bits < 2 ^ 128 → bits % 256 ^ r ≡ 0 → big_number 16 (take k (to_be_bytes w128 bits)) ≡ bits
whole k r bits sum fits clear =
    let first = first_bytes k 16 r bits sum in
    let all : bits % 256 ^ 16 ≡ bits = mod-eq_of_lt fits in
    omega (arith, first, all, clear)

-- no bit past the bytes' end
no_more : (len k r bits : ℕ) → len ≤ 8 * k → 16 ≡ k + r → cleared len bits ≡ bits → bits % 256 ^ r ≡ 0
no_more len k r bits le sum clear =
    let further = cleared_further len (8 * k) bits le (omega arith) clear in
    let size : 2 ^ (128 - 8 * k) ≡ 256 ^ r = ap (λ (n : ℕ). 2 ^ n) (omega arith) ∙ sym (pow256 r) in
    let is : bits / 2 ^ (128 - 8 * k) * 256 ^ r ≡ bits = ap (λ (n : ℕ). bits / 2 ^ (128 - 8 * k) * n) (sym size) ∙ further in
    subst (λ (n : ℕ). n % 256 ^ r ≡ 0) is (mul-mod_left (bits / 2 ^ (128 - 8 * k)) (256 ^ r))

-- the bytes of a prefix
abbrev bits_of : IpPrefix → List ℕ
bits_of p = take (bytes_for p.len) (to_be_bytes w128 p.bits)

short : (family : Family) (p : IpPrefix) → IsPrefixOf family p → p.len ≤ 128
short family p h = omega (arith, h.short, width_of-le family)

bits_held : (family : Family) (p : IpPrefix) → IsPrefixOf family p → big_number 16 (bits_of p) ≡ p.bits
bits_held family p h =
    let k = bytes_for p.len in
    let few : p.len ≤ 128 = short family p h in
    whole k (16 - k) p.bits (omega arith) h.fits (no_more p.len k (16 - k) p.bits (omega arith) (omega arith) h.clear)

prefix_is : (family : Family) (p : IpPrefix) → IsPrefixOf family p → prefix_from family p.len (bits_of p) ≡ p
prefix_is family p h =
    ap (λ (bits : ℕ). record { family = family; bits = cleared p.len bits; len = p.len }) (bits_held family p h)
    ∙ ap (λ (bits : ℕ). record { family = family; bits = bits; len = p.len }) h.clear
    ∙ ap (λ (f : Family). record { family = f; bits = p.bits; len = p.len }) (sym h.family_is)

pub prefix_size : (len bits : ℕ) → len ≤ 128 → length (take (bytes_for len) (to_be_bytes w128 bits)) ≡ bytes_for len
prefix_size len bits le = omega (arith, length-take (bytes_for len) (to_be_bytes w128 bits))

prefix_again : (family : Family) (p : IpPrefix) (rest : List ℕ) → IsPrefixOf family p → prefix_at family (p.len ∷ (bits_of p ++ rest)) ≡ Ok (p, 1 + bytes_for p.len)
prefix_again family p rest h =
    let size : length (bits_of p) ≡ bytes_for p.len = prefix_size p.len p.bits (short family p h) in
    let within : nat_lt (width_of family) p.len ≡ false = le-ltb _ _ h.short in
    let all : nat_lt (length (bits_of p ++ rest)) (bytes_for p.len) ≡ false = le-ltb _ _ (omega (arith, length-append (bits_of p) rest)) in
    rw (within, all, take_at (bits_of p) rest (bytes_for p.len) size, prefix_is family p h) refl

pub length_route : (add_path : Bool) (key : Key) → key.prefix.len ≤ 128 → length (route add_path key) ≡ (if add_path then 5 else 1) + bytes_for key.prefix.len
unfolding route
length_route true key h = omega (arith, prefix_size key.prefix.len key.prefix.bits h)
length_route false key h = omega (arith, prefix_size key.prefix.len key.prefix.bits h)

otherwise : (b : Bool) (x y : Result (Key × ℕ) ℕ) → b ≡ false → (if b then x else y) ≡ y
otherwise true x y e = absurd cc
otherwise false x y e = refl

read_again : (family : Family) (add_path : Bool) (key : Key) (rest : List ℕ) → IsRouteOf family add_path key
    → route_at family add_path (route add_path key ++ rest) ≡ Ok (key, (if add_path then 5 else 1) + bytes_for key.prefix.len)
unfolding route route_at
read_again family true key rest h =
    let p = key.prefix in
    let bytes = to_be_bytes w32 key.id ++ (p.len ∷ (bits_of p ++ rest)) in
    let long : nat_lt (length bytes) 4 ≡ false = le-ltb _ _ (omega arith) in
    otherwise (nat_lt (length bytes) 4) (Err 2) (behind (big_number 4 bytes) 4 (prefix_at family (p.len ∷ (bits_of p ++ rest)))) long
    ∙ ap (λ (id : ℕ). behind id 4 (prefix_at family (p.len ∷ (bits_of p ++ rest)))) (big_number-reads_back 4 key.id (p.len ∷ (bits_of p ++ rest)) h.id)
    ∙ ap (behind key.id 4) (prefix_again family p rest h.prefix)
    ∙ ap (λ (n : ℕ). Ok (key, n)) (omega arith)
read_again family false key rest h =
    let p = key.prefix in
    ap (behind 0 0) (prefix_again family p rest h.prefix)
    ∙ ap (λ (id : ℕ). Ok (record { prefix = p; id = id }, 0 + (1 + bytes_for p.len))) (sym (h.plain refl))
    ∙ ap (λ (n : ℕ). Ok (key, n)) (omega arith)

pub route_again : (family : Family) (add_path : Bool) (key : Key) (rest : List ℕ) → is_route family add_path key ≡ true
    → route_at family add_path (route add_path key ++ rest) ≡ Ok (key, length (route add_path key))
route_again family add_path key rest e =
    let h = route_formed family add_path key e in
    read_again family add_path key rest h ∙ ap (λ (n : ℕ). Ok (key, n)) (sym (length_route add_path key (short family key.prefix h.prefix)))

-- a route takes a byte at least
pub route_some : (add_path : Bool) (key : Key) → 1 ≤ length (route add_path key)
unfolding route
route_some true key = omega arith
route_some false key = omega arith

-- ---- how many bytes were taken

abbrev read_as : Key × ℕ → Result (Key × ℕ) ℕ
read_as x = Ok x

same : (x y : Key × ℕ) → read_as x ≡ read_as y → x ≡ y
same x y e = cc

abbrev guarded : Bool → Bool → IpPrefix × ℕ → Result (IpPrefix × ℕ) ℕ
guarded long cut x = if long then Err 1 else if cut then Err 2 else Ok x

chosen : (long cut : Bool) (x y : IpPrefix × ℕ) → guarded long cut x ≡ Ok y → x ≡ y
chosen true cut x y e = absurd cc
chosen false true x y e = absurd cc
chosen false false x y e = cc

prefix_taken : (family : Family) (bytes : List ℕ) (x : IpPrefix × ℕ) → prefix_at family bytes ≡ Ok x → x.1 ≡ 1 + bytes_for x.0.len
prefix_taken family [] x e = absurd cc
prefix_taken family (len ∷ bytes) x e =
    let is = chosen (nat_lt (width_of family) len) (nat_lt (length bytes) (bytes_for len)) (prefix_from family len (take (bytes_for len) bytes), 1 + bytes_for len) x e in
    ap (λ (y : IpPrefix × ℕ). y.1) (sym is) ∙ ap (λ (y : IpPrefix × ℕ). 1 + bytes_for y.0.len) is

behind_taken : (id taken : ℕ) (r : Result (IpPrefix × ℕ) ℕ) (x : Key × ℕ) → ((y : IpPrefix × ℕ) → r ≡ Ok y → y.1 ≡ 1 + bytes_for y.0.len) → behind id taken r ≡ Ok x → x.1 ≡ taken + (1 + bytes_for x.0.prefix.len)
behind_taken id taken (Ok y) x sized e =
    let made : Key × ℕ = (record { prefix = y.0; id = id }, taken + y.1) in
    let is = same made x e in
    ap (λ (z : Key × ℕ). z.1) (sym is) ∙ ap (λ (n : ℕ). taken + n) (sized y refl) ∙ ap (λ (z : Key × ℕ). taken + (1 + bytes_for z.0.prefix.len)) is
behind_taken id taken (Err n) x sized e = absurd cc

then_read : (b : Bool) (r : Result (Key × ℕ) ℕ) (x : Key × ℕ) → (if b then Err 2 else r) ≡ Ok x → r ≡ Ok x
then_read true r x e = absurd cc
then_read false r x e = e

pub route_taken : (family : Family) (add_path : Bool) (bytes : List ℕ) (x : Key × ℕ) → route_at family add_path bytes ≡ Ok x → x.1 ≡ (if add_path then 5 else 1) + bytes_for x.0.prefix.len
unfolding route_at
route_taken family true bytes x e =
    let read = then_read (nat_lt (length bytes) 4) (behind (big_number 4 bytes) 4 (prefix_at family (drop 4 bytes))) x e in
    let taken = behind_taken (big_number 4 bytes) 4 (prefix_at family (drop 4 bytes)) x (prefix_taken family (drop 4 bytes)) read in
    omega (arith, taken)
route_taken family false bytes x e =
    let taken = behind_taken 0 0 (prefix_at family bytes) x (prefix_taken family bytes) e in
    omega (arith, taken)
