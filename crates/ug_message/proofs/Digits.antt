-- A number's bytes, the highest first, and the number that the first of them are.
use Rattle.std.proofs.Common.{◌≡◌, ℕ, zero, suc, ◌+◌, ◌*◌, ◌%◌, ◌^◌, [], ◌++◌, take, refl, arith}
use Rattle.std.specs.Int.{byte_at, bytes_high_first}
use Rattle.byteorder.specs.Endian.{big_from}
use Rattle.byteorder.specs.Numbers.{big_from-cons, big_from-bytes}

pub nothing : (i n : ℕ) → big_from i n [] ≡ 0
nothing i zero = refl
nothing i (suc n) = omega (arith, nothing (suc i) n)

-- the highest of some bytes, and the others
one_byte : (n x : ℕ) → byte_at n x * 256 ^ n + x % 256 ^ n ≡ x % 256 ^ suc n
one_byte n x =
    let all = big_from-bytes (suc n) x [] in
    let moved = big_from-cons 0 n (byte_at n x) (bytes_high_first n x ++ []) in
    let more = big_from-bytes n x [] in
    omega (arith, all, moved, more)

-- the first of a number's bytes, and what the others are
pub first_bytes : (k n r x : ℕ) → n ≡ k + r → big_from 0 n (take k (bytes_high_first n x)) + x % 256 ^ r ≡ x % 256 ^ n
first_bytes zero n r x e = let is : n ≡ r = omega arith in rw (is, nothing 0 r) (omega arith)
first_bytes (suc k) zero r x e = absurd (omega arith)
first_bytes (suc k) (suc n) r x e =
    let moved = big_from-cons 0 n (byte_at n x) (take k (bytes_high_first n x)) in
    let more = first_bytes k n r x (omega arith) in
    omega (arith, moved, more, one_byte n x)
