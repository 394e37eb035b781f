-- Zeros behind bytes change no number.
use Rattle.std.proofs.Common.{◌≡◌, ℕ, zero, suc, ◌+◌, ◌*◌, List, [], ◌∷◌, ◌++◌, drop, replicate, length, ◌-◌, slice_index, refl, ap, ◌∙◌}
use Rattle.std.proofs.lemmas.List.{drop-replicate}
use Rattle.byteorder.specs.Endian.{big_from, big_number}

zeros_at : (m i : ℕ) → slice_index (replicate m 0) i ≡ 0
zeros_at zero i = refl
zeros_at (suc m) zero = refl
zeros_at (suc m) (suc i) = zeros_at m i

padded_at : (xs : List ℕ) (m i : ℕ) → slice_index (xs ++ replicate m 0) i ≡ slice_index xs i
padded_at [] m i = zeros_at m i
padded_at (x ∷ xs) m zero = refl
padded_at (x ∷ xs) m (suc i) = padded_at xs m i

padded_by : (i n m : ℕ) (xs : List ℕ) → big_from i n (xs ++ replicate m 0) ≡ big_from i n xs
padded_by i zero m xs = refl
padded_by i (suc n) m xs = let one = padded_at xs m i in let more = padded_by (suc i) n m xs in rw (one, more) refl

pub padded : (xs : List ℕ) → big_number 16 (xs ++ drop (length xs) (replicate 16 0)) ≡ big_number 16 xs
padded xs = ap (λ (zs : List ℕ). big_number 16 (xs ++ zs)) (drop-replicate {X = ℕ} (length xs) 16 0) ∙ padded_by 0 16 (16 - length xs) xs
