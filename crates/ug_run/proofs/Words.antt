-- Texts without a byte, cut into words and lines at it.
use Rattle.std.proofs.Common.{◌≡◌, ℕ, ◌<◌, ◌==◌, Bool, true, false, List, [], ◌∷◌, ◌++◌, refl, sym, ◌∙◌, ap, arith, append_assoc}
use Rattle.std.specs.Prelude.{if◌then◌else◌, ◌^◌, ◌&&◌, nat_lt, Some, None}
use Rattle.std.specs.Fmt.{decimal}
use Rattle.std.specs.Str.Parse.{AllDigits, digits_value}
use Rattle.std.proofs.lemmas.Bool.Decides.{nat_tests}
use Rattle.std.proofs.lemmas.Fmt.{decimal_is_IsNumeral}
use Rattle.std.proofs.lemmas.Str.Parse.{digit_from_value}
use Rattle.std.proofs.lemmas.List.{append-nil}
use Rattle.ug_types.specs.Bytes.{same_bytes}
use Rattle.ug_text.specs.Cutting.{pieces_from, pieces}
use Rattle.ug_pieces.specs.Lines.{ended_from, rest_from}
use Rattle.ug_audit_rules.specs.Reports.{Lacks, where_written, written_number}

pub lacks-both : (b : ℕ) (xs ys : List ℕ) → Lacks b xs → Lacks b ys → Lacks b (xs ++ ys)
lacks-both b [] ys h k = k
lacks-both b (x ∷ xs) ys h k = (h.0, lacks-both b xs ys h.1 k)

is_self : (n : ℕ) → (n == n) ≡ true
is_self n = grind (arith, nat_tests)

differs : (m n : ℕ) → n < m → (m == n) ≡ false
differs m n less = grind (arith, nat_tests, less)

lacks_digits : (b : ℕ) (ds : List ℕ) → b < 48 → AllDigits 10 ds → Lacks b ds
lacks_digits b [] low h = tt
lacks_digits b (d ∷ ds) low h = let digit = digit_from_value d h.0 in (differs d b (omega arith), lacks_digits b ds low h.1)

-- numbers have neither spaces nor newlines
pub lacks-decimal : (b n : ℕ) → b < 48 → n < 2 ^ 64 → Lacks b (decimal n)
lacks-decimal b n low small = lacks_digits b (decimal n) low (decimal_is_IsNumeral n small).0.1

pub same-self : (xs : List ℕ) → same_bytes xs xs ≡ true
same-self [] = refl
same-self (x ∷ xs) = let here = is_self x in let rest = same-self xs in cc

behind : (piece : List ℕ) (c : ℕ) (a : List ℕ) → (piece ++ c ∷ []) ++ a ≡ piece ++ c ∷ a
behind piece c a = append_assoc piece (c ∷ []) a

-- a word, and the space behind it
cut_here : (piece a b : List ℕ) → Lacks 32 a → pieces_from 32 piece (a ++ 32 ∷ b) ≡ (piece ++ a) ∷ pieces 32 b
unfolding pieces_from
cut_here piece [] b h = ap (λ (x : List ℕ). x ∷ pieces 32 b) (sym (append-nil piece))
cut_here piece (c ∷ a) b h = rw h.0 (cut_here (piece ++ c ∷ []) a b h.1 ∙ ap (λ (x : List ℕ). x ∷ pieces 32 b) (behind piece c a))

pub word-cut : (a b : List ℕ) → Lacks 32 a → pieces 32 (a ++ 32 ∷ b) ≡ a ∷ pieces 32 b
word-cut a b h = cut_here [] a b h

last_here : (piece a : List ℕ) → Lacks 32 a → pieces_from 32 piece a ≡ (piece ++ a) ∷ []
unfolding pieces_from
last_here piece [] h = ap (λ (x : List ℕ). x ∷ []) (sym (append-nil piece))
last_here piece (c ∷ a) h = rw h.0 (last_here (piece ++ c ∷ []) a h.1 ∙ ap (λ (x : List ℕ). x ∷ []) (behind piece c a))

pub last-word : (a : List ℕ) → Lacks 32 a → pieces 32 a ≡ a ∷ []
last-word a h = last_here [] a h

-- a line, and the newline behind it
line_here : (front a b : List ℕ) → Lacks 10 a → ended_from front (a ++ 10 ∷ b) ≡ (front ++ a) ∷ ended_from [] b
unfolding ended_from
line_here front [] b h = ap (λ (x : List ℕ). x ∷ ended_from [] b) (sym (append-nil front))
line_here front (c ∷ a) b h = rw h.0 (line_here (front ++ c ∷ []) a b h.1 ∙ ap (λ (x : List ℕ). x ∷ ended_from [] b) (behind front c a))

pub line-ended : (a b : List ℕ) → Lacks 10 a → ended_from [] (a ++ 10 ∷ b) ≡ a ∷ ended_from [] b
line-ended a b h = line_here [] a b h

rest_here : (front a b : List ℕ) → Lacks 10 a → rest_from front (a ++ 10 ∷ b) ≡ rest_from [] b
unfolding rest_from
rest_here front [] b h = refl
rest_here front (c ∷ a) b h = rw h.0 (rest_here (front ++ c ∷ []) a b h.1)

pub line-rest : (a b : List ℕ) → Lacks 10 a → rest_from [] (a ++ 10 ∷ b) ≡ rest_from [] b
line-rest a b h = rest_here [] a b h

is_small : (n : ℕ) → n < 18446744073709551616 → nat_lt n 18446744073709551616 ≡ true
is_small n small = grind (arith, nat_tests, small)

-- a number that was written is read again
pub written-again : (n : ℕ) → n < 18446744073709551616 → written_number (decimal n) ≡ Some n
written-again n small =
    let value : digits_value 10 (decimal n) ≡ n = (decimal_is_IsNumeral n small).1 in
    ap (where_written (decimal n)) value
    ∙ ap (λ (b : Bool). if b then Some n else None) (ap (λ (b : Bool). b && nat_lt n 18446744073709551616) (same-self (decimal n)) ∙ is_small n small)

alone_here : (front a : List ℕ) → Lacks 10 a → (ended_from front a ≡ []) × (rest_from front a ≡ front ++ a)
unfolding ended_from rest_from
alone_here front [] h = (refl, sym (append-nil front))
alone_here front (c ∷ a) h =
    let rest = alone_here (front ++ c ∷ []) a h.1 in (rw h.0 rest.0, rw h.0 (rest.1 ∙ behind front c a))

-- bytes without a newline are one line, where there are any
pub line-alone : (a : List ℕ) → Lacks 10 a → (ended_from [] a ≡ []) × (rest_from [] a ≡ a)
line-alone a h = alone_here [] a h
