-- A number in hexadecimal is its upper digits and then its last one.
use Rattle.std.proofs.Common.{◌≡◌, ℕ, suc, ◌/◌, ◌%◌, ◌<◌, ◌≤◌, Bool, true, false, List, [], ◌∷◌, ◌++◌, refl, sym, ap, ◌∙◌, ◌==◌, nat_lt, arith}
use Rattle.std.proofs.lemmas.Bool.Decides.{nat_tests}
use Rattle.std.specs.Fmt.{digits, digits_onto, digit_glyph}
use Rattle.std.proofs.lemmas.Fmt.{hex_one_digit}
use Rattle.ug_text.specs.Texts.{last_digit}

pub one_digit : (n : ℕ) → n < 16 → digits 16 false n ≡ last_digit n
one_digit n small = let same : n % 16 ≡ n = omega arith in hex_one_digit false n small ∙ ap (λ d. digit_glyph false d ∷ []) (sym same)

onto_last : (k n : ℕ) (acc : List ℕ) → n < 16 → digits_onto (suc k) 16 false n acc ≡ last_digit n ++ acc
onto_last k n acc small = let e : (n / 16 == 0) ≡ true = grind (arith, small) in rw e refl

onto_more : (k n : ℕ) (acc : List ℕ) → 16 ≤ n → digits_onto (suc k) 16 false n acc ≡ digits_onto k 16 false (n / 16) (last_digit n ++ acc)
onto_more k n acc large = let e : (n / 16 == 0) ≡ false = grind (arith, large) in rw e refl

two : (n : ℕ) → 16 ≤ n → n / 16 < 16 → digits 16 false n ≡ digits 16 false (n / 16) ++ last_digit n
unfolding digits
two n large small =
    onto_more 63 n [] large ∙ onto_last 62 (n / 16) (last_digit n) small
    ∙ ap (λ (l : List ℕ). l ++ last_digit n) (sym (onto_last 63 (n / 16) [] small))

three : (n : ℕ) → 16 ≤ n → 16 ≤ n / 16 → n / 16 / 16 < 16 → digits 16 false n ≡ digits 16 false (n / 16) ++ last_digit n
unfolding digits
three n large more small =
    onto_more 63 n [] large ∙ onto_more 62 (n / 16) (last_digit n) more ∙ onto_last 61 (n / 16 / 16) (last_digit (n / 16) ++ last_digit n) small
    ∙ ap (λ (l : List ℕ). l ++ last_digit n) (sym (onto_more 63 (n / 16) [] more ∙ onto_last 62 (n / 16 / 16) (last_digit (n / 16)) small))

four : (n : ℕ) → 16 ≤ n → 16 ≤ n / 16 → 16 ≤ n / 16 / 16 → n / 16 / 16 / 16 < 16 → digits 16 false n ≡ digits 16 false (n / 16) ++ last_digit n
unfolding digits
four n large more most small =
    onto_more 63 n [] large ∙ onto_more 62 (n / 16) (last_digit n) more ∙ onto_more 61 (n / 16 / 16) (last_digit (n / 16) ++ last_digit n) most
    ∙ onto_last 60 (n / 16 / 16 / 16) (last_digit (n / 16 / 16) ++ last_digit (n / 16) ++ last_digit n) small
    ∙ ap (λ (l : List ℕ). l ++ last_digit n)
    (sym (onto_more 63 (n / 16) [] more ∙ onto_more 62 (n / 16 / 16) (last_digit (n / 16)) most ∙ onto_last 61 (n / 16 / 16 / 16) (last_digit (n / 16 / 16) ++ last_digit (n / 16)) small))

-- sixteen bits have at most four digits
pub spelled : (n : ℕ) → 16 ≤ n → n < 65536 → digits 16 false n ≡ digits 16 false (n / 16) ++ last_digit n
spelled n large small = first (nat_lt (n / 16) 16) refl
  where
    second : (b : Bool) → nat_lt (n / 16 / 16) 16 ≡ b → 16 ≤ n / 16 → digits 16 false n ≡ digits 16 false (n / 16) ++ last_digit n
    second true e more = three n large more (grind (arith, nat_tests, e))
    second false e more = four n large more (grind (arith, nat_tests, e)) (omega (arith, small))

    first : (b : Bool) → nat_lt (n / 16) 16 ≡ b → digits 16 false n ≡ digits 16 false (n / 16) ++ last_digit n
    first true e = two n large (grind (arith, nat_tests, e))
    first false e = second (nat_lt (n / 16 / 16) 16) refl (grind (arith, nat_tests, e))
