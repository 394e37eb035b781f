-- What decimal digits spell.
use Rattle.std.proofs.Common.{◌≡◌, ℕ, suc, ◌+◌, ◌-◌, ◌*◌, ◌<◌, ◌≤◌, ◌^◌, ◌⊎◌, inl, inr, Bool, true, false, List, [], ◌∷◌, length, drop, get_or, Option, Some, None, refl, sym, ap, subst, ◌∙◌, arith}
use Rattle.std.specs.Prelude.{◌==◌, ◌||◌, ◌&&◌, not, nat_lt, IfSome, IfNone, if◌then◌else◌}
use Rattle.std.specs.Fmt.{decimal}
use Rattle.std.specs.Char.{digit_value}
use Rattle.std.specs.Str.Parse.{AllDigits, digits_value, digits_value_after}
use Rattle.std.proofs.Math.Seq.{drop-cons}
use Rattle.std.proofs.lemmas.Bool.{eqb-true, eq-eqb, ltb-true, lt-ltb, cases_lt}
use Rattle.std.proofs.lemmas.Bool.Decides.{nat_tests}
use Rattle.std.proofs.lemmas.Fmt.{decimal_is_IsNumeral, decimal-digits_value, first_decimal, decimal_digit}
use Rattle.std.proofs.lemmas.Str.Parse.{IsNumeralModel, numerals_by_value, tells_digits}
use Rattle.ug_types.specs.Bytes.{same_bytes}
use Rattle.ug_audit_rules.specs.Reports.{where_written, written_number}
use Rattle.ug_audit_rules.specs.Numbers.{begins_well}

own : IsNumeralModel (AllDigits 10) (digits_value 10)
own = numerals_by_value (AllDigits 10) tells_digits

-- more digits spell no less
pub grows : (ds : List ℕ) (n : ℕ) → n ≤ digits_value_after 10 n ds
grows [] n = omega arith
grows (d ∷ ds) n = let more = grows ds (n * 10 + digit_value d) in omega arith

pub is_digit : (d : ℕ) → 48 ≤ d → d ≤ 57 → digit_value d ≡ d - 48
is_digit d low high = grind (arith, nat_tests)

-- ---- a further digit

step_at : (word : List ℕ) (i value : ℕ) → i < length word → digits_value_after 10 value (drop i word) ≡ digits_value 10 word → value * 10 + digit_value (get_or word i 0) ≤ digits_value 10 word
step_at word i value inside spells =
    let next = ap (λ (ds : List ℕ). digits_value_after 10 value ds) (drop-cons word i 0 inside) in
    let more = grows (drop (suc i) word) (value * 10 + digit_value (get_or word i 0)) in
    omega (arith, next, more, spells)

pub tens_over : (word : List ℕ) (i value : ℕ) → i < length word → digits_value_after 10 value (drop i word) ≡ digits_value 10 word → (value * 10 < 18446744073709551616 → ⊥) → 18446744073709551616 ≤ digits_value 10 word
tens_over word i value inside spells over = let at = step_at word i value inside spells in omega (arith, at, over)

pub sum_over : (word : List ℕ) (i value tens : ℕ) → i < length word → digits_value_after 10 value (drop i word) ≡ digits_value 10 word → 48 ≤ get_or word i 0 → get_or word i 0 ≤ 57 → tens ≡ value * 10
    → (tens + (get_or word i 0 - 48) < 18446744073709551616 → ⊥) → 18446744073709551616 ≤ digits_value 10 word
sum_over word i value tens inside spells low high is over =
    let at = step_at word i value inside spells in
    let digit = is_digit (get_or word i 0) low high in
    omega (arith, at, digit, is, over)

-- ---- equal bytes

pub bytes_same : (a b : List ℕ) → same_bytes a b ≡ true → a ≡ b
bytes_same [] [] e = refl
bytes_same [] (y ∷ b) e = absurd cc
bytes_same (x ∷ a) [] e = absurd cc
bytes_same (x ∷ a) (y ∷ b) e = by (x == y) refl e (λ e. bytes_same a b e)
  where
    by : (t : Bool) → (x == y) ≡ t → (t && same_bytes a b) ≡ true → (same_bytes a b ≡ true → a ≡ b) → x ∷ a ≡ y ∷ b
    by true is e more = let one = eqb-true x y is in let rest = more e in cc
    by false is e more = absurd cc

pub same_self : (a : List ℕ) → same_bytes a a ≡ true
same_self [] = refl
same_self (x ∷ a) = ap (λ (t : Bool). t && same_bytes a a) (eq-eqb x x refl) ∙ same_self a

-- ---- a number as a report writes it

-- the word is empty, or a zero leads others
first_zero : (word : List ℕ) → begins_well word ≡ false → (word ≡ []) ⊎ ((get_or word 0 0 ≡ 48) × (length word ≡ 1 → ⊥))
first_zero [] e = inl refl
first_zero (b ∷ bytes) e = by (b == 48) (length (b ∷ bytes) == 1) refl refl e
  where
    by : (t u : Bool) → (b == 48) ≡ t → (length (b ∷ bytes) == 1) ≡ u → (not t || u) ≡ false → (b ∷ bytes ≡ []) ⊎ ((b ≡ 48) × (length (b ∷ bytes) ≡ 1 → ⊥))
    by true false is one e = inr (eqb-true b 48 is, λ same. absurd (let yes = eq-eqb (length (b ∷ bytes)) 1 same in let differ = sym yes ∙ one in cc))
    by true true is one e = absurd cc
    by false u is one e = absurd cc

not_one : (word : List ℕ) → begins_well word ≡ true → (0 < length word) × (get_or word 0 0 ≡ 48 → length word ≡ 1)
not_one [] e = absurd cc
not_one (b ∷ bytes) e = (omega arith, λ zero. by (b == 48) (length (b ∷ bytes) == 1) (eq-eqb b 48 zero) refl e)
  where
    by : (t u : Bool) → t ≡ true → (length (b ∷ bytes) == 1) ≡ u → (not t || u) ≡ true → length (b ∷ bytes) ≡ 1
    by true true is one e = eqb-true (length (b ∷ bytes)) 1 one
    by true false is one e = absurd cc
    by false u is one e = absurd cc

-- ---- a number as a report writes it

-- a word that no number is written as
refuted : (word : List ℕ) → (decimal (digits_value 10 word) ≡ word → digits_value 10 word < 18446744073709551616 → ⊥) → written_number word ≡ None
refuted word never = by (same_bytes (decimal n) word) (nat_lt n 18446744073709551616) refl refl
  where
    n : ℕ
    n = digits_value 10 word

    by : (t u : Bool) → same_bytes (decimal (digits_value 10 word)) word ≡ t → nat_lt (digits_value 10 word) 18446744073709551616 ≡ u → (if t && u then Some (digits_value 10 word) else None) ≡ None
    by true true same small = absurd (never (bytes_same (decimal (digits_value 10 word)) word same) (ltb-true (digits_value 10 word) 18446744073709551616 small))
    by true false same small = refl
    by false u same small = refl

is_written : (word : List ℕ) (n : ℕ) → n ≡ digits_value 10 word → decimal n ≡ word → n < 18446744073709551616 → written_number word ≡ Some n
is_written word n is same small =
    ap (λ (k : ℕ). where_written word k) (sym is)
    ∙ ap (λ (t : Bool). if t && nat_lt n 18446744073709551616 then Some n else None) (ap (λ (w : List ℕ). same_bytes (decimal n) w) (sym same) ∙ same_self (decimal n))
    ∙ ap (λ (u : Bool). if true && u then Some n else None) (lt-ltb n 18446744073709551616 small)

pub no_number : (word : List ℕ) → begins_well word ≡ false → written_number word ≡ None
no_number word e = refuted word (λ same small. against same small (first_zero word e))
  where
    against : decimal (digits_value 10 word) ≡ word → digits_value 10 word < 18446744073709551616 → (word ≡ []) ⊎ ((get_or word 0 0 ≡ 48) × (length word ≡ 1 → ⊥)) → ⊥
    against same small (inl none) =
        let some = (decimal_is_IsNumeral (digits_value 10 word) small).0.0 in
        let len : length (decimal (digits_value 10 word)) ≡ length word = ap (λ (w : List ℕ). length w) same in
        let zero : length word ≡ 0 = ap (λ (w : List ℕ). length w) none in
        absurd (omega (arith, some, len, zero))
    against same small (inr (leads, long)) = elim (cases_lt 0 (digits_value 10 word)) [
      | inl some ↦ (
          let first = first_decimal (digits_value 10 word) some small in
          let same_first : get_or (decimal (digits_value 10 word)) 0 0 ≡ get_or word 0 0 = ap (λ (w : List ℕ). get_or w 0 0) same in
          absurd (omega (arith, first, same_first, leads)))
      | inr none ↦ (
          let zero : digits_value 10 word ≡ 0 = omega (arith, none) in
          long (ap (λ (w : List ℕ). length w) (sym same ∙ (ap decimal zero ∙ decimal_digit 0 (omega arith)))))
    ]

pub is_number : (word : List ℕ) (n : ℕ) → begins_well word ≡ true → AllDigits 10 word → n ≡ digits_value 10 word → n < 2 ^ 64 → written_number word ≡ Some n
is_number word n begins digits is fits =
    let first = not_one word begins in
    let small : n < 18446744073709551616 = omega (arith, fits) in
    is_written word n is (ap decimal is ∙ decimal-digits_value own word digits first.0 first.1 (omega (arith, fits, is))) small

pub too_large : (word : List ℕ) → (AllDigits 10 word → 2 ^ 64 ≤ digits_value 10 word) → written_number word ≡ None
too_large word large = refuted word (λ same small.
    let numeral = (decimal_is_IsNumeral (digits_value 10 word) (omega (arith, small))).0 in
    let many = large (subst (λ (w : List ℕ). AllDigits 10 w) same numeral.1) in
    omega (arith, many, small))

-- what a word was read as
pub read_is : (word : List ℕ) (o : Option ℕ) → begins_well word ≡ true → IfSome o (λ n. AllDigits 10 word) → IfSome o (λ n. n ≡ digits_value 10 word) → IfSome o (λ n. n < 2 ^ 64) → IfNone o (AllDigits 10 word → 2 ^ 64 ≤ digits_value 10 word)
    → o ≡ written_number word
read_is word None begins digits is fits large = sym (too_large word large)
read_is word (Some n) begins digits is fits large = sym (is_number word n begins digits is fits)
