-- The status line of a configuration that is refused is one line.
use Rattle.std.proofs.Common.{◌≡◌, ℕ, ◌+◌, ◌^◌, ◌<◌, ◌≤◌, ◌/◌, ◌%◌, ◌==◌, ◌||◌, nat_lt, not, Bool, true, false, ◌&&◌, List, [], ◌∷◌, ◌++◌, map, refl, ap, ◌∙◌, sym, arith, codes, if◌then◌else◌}
use Rattle.std.specs.List.{list_all}
use Rattle.std.specs.Fmt.{decimal}
use Rattle.std.proofs.lemmas.Fmt.{decimal_by_steps}
use Rattle.std.proofs.lemmas.List.Folds.{list_all-append, list_all-map}
use Rattle.std.proofs.lemmas.Bool.Decides.{nat_tests}
use Rattle.ug_report.specs.Statuses.{shown, config_text, is_within_line, IsOneLine}

both_hold : (a b : Bool) → a ≡ true → b ≡ true → (a && b) ≡ true
both_hold a b e f = cc

digit_within : (n : ℕ) → n < 10 → is_within_line (48 + n) ≡ true
digit_within n h = grind (arith, nat_tests)

number_within : (n : ℕ) → n < 2 ^ 64 → list_all is_within_line (decimal n) ≡ true
number_within n h = decimal_by_steps (λ _ ds. list_all is_within_line ds ≡ true)
    (λ n small. both_hold _ true (digit_within n small) refl)
    (λ n ds ten more. list_all-append is_within_line ds ((48 + n % 10) ∷ []) ∙ both_hold _ _ more (both_hold _ true (digit_within (n % 10) (omega arith)) refl))
    n h

shown_within : (byte : ℕ) → is_within_line (shown byte) ≡ true
shown_within byte = one (nat_lt byte 32) (byte == 127) refl refl
  where
    one : (p q : Bool) → nat_lt byte 32 ≡ p → (byte == 127) ≡ q → is_within_line (if p || q then 63 else byte) ≡ true
    one true q e f = refl
    one false true e f = refl
    one false false e f = grind (arith, nat_tests)

field_within : (field : List ℕ) → list_all is_within_line (map shown field) ≡ true
field_within [] = refl
field_within (byte ∷ field) = both_hold _ _ (shown_within byte) (field_within field)

pub config_line : (number : ℕ) (field : List ℕ) → number < 2 ^ 64 → IsOneLine (config_text number field)
unfolding config_text
config_line number field h =
    let head = codes "status 2 config " ++ (decimal number ++ codes " ") in
    record {
      said = head ++ map shown field;
      text_is = search;
      within = list_all-append is_within_line head (map shown field) ∙ both_hold _ _ (within_head number h) (field_within field);
    }
  where
    within_head : (number : ℕ) → number < 2 ^ 64 → list_all is_within_line (codes "status 2 config " ++ (decimal number ++ codes " ")) ≡ true
    within_head number h = list_all-append is_within_line (decimal number) (codes " ") ∙ both_hold _ true (number_within number h) refl
