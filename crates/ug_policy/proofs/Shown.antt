-- What holds of entries on the heap holds of the rules that they show.
use Rattle.std.proofs.Common.{◌≡◌, ℕ, ◌+◌, Bool, true, false, ◌&&◌, not, nat_lt, List, [], ◌∷◌, length, map, Option, Some, None, refl, ap, ◌∙◌, arith}
use Rattle.std.specs.Prelude.{nat_le, if◌then◌else◌}
use Rattle.std.specs.List.{list_all}
use Rattle.std.proofs.lemmas.Bool.Decides.{nat_tests}
use Rattle.std.proofs.lemmas.List.{length-map}
use Rattle.ug_policy.specs.Order.{placed, ascending, repeats, rises_above, rises}
use Rattle.ug_policy.proofs.Sorting.{ascending_rises, ascending_all, ascending_length, ascending_sum}
use Rattle.ug_policy.proofs.Refusals.{not_not}
use Rattle.ug_policy.specs.declared.map_entry.MapEntry.{MapEntry}
use Rattle.ug_policy.specs.Rules.{MapRule, rule_of, rule_seq}
use Rattle.ug_policy.specs.Refusals.{is_ahead, is_known, count_in, has_few_sets, map_refusal, refusal_in_order, sets_origin, SetOrigins, IsRouteMap}

abbrev seq_of : MapEntry → ℕ
seq_of e = e.seq

above_shown : (n : ℕ) (es : List MapEntry) → rises_above rule_seq n (map rule_of es) ≡ rises_above seq_of n es
above_shown n [] = refl
above_shown n (e ∷ es) = ap (λ (b : Bool). nat_lt n e.seq && b) (above_shown e.seq es)

pub rises_shown : (es : List MapEntry) → rises rule_seq (map rule_of es) ≡ rises seq_of es
rises_shown [] = refl
rises_shown (e ∷ es) = above_shown e.seq es

pub length_shown : (es : List MapEntry) → length (map rule_of es) ≡ length es
length_shown es = length-map es rule_of

placed_shown : (e : MapEntry) (es : List MapEntry) → map rule_of (placed seq_of e es) ≡ placed rule_seq (rule_of e) (map rule_of es)
placed_shown e [] = refl
placed_shown e (f ∷ es) = one (nat_le e.seq f.seq) (placed_shown e es)
  where
    one : (b : Bool) → map rule_of (placed seq_of e es) ≡ placed rule_seq (rule_of e) (map rule_of es)
        → map rule_of (if b then e ∷ f ∷ es else f ∷ placed seq_of e es) ≡ (if b then rule_of e ∷ rule_of f ∷ map rule_of es else rule_of f ∷ placed rule_seq (rule_of e) (map rule_of es))
    one true h = refl
    one false h = ap (λ (rs : List MapRule). rule_of f ∷ rs) h

pub ascending_shown : (es : List MapEntry) → map rule_of (ascending seq_of es) ≡ ascending rule_seq (map rule_of es)
ascending_shown [] = refl
ascending_shown (e ∷ es) = placed_shown e (ascending seq_of es) ∙ ap (placed rule_seq (rule_of e)) (ascending_shown es)

few_as_given : (rules : List MapRule) → has_few_sets (ascending rule_seq rules) ≡ has_few_sets rules
few_as_given rules =
    rw (ascending_sum rule_seq (λ (r : MapRule). count_in r.set_prepend) rules, ascending_sum rule_seq (λ (r : MapRule). count_in r.set_communities + count_in r.add_communities) rules) refl

pub refusal_as_given : (names : List (List ℕ)) (rules : List MapRule) → refusal_in_order names (ascending rule_seq rules) ≡ map_refusal names rules
refusal_as_given names rules =
    rw (ap not (ascending_rises rule_seq rules) ∙ not_not (repeats rule_seq rules), ascending_all rule_seq is_ahead rules, ascending_length rule_seq rules, ascending_all rule_seq (is_known names) rules, few_as_given rules) refl

abbrev first_of_five : Bool → Bool → Bool → Bool → Bool → Option ℕ
first_of_five one two three four five = if one then Some 1 else if two then Some 2 else if three then Some 3 else if four then Some 4 else if five then Some 5 else None

none_of : (one two three four five : Bool) → first_of_five (not one) (not two) three (not four) (not five) ≡ None → (one ≡ true) × (two ≡ true) × (three ≡ false) × (five ≡ true)
none_of false two three four five e = absurd cc
none_of true false three four five e = absurd cc
none_of true true true four five e = absurd cc
none_of true true false false five e = absurd cc
none_of true true false true false e = absurd cc
none_of true true false true true e = (refl, refl, refl, refl)

in_bounds : (n : ℕ) → nat_lt 256 n ≡ false → nat_le n 256 ≡ true
in_bounds n e = grind (arith, nat_tests)

pub kept : (names : List (List ℕ)) (rules : List MapRule) → refusal_in_order names rules ≡ None → SetOrigins rules → IsRouteMap rules
kept names rules e origins =
    let parts = none_of (rises rule_seq rules) (list_all is_ahead rules) (nat_lt 256 (length rules)) (list_all (is_known names) rules) (has_few_sets rules) e in
    rw (parts.0, parts.1, in_bounds (length rules) parts.2, parts.3, origins) refl

pub origins_as_given : (rules : List MapRule) → SetOrigins rules → SetOrigins (ascending rule_seq rules)
origins_as_given rules h = ascending_all rule_seq sets_origin rules ∙ h
