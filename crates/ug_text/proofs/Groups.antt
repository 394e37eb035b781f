-- Groups of sixteen bits, the room that eight of them take, and the text of those that are 0.
use Rattle.std.proofs.Common.{◌≡◌, ℕ, zero, suc, ◌+◌, ◌-◌, ◌/◌, ◌%◌, ◌^◌, ◌<◌, ◌≤◌, false, List, [], ◌∷◌, ◌++◌, length, drop, Some, None, refl, ap, ◌∙◌, append_assoc, arith}
use Rattle.std.specs.Prelude.{codes}
use Rattle.std.specs.Fmt.{digits}
use Rattle.std.proofs.Math.Nat.{pow-le-pow_right}
use Rattle.ug_text.specs.Cutting.{◌>>=◌}
use Rattle.ug_text.specs.Texts.{group, group_text, four_groups, three_groups, grouped}
use Rattle.ug_text.specs.Addresses.{Groups, with_group, with_zeros, cut_at_gap}

-- four hexadecimal digits fit sixteen bits
pub sixteen_below : (i : ℕ) → i ≤ 4 → 16 ^ i ≤ 65536
sixteen_below i le = pow-le-pow_right {n = 16} (omega arith) {i = i} {j = 4} le

-- seven groups leave room for one more
pub groups_below : (i : ℕ) → i ≤ 7 → 65536 ^ i ≤ 2 ^ 112
groups_below i le = pow-le-pow_right {n = 65536} (omega arith) {i = i} {j = 7} le

-- less than two bytes have no two colons
pub gap_none : (text : List ℕ) (i : ℕ) → length text ≤ i + 1 → cut_at_gap (drop i text) ≡ None
unfolding cut_at_gap
gap_none [] zero le = refl
gap_none (b ∷ []) zero le = refl
gap_none (b ∷ c ∷ text) zero le = absurd (omega arith)
gap_none [] (suc i) le = refl
gap_none (b ∷ text) (suc i) le = gap_none text i (omega arith)

pub zeros_none : (n : ℕ) (groups : Groups) → n ≤ 0 → with_zeros n groups ≡ Some groups
unfolding with_zeros
zeros_none zero groups none = refl
zeros_none (suc n) groups none = absurd (omega (arith, none))

pub zeros_step : (n : ℕ) (groups : Groups) → 0 < n → with_zeros n groups ≡ (with_group groups 0 >>= λ more. with_zeros (n - 1) more)
unfolding with_zeros
zeros_step zero groups some = absurd (omega arith)
zeros_step (suc n) groups some = let e : suc n - 1 ≡ n = omega arith in rw e refl

abbrev spelled : ℕ → ℕ → ℕ → ℕ → List ℕ
spelled a b c d = digits 16 false a ++ codes ":" ++ digits 16 false b ++ codes ":" ++ digits 16 false c ++ codes ":" ++ digits 16 false d

zeros_behind : (text : List ℕ) → text ++ codes ":" ++ codes "0" ++ codes ":" ++ codes "0:0:0:0" ≡ text ++ codes ":0:0:0:0:0"
zeros_behind text =
    ap (λ (l : List ℕ). l ++ codes ":" ++ codes "0:0:0:0") (append_assoc text (codes ":") (codes "0")) ∙ ap (λ (l : List ℕ). l ++ codes "0:0:0:0") (append_assoc text (codes ":0") (codes ":"))
    ∙ append_assoc text (codes ":0:") (codes "0:0:0:0")

pub three_are_eight : (bits : ℕ) → bits % 2 ^ 80 ≡ 0 → grouped bits ≡ three_groups (bits / 2 ^ 64)
unfolding grouped four_groups three_groups group_text digits
three_are_eight bits e =
    let upper = λ (n : ℕ). spelled (group 3 (bits / 2 ^ 64)) (group 2 (bits / 2 ^ 64)) (group 1 (bits / 2 ^ 64)) n in
    let high : group 0 (bits / 2 ^ 64) ≡ 0 = omega arith in
    let a : group 3 bits ≡ 0 = omega arith in
    let b : group 2 bits ≡ 0 = omega arith in
    let c : group 1 bits ≡ 0 = omega arith in
    let d : group 0 bits ≡ 0 = omega arith in
    ap (λ (n : ℕ). upper n ++ codes ":" ++ four_groups bits) high
    ∙ ap (λ (n : ℕ). upper 0 ++ codes ":" ++ spelled n (group 2 bits) (group 1 bits) (group 0 bits)) a
    ∙ ap (λ (n : ℕ). upper 0 ++ codes ":" ++ spelled 0 n (group 1 bits) (group 0 bits)) b
    ∙ ap (λ (n : ℕ). upper 0 ++ codes ":" ++ spelled 0 0 n (group 0 bits)) c
    ∙ ap (λ (n : ℕ). upper 0 ++ codes ":" ++ spelled 0 0 0 n) d
    ∙ zeros_behind (digits 16 false (group 3 (bits / 2 ^ 64)) ++ codes ":" ++ digits 16 false (group 2 (bits / 2 ^ 64)) ++ codes ":" ++ digits 16 false (group 1 (bits / 2 ^ 64)))
