-- Names are words.
use Rattle.std.proofs.Common.{◌≡◌, ℕ, ◌==◌, Bool, true, false, List, [], ◌∷◌, refl, subst, arith}
use Rattle.std.specs.Prelude.{◌&&◌}
use Rattle.std.specs.List.{list_all}
use Rattle.std.proofs.lemmas.Bool.Decides.{nat_tests}
use Rattle.ug_types.specs.Names.{is_name_byte, is_name}
use Rattle.ug_audit_rules.specs.Reports.{Lacks, IsWord}

second : (a b : Bool) → (a && b) ≡ true → b ≡ true
second true b e = e
second false b e = absurd cc

first : (a b : Bool) → (a && b) ≡ true → a ≡ true
first true b e = refl
first false b e = absurd cc

same_number : (a b : ℕ) → (a == b) ≡ true → a ≡ b
same_number a b is = grind (arith, nat_tests, is)

differs : (b c : ℕ) → (is_name_byte b ≡ true → ⊥) → is_name_byte c ≡ true → (c == b) ≡ false
differs b c none is = by (c == b) refl
  where
    by : (t : Bool) → (c == b) ≡ t → t ≡ false
    by true e = absurd (none (subst (λ x. is_name_byte x ≡ true) (same_number c b e) is))
    by false e = refl

all_lack : (b : ℕ) → (is_name_byte b ≡ true → ⊥) → (bytes : List ℕ) → list_all is_name_byte bytes ≡ true → Lacks b bytes
all_lack b none [] is = tt
all_lack b none (c ∷ bytes) is =
    (differs b c none (first (is_name_byte c) (list_all is_name_byte bytes) is), all_lack b none bytes (second (is_name_byte c) (list_all is_name_byte bytes) is))

no_space : is_name_byte 32 ≡ true → ⊥
no_space e = cc

no_newline : is_name_byte 10 ≡ true → ⊥
no_newline e = cc

pub name-word : (name : List ℕ) → is_name name ≡ true → IsWord name
name-word name is =
    let all = second _ (list_all is_name_byte name) is in
    record { no_space = all_lack 32 no_space name all; no_newline = all_lack 10 no_newline name all }
