-- Subgroups found by a test.
use Rattle.std.proofs.Common.{◌≡◌, ℕ, ◌+◌, suc, zero, Bool, true, false, List, [], ◌∷◌, slice_get, Option, Some, None, refl, sym, ◌∙◌, ap, subst, arith}
use Rattle.std.specs.Prelude.{◌||◌}
use Rattle.ug_group_rules.specs.Machine.{Subgroup, System, is_there, is_so, any_from, some_so}

none_left : (a b : Bool) → (a || b) ≡ false → a ≡ false
none_left true b e = absurd cc
none_left false b e = refl

none_right : (a b : Bool) → (a || b) ≡ false → b ≡ false
none_right true b e = absurd cc
none_right false b e = e

-- where none passes, this one does not
pub none-from : (test : ℕ → Subgroup → Bool) (first : ℕ) (xs : List (Option Subgroup)) (g : ℕ) (x : Subgroup) → any_from test first xs ≡ false → slice_get xs g ≡ Some (Some x) → test (first + g) x ≡ false
none-from test first [] g x none is = absurd cc
none-from test first (None ∷ xs) zero x none is = absurd cc
none-from test first (None ∷ xs) (suc g) x none is =
    let there : first + 1 + g ≡ first + suc g = omega arith in subst (λ k. test k x ≡ false) there (none-from test (first + 1) xs g x none is)
none-from test first (Some y ∷ xs) zero x none is =
    let same : y ≡ x = cc in
    let here : first + 0 ≡ first = omega arith in
    subst (λ k. test k x ≡ false) (sym here) (subst (λ (z : Subgroup). test first z ≡ false) same (none_left (test first y) (any_from test (first + 1) xs) none))
none-from test first (Some y ∷ xs) (suc g) x none is =
    let there : first + 1 + g ≡ first + suc g = omega arith in
    subst (λ k. test k x ≡ false) there (none-from test (first + 1) xs g x (none_right (test first y) (any_from test (first + 1) xs) none) is)

-- where each fails, none passes
pub none-all : (test : ℕ → Subgroup → Bool) (first : ℕ) (xs : List (Option Subgroup)) → ((g : ℕ) (x : Subgroup) → slice_get xs g ≡ Some (Some x) → test (first + g) x ≡ false) → any_from test first xs ≡ false
none-all test first [] h = refl
none-all test first (None ∷ xs) h =
    none-all test (first + 1) xs (λ g x is. let there : first + suc g ≡ first + 1 + g = omega arith in subst (λ k. test k x ≡ false) there (h (suc g) x is))
none-all test first (Some y ∷ xs) h =
    let here : first + 0 ≡ first = omega arith in
    let head : test first y ≡ false = subst (λ k. test k y ≡ false) here (h 0 y refl) in
    let rest = none-all test (first + 1) xs (λ g x is. let there : first + suc g ≡ first + 1 + g = omega arith in subst (λ k. test k x ≡ false) there (h (suc g) x is)) in
    rw (head, rest) refl

pub none-so : (s : System) (test : ℕ → Subgroup → Bool) (g : ℕ) (x : Subgroup) → some_so s test ≡ false → slice_get s.subgroups g ≡ Some (Some x) → test g x ≡ false
none-so s test g x none is = let here : 0 + g ≡ g = omega arith in subst (λ k. test k x ≡ false) here (none-from test 0 s.subgroups g x none is)

pub none-of : (s : System) (test : ℕ → Subgroup → Bool) → ((g : ℕ) (x : Subgroup) → slice_get s.subgroups g ≡ Some (Some x) → test g x ≡ false) → some_so s test ≡ false
none-of s test h = none-all test 0 s.subgroups (λ g x is. let here : g ≡ 0 + g = omega arith in subst (λ k. test k x ≡ false) here (h g x is))

-- the subgroup that passes
pub record IsFound (s : System) (g : ℕ) (test : Subgroup → Bool) : Type 0 where
  pub subgroup : Subgroup
  pub is : slice_get s.subgroups g ≡ Some (Some subgroup)
  pub passes : test subgroup ≡ true

pub found-so : (s : System) (g : ℕ) (test : Subgroup → Bool) → is_so s g test ≡ true → IsFound s g test
found-so s g test so = by (slice_get s.subgroups g) refl so
  where
    by : (o : Option (Option Subgroup)) → slice_get s.subgroups g ≡ o → is_there test o ≡ true → IsFound s g test
    by None is so = absurd cc
    by (Some None) is so = absurd cc
    by (Some (Some x)) is so = record { subgroup = x; is = is; passes = so }

pub so-found : (s : System) (g : ℕ) (test : Subgroup → Bool) (x : Subgroup) → slice_get s.subgroups g ≡ Some (Some x) → test x ≡ true → is_so s g test ≡ true
so-found s g test x is passes = ap (is_there test) is ∙ passes
