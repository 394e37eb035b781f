-- Tables of versions between which nothing changed.
use Rattle.std.proofs.Common.{◌≡◌, ◌⊎◌, inl, inr, ℕ, suc, ◌<◌, ◌≤◌, Bool, true, false, List, [], ◌∷◌, length, slice_get, get_or, Some, refl, sym, ◌∙◌, ap, subst, arith}
use Rattle.std.specs.Prelude.{nat_lt, not, IsTrue, IsFalse, if◌then◌else◌}
use Rattle.std.proofs.lemmas.Bool.Decides.{nat_tests}
use Rattle.ug_types.specs.declared.key.Key.{Key}
use Rattle.ug_types.specs.declared.mark.Mark.{Mark}
use Rattle.ug_hearing.specs.declared.change.Change.{Change}
use Rattle.ug_hearing.specs.Pasts.{value_before}
use Rattle.ug_hearing.specs.declared.row.Row.{Row}
use Rattle.ug_hearing.specs.Courses.{changes_of, passed}
use Rattle.ug_hearing.specs.Differences.{IsSame}
use Rattle.ug_hearing.specs.Marked.{IsMarkIn, IsSameAtAll, DiffersAtOne}
use Rattle.ug_hearing.proofs.Between.{got, first-mark}

more : (a b : ℕ) (cs : List Change) → a ≤ b → passed a cs ≤ passed b cs
unfolding passed
more a b [] le = omega arith
more a b (c ∷ cs) le = by (nat_lt a c.place) (nat_lt b c.place) refl refl (more a b cs le)
  where
    by : (x y : Bool) → nat_lt a c.place ≡ x → nat_lt b c.place ≡ y → passed a cs ≤ passed b cs → (if x then 0 else suc (passed a cs)) ≤ (if y then 0 else suc (passed b cs))
    by true true e f rest = omega arith
    by true false e f rest = omega arith
    by false true e f rest = absurd (grind (arith, nat_tests, e, f, le))
    by false false e f rest = omega arith

level : (low high v : ℕ) (cs : List Change) → low ≤ v → v ≤ high → passed low cs ≡ passed high cs → passed v cs ≡ passed low cs
level low high v cs above below same = let up = more low v cs above in let down = more v high cs below in omega (arith, same, up, down)

-- a change between two versions, or as many changes up to both
pub between : (a b : ℕ) (cs : List Change) → a ≤ b → (passed a cs ≡ passed b cs) ⊎ ((i : ℕ) × (c : Change) × (slice_get cs i ≡ Some c) × (a < c.place) × (c.place ≤ b))
unfolding passed
between a b [] le = inl refl
between a b (c ∷ cs) le = by (nat_lt a c.place) (nat_lt b c.place) refl refl (between a b cs le)
  where
    by : (x y : Bool) → nat_lt a c.place ≡ x → nat_lt b c.place ≡ y → (passed a cs ≡ passed b cs) ⊎ ((i : ℕ) × (d : Change) × (slice_get cs i ≡ Some d) × (a < d.place) × (d.place ≤ b))
        → ((if x then 0 else suc (passed a cs)) ≡ (if y then 0 else suc (passed b cs))) ⊎ ((i : ℕ) × (d : Change) × (slice_get (c ∷ cs) i ≡ Some d) × (a < d.place) × (d.place ≤ b))
    by true true e f rest = inl refl
    by true false e f rest = inr (0, c, refl, grind (arith, nat_tests, e), grind (arith, nat_tests, f))
    by false true e f rest = absurd (grind (arith, nat_tests, e, f, le))
    by false false e f (inl same) = inl (ap suc same)
    by false false e f (inr there) = inr (suc there.0, there.1, there.2, there.3, there.4)

module _ (rows : List (Key × Row)) (entries : List (Key × List Change)) (from : ℕ) where
  pub same-version : (a b : ℕ) (key : Key) → passed a (changes_of entries key) ≡ passed b (changes_of entries key) → IsSame rows entries from a key → IsSame rows entries from b key
  same-version a b key level is = is ∙ ap (λ n. value_before n (changes_of entries key)) level

  pub differs-here : (syncs all : List Mark) (begin to i : ℕ) (d : Mark) (key : Key) → syncs ≡ all → begin ≤ i → i < to → i < length syncs → (IsSame rows entries from (get_or syncs i d).version key → ⊥)
      → DiffersAtOne rows entries from all begin to key
  differs-here syncs all begin to i d key is low high there differs =
      subst (λ (ms : List Mark). DiffersAtOne rows entries from ms begin to key) is (get_or syncs i d, record { place = i; there = got syncs i d there; low = low; high = high }, differs)

  -- between the least version and the greatest nothing changed
  pub same-between : (syncs all : List Mark) (begin to : ℕ) (d : Mark) (key : Key) (low high : ℕ) → syncs ≡ all → begin < to → begin < length syncs
      → ((m : Mark) → IsMarkIn all begin to m → (low ≤ m.version) × (m.version ≤ high)) → passed low (changes_of entries key) ≡ passed high (changes_of entries key) → IsSame rows entries from (get_or syncs begin d).version key
      → IsSameAtAll rows entries from all begin to key
  same-between syncs all begin to d key low high is less there span same here = λ m mark.
      let own = span (get_or syncs begin d) (subst (λ (ms : List Mark). IsMarkIn ms begin to (get_or syncs begin d)) is (first-mark syncs begin to d less there)) in
      let other = span m mark in
      let cs = changes_of entries key in
      same-version (get_or syncs begin d).version m.version key (level low high (get_or syncs begin d).version cs own.0 own.1 same ∙ sym (level low high m.version cs other.0 other.1 same)) here

pub not-true : (b : Bool) → IsTrue (not b) → IsTrue b → ⊥
not-true true is other = absurd cc
not-true false is other = absurd cc

pub not-false : (b : Bool) → IsFalse (not b) → IsTrue b
not-false true is = refl
not-false false is = absurd cc
