-- Values that hold from a version on, with one change more.
use Rattle.std.proofs.Common.{◌≡◌, ℕ, zero, suc, ◌<◌, ◌≤◌, Bool, true, false, List, [], ◌∷◌, ◌++◌, length, get_or, slice_index_or, refl, ◌∙◌, ap, arith}
use Rattle.std.specs.Prelude.{nat_lt, if◌then◌else◌}
use Rattle.std.proofs.lemmas.Bool.{lt-ltb, le-ltb}
use Rattle.ug_audit_rules.specs.declared.since.Since.{Since}
use Rattle.ug_audit_rules.specs.Held.{held, last_held, IsRising}

pub rising-within : {T : Type 0} (low : ℕ) (xs : List (Since T)) (high : ℕ) → IsRising low xs high → low ≤ high
rising-within low [] high h = h
rising-within low (x ∷ xs) high h = let rest = rising-within (suc x.version) xs high h.1 in let first = h.0 in omega arith

pub rising-wider : {T : Type 0} (low : ℕ) (xs : List (Since T)) (high more : ℕ) → high ≤ more → IsRising low xs high → IsRising low xs more
rising-wider low [] high more wide h = omega arith
rising-wider low (x ∷ xs) high more wide h = (h.0, rising-wider (suc x.version) xs high more wide h.1)

pub rising-added : {T : Type 0} (low : ℕ) (xs : List (Since T)) (s : Since T) → IsRising low xs s.version → IsRising low (xs ++ s ∷ []) (suc s.version)
rising-added low [] s h = (h, omega arith)
rising-added low (x ∷ xs) s h = (h.0, rising-added (suc x.version) xs s h.1)

pub held-early : {T : Type 0} (v low : ℕ) (b : T) (xs : List (Since T)) (high : ℕ) → IsRising low xs high → v < low → held v b xs ≡ b
held-early v low b [] high h early = refl
held-early v low b (x ∷ xs) high h early = let first = h.0 in ap (λ (t : Bool). if t then b else held v x.value xs) (lt-ltb v x.version (omega arith))

pub held-before : {T : Type 0} (v : ℕ) (b : T) (xs : List (Since T)) (s : Since T) → v < s.version → held v b (xs ++ s ∷ []) ≡ held v b xs
held-before v b [] s less = ap (λ (t : Bool). if t then b else s.value) (lt-ltb v s.version less)
held-before {T} v b (x ∷ xs) s less = by (nat_lt v x.version) (held-before v x.value xs s less)
  where
    by : (t : Bool) → held v x.value (xs ++ s ∷ []) ≡ held v x.value xs → (if t then b else held v x.value (xs ++ s ∷ [])) ≡ (if t then b else held v x.value xs)
    by true rest = refl
    by false rest = rest

pub held-at : {T : Type 0} (low : ℕ) (b : T) (xs : List (Since T)) (s : Since T) → IsRising low xs s.version → held s.version b (xs ++ s ∷ []) ≡ s.value
held-at low b [] s h = ap (λ (t : Bool). if t then b else s.value) (le-ltb s.version s.version (omega arith))
held-at low b (x ∷ xs) s h =
    let rest = rising-within (suc x.version) xs s.version h.1 in
    ap (λ (t : Bool). if t then b else held s.version x.value (xs ++ s ∷ [])) (le-ltb s.version x.version (omega arith)) ∙ held-at (suc x.version) x.value xs s h.1

pub held-last : {T : Type 0} (v low : ℕ) (b : T) (xs : List (Since T)) (high : ℕ) → IsRising low xs high → high ≤ suc v → held v b xs ≡ last_held b xs
held-last v low b [] high h late = refl
held-last v low b (x ∷ xs) high h late =
    let rest = rising-within (suc x.version) xs high h.1 in
    ap (λ (t : Bool). if t then b else held v x.value xs) (le-ltb v x.version (omega arith)) ∙ held-last v (suc x.version) x.value xs high h.1 late

pub last-added : {T : Type 0} (b : T) (xs : List (Since T)) (s : Since T) → last_held b (xs ++ s ∷ []) ≡ s.value
last-added b [] s = refl
last-added b (x ∷ xs) s = last-added x.value xs s

-- the last of these values
pub last-item : {T : Type 0} (b : T) (xs : List (Since T)) (i : ℕ) (d : Since T) → length xs ≡ suc i → last_held b xs ≡ (get_or xs i d).value
last-item b [] i d size = absurd (omega (arith, size))
last-item b (x ∷ []) zero d size = refl
last-item b (x ∷ []) (suc i) d size = absurd (omega (arith, size))
last-item b (x ∷ y ∷ xs) zero d size = absurd (omega (arith, size))
last-item b (x ∷ y ∷ xs) (suc i) d size = last-item x.value (y ∷ xs) i d (omega (arith, size))

pub last-index : {T : Type 0} (b : T) (xs : List (Since T)) (i : ℕ) (d : Since T) → length xs ≡ suc i → last_held b xs ≡ (slice_index_or xs i d).value
last-index b [] i d size = absurd (omega (arith, size))
last-index b (x ∷ []) zero d size = refl
last-index b (x ∷ []) (suc i) d size = absurd (omega (arith, size))
last-index b (x ∷ y ∷ xs) zero d size = absurd (omega (arith, size))
last-index b (x ∷ y ∷ xs) (suc i) d size = last-index x.value (y ∷ xs) i d (omega (arith, size))
