-- Changes in the order of their versions.
use Rattle.std.proofs.Common.{◌≡◌, inl, inr, ℕ, zero, suc, ◌+◌, ◌<◌, ◌≤◌, Bool, true, false, cond, List, [], ◌∷◌, ◌++◌, length, map, slice_get, get_or, Some, refl, sym, ◌∙◌, ap, subst, arith}
use Rattle.std.specs.List.{Contains}
use Rattle.std.specs.Map.{keys_of}
use Rattle.std.specs.List.Sorted.{IsPermutation, IsNonDecreasingBy}
use Rattle.std.proofs.lemmas.Bool.{cases_lt}
use Rattle.std.proofs.lemmas.List.Sorted.{Contains-permutation}
use Rattle.ug_types.specs.declared.key.Key.{Key}
use Rattle.ug_types.specs.Keys.{same_key}
use Rattle.ug_hearing.specs.declared.change.Change.{Change}
use Rattle.ug_hearing.specs.Keyed.{value_for, IsPlaceOf, items_or_none}
use Rattle.ug_hearing.specs.Courses.{changes_of}
use Rattle.ug_hearing.proofs.Keys.{same_is}
use Rattle.ug_hearing.specs.declared.dated.Dated.{Dated}
use Rattle.ug_hearing.specs.Watched.{dated_at, dates_from}
use Rattle.ug_hearing.proofs.Between.{got, within}

same_some : {T : Type 0} (a b : T) → Some a ≡ Some b → a ≡ b
same_some a b e = cc

-- one of the first so many and one more is among the first, or it is that one
pub last-one : (dates : List Dated) (i j : ℕ) (d e : Dated) → i < length dates → slice_get dates j ≡ Some e → j < i + 1 → (j < i → ⊥) → e ≡ get_or dates i d
last-one dates i j d e less is high low =
    let at : j ≡ i = elim (cases_lt j i) [ inl sooner ↦ absurd (low sooner) | inr later ↦ omega arith ] in
    same_some e (get_or dates i d) (sym is ∙ (ap (λ k. slice_get dates k) at ∙ got dates i d less))

in_front : (xs ys : List Dated) (j : ℕ) (d : Dated) → slice_get xs j ≡ Some d → slice_get (xs ++ ys) j ≡ Some d
in_front [] ys j d is = absurd cc
in_front (x ∷ xs) ys zero d is = is
in_front (x ∷ xs) ys (suc j) d is = in_front xs ys j d is

further : (xs ys : List Dated) (j : ℕ) (d : Dated) → slice_get ys j ≡ Some d → (i : ℕ) × (slice_get (xs ++ ys) i ≡ Some d)
further [] ys j d is = (j, is)
further (x ∷ xs) ys j d is = let rest = further xs ys j d is in (suc rest.0, rest.1)

mapped : (n : ℕ) (cs : List Change) (i : ℕ) (c : Change) → slice_get cs i ≡ Some c → slice_get (map (dated_at n) cs) i ≡ Some (dated_at n c)
mapped n [] i c is = absurd cc
mapped n (x ∷ cs) zero c is = let same : x ≡ c = same_some x c is in ap (λ (y : Change). Some (dated_at n y)) same
mapped n (x ∷ cs) (suc i) c is = mapped n cs i c is

-- each change of each key is in the list of all
pub all-in : (n : ℕ) (entries : List (Key × List Change)) (q : Key) (i : ℕ) (c : Change) → slice_get (changes_of entries q) i ≡ Some c
    → (j : ℕ) × (p : ℕ) × (slice_get (dates_from n entries) j ≡ Some (dated_at (n + p) c)) × IsPlaceOf q (keys_of entries) p
all-in n [] q i c is = absurd cc
all-in n (e ∷ entries) q i c is = by (same_key q e.0) refl is (λ is. all-in (n + 1) entries q i c is)
  where
    by : (b : Bool) → same_key q e.0 ≡ b → slice_get (items_or_none (cond b (Some e.1) (value_for entries q))) i ≡ Some c
        → (slice_get (changes_of entries q) i ≡ Some c → (j : ℕ) × (p : ℕ) × (slice_get (dates_from (n + 1) entries) j ≡ Some (dated_at (n + 1 + p) c)) × IsPlaceOf q (keys_of entries) p)
        → (j : ℕ) × (p : ℕ) × (slice_get (dates_from n (e ∷ entries)) j ≡ Some (dated_at (n + p) c)) × IsPlaceOf q (keys_of (e ∷ entries)) p
    by true same is rest =
        let here : n ≡ n + 0 = omega arith in (
          i,
          0,
          subst (λ m. slice_get (dates_from n (e ∷ entries)) i ≡ Some (dated_at m c)) here (in_front (map (dated_at n) e.1) (dates_from (n + 1) entries) i (dated_at n c) (mapped n e.1 i c is)),
          ap Some (sym (same_is q e.0 same)),
        )
    by false other is rest =
        let r = rest is in
        let there = further (map (dated_at n) e.1) (dates_from (n + 1) entries) r.0 (dated_at (n + 1 + r.1) c) r.2 in
        let on : n + 1 + r.1 ≡ n + suc r.1 = omega arith in (there.0, suc r.1, subst (λ m. slice_get (dates_from n (e ∷ entries)) there.0 ≡ Some (dated_at m c)) on there.1, r.3)

contains : (xs : List Dated) (j : ℕ) (d : Dated) → slice_get xs j ≡ Some d → Contains xs d
contains [] j d is = absurd cc
contains (x ∷ xs) zero d is = (0, omega arith, same_some x d is)
contains (x ∷ xs) (suc j) d is = let rest = contains xs j d is in (suc rest.0, (let less = rest.1 in omega arith), rest.2)

pub in-sorted : (xs ys : List Dated) (d : Dated) (j : ℕ) → IsPermutation xs ys → slice_get xs j ≡ Some d → (i : ℕ) × (slice_get ys i ≡ Some d)
in-sorted xs ys d j same is = let there = Contains-permutation xs ys d same (contains xs j d is) in (there.0, got ys there.0 d there.1 ∙ ap Some there.2)

-- versions do not fall
pub later : (dates : List Dated) (i j : ℕ) (d e : Dated) → IsNonDecreasingBy (λ (x : Dated). x.version) dates → slice_get dates i ≡ Some d → slice_get dates j ≡ Some e → i ≤ j → d.version ≤ e.version
later dates i j d e rise one other low =
    let first : get_or dates i d ≡ d = same_some (get_or dates i d) d (sym (got dates i d (within dates i d one)) ∙ one) in
    let second : get_or dates j d ≡ e = same_some (get_or dates j d) e (sym (got dates j d (within dates j e other)) ∙ other) in
    subst (λ (x : Dated). x.version ≤ e.version) first (subst (λ (x : Dated). (get_or dates i d).version ≤ x.version) second (rise i j d low (within dates j e other)))

-- where one is of a later version, none behind it is of this one or before
pub not-beyond : (dates : List Dated) (version i j : ℕ) (e : Dated) → IsNonDecreasingBy (λ (x : Dated). x.version) dates → slice_get dates j ≡ Some e → i ≤ j → ((d : Dated) → slice_get dates i ≡ Some d → version < d.version)
    → e.version ≤ version → ⊥
not-beyond dates version i j e rise is far behind few =
    let less = within dates j e is in
    let there : slice_get dates i ≡ Some (get_or dates i e) = got dates i e (omega arith) in
    let more = behind (get_or dates i e) there in
    let up = later dates i j (get_or dates i e) e rise there is far in
    omega arith
