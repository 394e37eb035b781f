-- What an Adj-RIB-Out keeps: its list is exact, each forced key has a row, and all rows are of keys of its sessions.
use Rattle.std.proofs.Common.{◌≡◌, ℕ, nat_eq, Bool, true, false, not, List, [], ◌∷◌, Option, refl, sym, ap, subst, ◌∙◌}
use Rattle.std.specs.Prelude.{is_some, IsSome, ◌&&◌, ◌||◌}
use Rattle.std.specs.BTreeMap.{is_at}
use Rattle.ug_types.specs.declared.family.Family.{Family}
use Rattle.ug_types.specs.declared.capabilities.Capabilities.{Capabilities}
use Rattle.ug_types.specs.declared.key.Key.{Key}
use Rattle.ug_outbound.specs.declared.key.GroupKey.{GroupKey}
use Rattle.ug_adjout.specs.Tables.{has, value_at, with_value, IsTable}
use Rattle.ug_adjout.specs.TableLaws.{value_at-here, value_at-other, one_key, at_turned, has-filter, has-joined, has-keys_of}
use Rattle.ug_adjout.specs.Pending.{AdjRibOut, nothing_out, with_desired, with_formatted, with_all_formatted, with_all_forced}
use Rattle.ug_adjout.specs.PendingLaws.{exact-nothing_out, exact-with_desired, exact-with_formatted, exact-with_all_forced}
use Rattle.ug_pack.specs.Ready.{key_order, IsKeyOf}
use Rattle.ug_pack.proofs.Keys.{key_total, key_exact}
use Rattle.ug_groups.specs.FamilyRibs.{FamilyRib}
use Rattle.ug_groups.specs.Sent.{session_of}
use Rattle.ug_groups.specs.Standings.{AreOwn, AreShown, IsKept}
use Rattle.std.specs.Map.{keys_of}

own_with : (key : GroupKey) (rows : List (Key × ℕ)) (k : Key) (w : Option ℕ) → IsTable key_order rows → AreOwn key rows → (IsSome w → IsKeyOf key.family key.add_path k) → AreOwn key (with_value key_order rows k w)
own_with key rows k w sorted own here q some = by (is_at (key_order q) k) refl
  where
    by : (b : Bool) → is_at (key_order q) k ≡ b → IsKeyOf key.family key.add_path q
    by true e =
        let same : q ≡ k = one_key key_total key_exact q k e in
        subst (IsKeyOf key.family key.add_path) (sym same)
        (here (subst (λ (o : Option ℕ). IsSome o) (value_at-here key_total key_exact rows k w sorted) (subst (λ x. IsSome (value_at key_order (with_value key_order rows k w) x)) same some)))
    by false e = own q (subst (λ (o : Option ℕ). IsSome o) (value_at-other key_total key_exact rows k q w e) some)

-- ---- forced keys have rows

shown_by : (a b : Bool) → (a && b) ≡ true → (a ≡ true) × (b ≡ true)
shown_by true true e = (refl, refl)
shown_by true false e = absurd cc
shown_by false b e = absurd cc

shown_desired : (a : AdjRibOut Key ℕ) (k : Key) (w : Option ℕ) → AreShown (with_desired key_order nat_eq a k w)
shown_desired a k w q h =
    (shown_by _ _ (sym (has-filter key_total key_exact (λ x. is_some (value_at key_order a.formatted x) || is_some (value_at key_order (with_value key_order a.desired k w) x)) a.forced q) ∙ h)).0

shown_formatted : (a : AdjRibOut Key ℕ) (k : Key) → AreShown a → AreShown (with_formatted key_order nat_eq a k)
shown_formatted a k shown q h = by (is_at (key_order k) q) refl (shown_by _ _ (sym (has-filter key_total key_exact (λ x. not (is_at (key_order k) x)) a.forced q) ∙ h))
  where
    by : (b : Bool) → is_at (key_order k) q ≡ b → (not (is_at (key_order k) q) ≡ true) × (has key_order a.forced q ≡ true)
        → (is_some (value_at key_order (with_value key_order a.formatted k (value_at key_order a.desired k)) q) || is_some (value_at key_order a.desired q)) ≡ true
    by true e p = absurd (let z = sym (ap not e) ∙ p.0 in cc)
    by false e p =
        ap (λ o. is_some o || is_some (value_at key_order a.desired q)) (value_at-other key_total key_exact a.formatted k q (value_at key_order a.desired k) (at_turned key_total key_exact q k ∙ e)) ∙ shown q p.1

shown_forced : (a : AdjRibOut Key ℕ) → AreShown (with_all_forced key_order nat_eq a)
shown_forced a q h =
    sym (has-joined key_total key_exact (keys_of a.formatted) (keys_of a.desired) q ∙ ap (λ b. b || has key_order (keys_of a.desired) q) (has-keys_of key_total key_exact a.formatted q)
    ∙ ap (λ b. is_some (value_at key_order a.formatted q) || b) (has-keys_of key_total key_exact a.desired q)) ∙ h

pub kept_told : (key : GroupKey) (family : Family) (keys : List Key) (a : AdjRibOut Key ℕ) → IsKept key family a → IsKept key family (with_all_formatted key_order nat_eq a keys)
kept_told key family [] a kept = kept
kept_told key family (k ∷ keys) a kept = kept_told key family keys (with_formatted key_order nat_eq a k) (record {
  family_is = kept.family_is;
  exact = exact-with_formatted key_total key_exact nat_eq a k kept.exact;
  shown = shown_formatted a k kept.shown;
  formatted_own = own_with key a.formatted k (value_at key_order a.desired k) kept.exact.formatted_rows kept.formatted_own (kept.desired_own k);
  desired_own = kept.desired_own;
})

pub kept_forced : (key : GroupKey) (family : Family) (a : AdjRibOut Key ℕ) → IsKept key family a → IsKept key family (with_all_forced key_order nat_eq a)
kept_forced key family a kept = record {
  family_is = kept.family_is;
  exact = exact-with_all_forced key_total key_exact nat_eq a kept.exact;
  shown = shown_forced a;
  formatted_own = kept.formatted_own;
  desired_own = kept.desired_own;
}

pub kept_desired : (key : GroupKey) (family : Family) (a : AdjRibOut Key ℕ) (k : Key) (w : Option ℕ) → IsKept key family a → IsKeyOf key.family key.add_path k → IsKept key family (with_desired key_order nat_eq a k w)
kept_desired key family a k w kept own = record {
  family_is = kept.family_is;
  exact = exact-with_desired key_total key_exact nat_eq a k w kept.exact;
  shown = shown_desired a k w;
  formatted_own = kept.formatted_own;
  desired_own = own_with key a.desired k w kept.exact.desired_rows kept.desired_own (λ _. own);
}

pub kept_nothing : (key : GroupKey) → IsKept key key.family nothing_out
kept_nothing key = record {
  family_is = refl;
  exact = exact-nothing_out nat_eq;
  shown = λ q h. absurd cc;
  formatted_own = λ q some. absurd cc;
  desired_own = λ q some. absurd cc;
}

pub kept_as : (key : GroupKey) (o p : FamilyRib) → o ≡ p → IsKept key p.family p.adj → IsKept key o.family o.adj
kept_as key o p e kept = subst (λ (x : FamilyRib). IsKept key x.family x.adj) (sym e) kept

pub kept_by : (key : GroupKey) (f g : Family) (a b : AdjRibOut Key ℕ) → f ≡ g → a ≡ b → IsKept key g b → IsKept key f a
kept_by key f g a b e h kept = subst (λ x. IsKept key x a) (sym e) (subst (IsKept key g) (sym h) kept)

pub kept_rekeyed : (key old : GroupKey) (family : Family) (a : AdjRibOut Key ℕ) → session_of key ≡ session_of old → IsKept old family a → IsKept key family a
kept_rekeyed key old family a same kept =
    let f : old.family ≡ key.family = ap (λ (c : Capabilities). c.family) (sym same) in
    let p : old.add_path ≡ key.add_path = ap (λ (c : Capabilities). c.add_path) (sym same) in
    record {
      family_is = kept.family_is ∙ f;
      exact = kept.exact;
      shown = kept.shown;
      formatted_own = λ q some. subst (λ x. IsKeyOf x key.add_path q) f (subst (λ x. IsKeyOf old.family x q) p (kept.formatted_own q some));
      desired_own = λ q some. subst (λ x. IsKeyOf x key.add_path q) f (subst (λ x. IsKeyOf old.family x q) p (kept.desired_own q some));
    }
