-- An id in hand, beside those that rows hold.
use Rattle.std.proofs.Common.{◌≡◌, ℕ, ◌+◌, Bool, true, false, Option, Some, None, refl, sym, ◌∙◌, ap, subst, arith}
use Rattle.std.specs.Prelude.{◌==◌, IsSome, IfSome, IfNone}
use Rattle.std.proofs.lemmas.Bool.{eqb-true}
use Rattle.ug_types.specs.declared.route.OutAttrs.{OutAttrs}
use Rattle.ug_intern.specs.Pools.{Held, Pooled, held, uses_of, value_of, IsSame}
use Rattle.ug_group_rules.specs.Packets.{same_out}
use Rattle.ug_types.proofs.Same.{outs_same}
use Rattle.ug_groups.specs.Values.{value_in}
use Rattle.ug_groups.specs.Holders.{one_at}
use Rattle.ug_groups.specs.Entries.{Entries, rows_in, IsKept}
use Rattle.ug_groups.proofs.Accounts.{rows_same, live_in}

-- attributes that are equal are the same
same-out : (a b : OutAttrs) → same_out a b ≡ true → a ≡ b
same-out a b e = outs_same a b e

-- the id of an equal value stands for the value itself
pub taken_value : (old new : Pooled OutAttrs) (id : ℕ) (value : OutAttrs) → IfSome (held old id) (λ x. (same_out value x.value ≡ true) × (value_in new id ≡ Some x.value)) → IfNone (held old id) (value_in new id ≡ Some value) → value_in new id ≡ Some value
taken_value old new id value known fresh = by (held old id) known fresh
  where
    by : (h : Option (Held OutAttrs)) → IfSome h (λ x. (same_out value x.value ≡ true) × (value_in new id ≡ Some x.value)) → IfNone h (value_in new id ≡ Some value) → value_in new id ≡ Some value
    by None known fresh = fresh
    by (Some x) known fresh = known.1 ∙ ap (λ (o : OutAttrs). Some o) (sym (same-out value x.value known.0))

pub taken_others : (old new : Pooled OutAttrs) (id : ℕ) (value : OutAttrs) → IfSome (held old id) (λ x. (same_out value x.value ≡ true) × (value_in new id ≡ Some x.value)) → ((q : ℕ) → (q == id) ≡ false → held new q ≡ held old q)
    → (q : ℕ) → IsSome (held old q) → value_in new q ≡ value_in old q
taken_others old new id value known others q live = by (q == id) refl
  where
    here : (h : Option (Held OutAttrs)) → IsSome h → IfSome h (λ x. (same_out value x.value ≡ true) × (value_in new id ≡ Some x.value)) → value_in new id ≡ value_of h
    here None live known = absurd cc
    here (Some x) live known = known.1

    by : (b : Bool) → (q == id) ≡ b → value_in new q ≡ value_in old q
    by true e = let same = eqb-true q id e in
        subst (λ (k : ℕ). value_in new k ≡ value_in old k) (sym same) (here (held old id) (subst (λ (k : ℕ). IsSome (held old k)) same live) known)
    by false e = ap value_of (others q e)

module _ (next : ℕ) (xs : Entries) where
  pub kept_taken_up : (p q : Pooled OutAttrs) (id : Option ℕ) → IsKept next None p xs → ((n : ℕ) → uses_of (held q n) ≡ uses_of (held p n) + one_at n id) → IsKept next id q xs
  kept_taken_up p q id kept uses = record {
    counted = λ n. (let all = kept.counted n in let more = uses n in let none = nothing n in omega (arith, all, more, none));
    small = kept.small;
    classed = kept.classed;
    short = kept.short;
  }
    where
      nothing : (n : ℕ) → one_at n None ≡ 0
      nothing n = refl

  pub kept_let_go : (p q : Pooled OutAttrs) (id : Option ℕ) → IsKept next id p xs → ((n : ℕ) → uses_of (held q n) + one_at n id ≡ uses_of (held p n)) → IsKept next None q xs
  kept_let_go p q id kept uses = record {
    counted = λ n. (let all = kept.counted n in let less = uses n in let none = nothing n in omega (arith, all, less, none));
    small = kept.small;
    classed = kept.classed;
    short = kept.short;
  }
    where
      nothing : (n : ℕ) → one_at n None ≡ 0
      nothing n = refl

  pub kept_same : (p q : Pooled OutAttrs) (id : Option ℕ) → IsKept next id p xs → IsSame p q → IsKept next id q xs
  kept_same p q id kept same = record {
    counted = λ n. ap uses_of (same n) ∙ kept.counted n;
    small = kept.small;
    classed = kept.classed;
    short = kept.short;
  }

  pub rows_taken_up : (p q : Pooled OutAttrs) → IsKept next None p xs → ((n : ℕ) → IsSome (held p n) → value_in q n ≡ value_in p n) → rows_in q xs ≡ rows_in p xs
  rows_taken_up p q kept values = rows_same p q xs (λ n more. values n (live_in next None p xs kept n more))

  pub rows_let_go : (p q : Pooled OutAttrs) (id : Option ℕ) → IsKept next id p xs → ((n : ℕ) → uses_of (held q n) + one_at n id ≡ uses_of (held p n)) → ((n : ℕ) → IsSome (held q n) → value_in q n ≡ value_in p n) → rows_in q xs ≡ rows_in p xs
  rows_let_go p q id kept uses values = rows_same p q xs (λ n more. values n (live_in next None q xs (kept_let_go p q id kept uses) n more))
