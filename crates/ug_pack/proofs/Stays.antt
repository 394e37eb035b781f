-- What is ready for its next packet stays so.
use Rattle.std.proofs.Common.{◌≡◌, ◌⊎◌, inl, inr, ℕ, nat_eq, Bool, true, false, not, ◌&&◌, ◌||◌, List, [], ◌∷◌, ◌++◌, Option, Some, None, refl, sym, ap, subst, ◌∙◌}
use Rattle.std.specs.Option.{IfSome}
use Rattle.std.specs.List.{filter}
use Rattle.std.specs.BTreeMap.{is_at}
use Rattle.std.proofs.lemmas.Bool.{or_cases}
use Rattle.ug_types.specs.declared.family.Family.{Family}
use Rattle.ug_types.specs.declared.key.Key.{Key}
use Rattle.ug_types.specs.declared.route.OutAttrs.{OutAttrs}
use Rattle.ug_adjout.specs.Tables.{has, value_at, with_value, IsTable}
use Rattle.ug_adjout.specs.TableLaws.{has-append, has-filter, one_key, value_at-here, value_at-other}
use Rattle.ug_adjout.specs.Pending.{AdjRibOut, requeue, with_desired, with_formatted}
use Rattle.ug_intern.specs.Pools.{Pooled, held}
use Rattle.ug_pack.specs.Ready.{key_order, IsKeyOf, IsLive, IsReady}
use Rattle.ug_pack.proofs.Keys.{key_total, key_exact}

both_true : (a b : Bool) → (a && b) ≡ true → b ≡ true
both_true true b e = e
both_true false b e = absurd cc

or_false : (b : Bool) → (b || false) ≡ b
or_false true = refl
or_false false = refl

-- who is pending was so, or changed
in_requeue : (test : Key → Bool) (old : List Key) (key q : Key) → has key_order (requeue key_order test old (key ∷ [])) q ≡ true → (has key_order old q ≡ true) ⊎ (q ≡ key)
in_requeue test old key q h =
    let new = λ (k : Key). test k && not (has key_order old k) in
    elim (or_cases (has key_order (filter test old) q) (has key_order (filter new (key ∷ [])) q) (sym (has-append key_total key_exact (filter test old) (filter new (key ∷ [])) q) ∙ h)) [
      | inl was ↦ inl (both_true (test q) (has key_order old q) (sym (has-filter key_total key_exact test old q) ∙ was))
      | inr came ↦ inr (one_key key_total key_exact q key (sym (or_false (is_at (key_order q) key)) ∙ both_true (new q) (has key_order (key ∷ []) q) (sym (has-filter key_total key_exact new (key ∷ []) q) ∙ came)))
    ]

module _ (family : Family) (add_path : Bool) (pool : Pooled OutAttrs) (a : AdjRibOut Key ℕ) (key : Key) (ready : IsReady family add_path pool a) where
  same_id : (o : Option ℕ) (id : ℕ) → o ≡ Some id → IfSome o (λ i. IsLive family (held pool i)) → IsLive family (held pool id)
  same_id None id e live = absurd cc
  same_id (Some i) id e live = subst (λ o. IfSome o (λ n. IsLive family (held pool n))) e live

  module _ (value : Option ℕ) (table : IsTable key_order a.desired) (own : IsKeyOf family add_path key) (live : IfSome value (λ id. IsLive family (held pool id))) where
    abbrev later : AdjRibOut Key ℕ
    later = with_desired key_order nat_eq a key value

    keys_by : (q : Key) → (has key_order a.pending q ≡ true) ⊎ (q ≡ key) → IsKeyOf family add_path q
    keys_by q (inl was) = ready.keys q was
    keys_by q (inr same) = subst (IsKeyOf family add_path) (sym same) own

    values_by : (b : Bool) (q : Key) (id : ℕ) → is_at (key_order q) key ≡ b → (has key_order a.pending q ≡ true) ⊎ (q ≡ key) → value_at key_order later.desired q ≡ Some id → IsLive family (held pool id)
    values_by true q id at pending e =
        let same = one_key key_total key_exact q key at in
        same_id value id (sym (value_at-here key_total key_exact a.desired key value table) ∙ ap (value_at key_order later.desired) (sym same) ∙ e) live
    values_by false q id at (inl was) e = ready.values q id was (sym (value_at-other key_total key_exact a.desired key q value at) ∙ e)
    values_by false q id at (inr same) e = same_id value id (sym (value_at-here key_total key_exact a.desired key value table) ∙ ap (value_at key_order later.desired) (sym same) ∙ e) live

    pub stays_desired : IsReady family add_path pool later
    stays_desired = record {
      keys = λ q h. keys_by q (in_requeue _ a.pending key q h);
      values = λ q id h e. values_by (is_at (key_order q) key) q id refl (in_requeue _ a.pending key q h) e;
    }

  module _ (pending : has key_order a.pending key ≡ true) where
    was_pending : (q : Key) → (has key_order a.pending q ≡ true) ⊎ (q ≡ key) → has key_order a.pending q ≡ true
    was_pending q (inl was) = was
    was_pending q (inr same) = ap (has key_order a.pending) same ∙ pending

    pub stays_formatted : IsReady family add_path pool (with_formatted key_order nat_eq a key)
    stays_formatted = record {
      keys = λ q h. ready.keys q (was_pending q (in_requeue _ a.pending key q h));
      values = λ q id h e. ready.values q id (was_pending q (in_requeue _ a.pending key q h)) e;
    }
