-- Keys are formatted one after the other.
use Rattle.std.proofs.Common.{◌≡◌, ℕ, ◌+◌, ◌≤◌, true, false, List, [], ◌∷◌, length, sym, ap, subst, ◌∙◌, arith, nat_eq}
use Rattle.std.specs.List.{AllByRecursion, IsDistinct}
use Rattle.std.specs.Ordering.{eq_by_cmp}
use Rattle.std.specs.BTreeMap.{is_at}
use Rattle.ug_types.specs.declared.key.Key.{Key}
use Rattle.ug_types.specs.declared.route.OutAttrs.{OutAttrs}
use Rattle.ug_intern.specs.Pools.{Pooled, held, uses_of}
use Rattle.ug_adjout.specs.Tables.{has, value_at}
use Rattle.ug_adjout.specs.TableLaws.{at_turned}
use Rattle.ug_adjout.specs.Pending.{AdjRibOut, IsExact, with_formatted, with_all_formatted}
use Rattle.ug_adjout.specs.PendingLaws.{exact-with_formatted, waits-with_formatted}
use Rattle.ug_pack.specs.Ready.{key_order}
use Rattle.ug_pack.proofs.Keys.{key_total, key_exact}
use Rattle.ug_groups.specs.Holders.{IsCounted, IsMoved, HasRoom}
use Rattle.ug_groups.specs.FamilyRibs.{FamilyRib, AreDue}
use Rattle.ug_groups.proofs.Holders.{counted_moved, moved_on}

module _ (a : AdjRibOut Key ℕ) (key : Key) (exact : IsExact key_order nat_eq a) where
  still_waiting : (q : Key) → is_at (key_order q) key ≡ false → has key_order (with_formatted key_order nat_eq a key).pending q ≡ has key_order a.pending q
  still_waiting q apart =
      (exact-with_formatted key_total key_exact nat_eq a key exact).all q ∙ waits-with_formatted key_total key_exact nat_eq a.formatted a.desired a.forced key q (value_at key_order a.desired key) apart
      ∙ sym (exact.all q)

  all_waiting : (keys : List Key) → AllByRecursion (λ q. eq_by_cmp key_order key q ≡ false) keys → AllByRecursion (λ q. has key_order a.pending q ≡ true) keys
      → AllByRecursion (λ q. has key_order (with_formatted key_order nat_eq a key).pending q ≡ true) keys
  all_waiting [] apart all = tt
  all_waiting (q ∷ keys) apart all = (still_waiting q (at_turned key_total key_exact q key ∙ apart.0) ∙ all.0, all_waiting keys apart.1 all.1)

apart_of : (key : Key) (keys : List Key) → IsDistinct (eq_by_cmp key_order) (key ∷ keys) → AllByRecursion (λ q. eq_by_cmp key_order key q ≡ false) keys × IsDistinct (eq_by_cmp key_order) keys
unfolding IsDistinct
apart_of key keys once = once

pub told_step : (o later : FamilyRib) (key : Key) (keys : List Key) → IsExact key_order nat_eq o.adj → later.adj ≡ with_formatted key_order nat_eq o.adj key → later.family ≡ o.family → AreDue o (key ∷ keys) → AreDue later keys
told_step o later key keys exact adj family told =
    let once = apart_of key keys told.once in
    record {
      waiting = subst (λ (a : AdjRibOut Key ℕ). AllByRecursion (λ q. has key_order a.pending q ≡ true) keys) (sym adj) (all_waiting o.adj key exact keys once.0 told.waiting.1);
      own = subst (λ f. AllByRecursion (λ (q : Key). q.prefix.family ≡ f) keys) (sym family) told.own.1;
      once = once.1;
    }

-- what is so while the keys from `rest` on are still to be formatted
pub record IsTelling (old pool : Pooled OutAttrs) (first o : FamilyRib) (all rest : List Key) : Type 0 where
  pub adj : with_all_formatted key_order nat_eq o.adj rest ≡ with_all_formatted key_order nat_eq first.adj all
  pub family : o.family ≡ first.family
  pub exact : IsExact key_order nat_eq o.adj
  pub keys : AreDue o rest
  pub counted : IsCounted pool o.adj
  pub room : HasRoom (length rest) pool
  pub moved : IsMoved old pool first.adj o.adj

-- one key more is formatted
pub one_told : (old pool next : Pooled OutAttrs) (first o later : FamilyRib) (all : List Key) (key : Key) (rest : List Key) → IsTelling old pool first o all (key ∷ rest)
    → later.adj ≡ with_formatted key_order nat_eq o.adj key → later.family ≡ o.family → IsMoved pool next o.adj (with_formatted key_order nat_eq o.adj key) → ((id : ℕ) → uses_of (held next id) ≤ uses_of (held pool id) + 1)
    → IsTelling old next first later all rest
one_told old pool next first o later all key rest so adj family moved most =
    let step = subst (IsMoved pool next o.adj) (sym adj) moved in
    record {
      adj = ap (λ a. with_all_formatted key_order nat_eq a rest) adj ∙ so.adj;
      family = family ∙ so.family;
      exact = subst (IsExact key_order nat_eq) (sym adj) (exact-with_formatted key_total key_exact nat_eq o.adj key so.exact);
      keys = told_step o later key rest so.exact adj family so.keys;
      counted = counted_moved pool next o.adj later.adj so.counted step;
      room = λ id. let was = so.room id in let now = most id in omega (arith, was, now);
      moved = moved_on old pool next first.adj o.adj later.adj so.moved step;
    }
