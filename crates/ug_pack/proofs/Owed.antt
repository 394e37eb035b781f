-- The packet that is owed next.
use Rattle.std.proofs.Common.{◌≡◌, ℕ, Bool, true, false, cond, not, nat_eq, List, [], ◌∷◌, slice_get, Option, Some, None, refl, sym, ap, subst, ◌∙◌, arith}
use Rattle.std.specs.Prelude.{is_some}
use Rattle.std.specs.Option.{option_eq}
use Rattle.std.specs.List.{filter, AllByRecursion}
use Rattle.std.specs.Cmp.{IsTotalOrder}
use Rattle.std.specs.FinMap.{IsAntisymmetric}
use Rattle.std.specs.declared.cmp.Ordering.{Ordering}
use Rattle.std.proofs.lemmas.Bool.Decides.{nat_tests}
use Rattle.ug_types.specs.Orders.{key_cmp_total, key_cmp}
use Rattle.ug_types.specs.declared.key.Key.{Key}
use Rattle.ug_adjout.specs.Tables.{has, value_at}
use Rattle.ug_adjout.specs.TableLaws.{all_from_has, has_from_all, at_itself}
use Rattle.ug_adjout.specs.Pending.{AdjRibOut}
use Rattle.ug_adjout.specs.Formatting.{Due, fitting, withdrawals, announcements, of_first_value, value_of_first, alike, announced_next, withdrawn_next, due}
use Rattle.ug_adjout.specs.Formatting.Due.{Nothing, Withdraws, Announces}
use Rattle.ug_pack.proofs.Fits.{all_kept}

itself : (o : Option ℕ) → option_eq nat_eq o o ≡ true
itself None = refl
itself (Some v) = grind (arith, nat_tests)

module _ {K : Type 0} where
  same_some : (a b : K) → Some a ≡ Some b → a ≡ b
  same_some a b e = cc

  first_is : (P : K → Type 0) (keys : List K) (k : K) → AllByRecursion P keys → slice_get keys 0 ≡ Some k → P k
  first_is P [] k h e = absurd cc
  first_is P (x ∷ keys) k h e = subst P (same_some x k e) h.0

  -- the first of its value is the first
  pub first_value : (value : K → Option ℕ) (keys : List K) (k : K) (id : ℕ) → slice_get (of_first_value nat_eq value keys) 0 ≡ Some k → Some id ≡ value_of_first value keys → value k ≡ Some id
  first_value value [] k id e v = absurd cc
  first_value value (x ∷ keys) k id e v =
      let rest = filter (λ q. option_eq nat_eq (value q) (value x)) keys in
      let here : Some x ≡ Some k = sym (ap (λ b. slice_get (cond b (x ∷ rest) rest) 0) (itself (value x))) ∙ e in
      ap value (sym (same_some x k here)) ∙ sym v

  module _ {cmp : K → K → Ordering} (total : IsTotalOrder cmp) (exact : IsAntisymmetric cmp) (a : AdjRibOut K ℕ) where
    -- ---- what is told is pending

    module _ (P : K → Type 0) (h : (q : K) → has cmp a.pending q ≡ true → P q) where
      pub withdrawn_all : AllByRecursion P (withdrawals cmp a)
      withdrawn_all = all_kept P (λ q. not (is_some (value_at cmp a.desired q))) a.pending (all_from_has total exact P a.pending h)

      pub announced_all : AllByRecursion P (announcements cmp a)
      announced_all = all_kept P (λ q. is_some (value_at cmp a.desired q)) a.pending (all_from_has total exact P a.pending h)

      first_all : (value : K → Option ℕ) (keys : List K) → AllByRecursion P keys → AllByRecursion P (of_first_value nat_eq value keys)
      first_all value [] g = tt
      first_all value (x ∷ keys) g = all_kept P (λ q. option_eq nat_eq (value q) (value x)) (x ∷ keys) g

      pub alike_all : AllByRecursion P (alike cmp nat_eq a)
      alike_all = first_all (value_at cmp a.desired) (announcements cmp a) announced_all

      pub withdrawn_first : (k : K) → slice_get (withdrawals cmp a) 0 ≡ Some k → P k
      withdrawn_first k e = first_is P (withdrawals cmp a) k withdrawn_all e

      pub alike_first : (k : K) → slice_get (alike cmp nat_eq a) 0 ≡ Some k → P k
      alike_first k e = first_is P (alike cmp nat_eq a) k alike_all e

    -- ---- the packet

    module _ (weigh : K → ℕ) (space : ℕ) (beside : ℕ → ℕ) where
      withdraws_by : (keys : List K) (k : K) (other : Due K ℕ) → slice_get keys 0 ≡ Some k → withdrawn_next weigh space beside keys other ≡ Withdraws (fitting weigh space keys)
      withdraws_by [] k other e = absurd cc
      withdraws_by (x ∷ keys) k other e = refl

      pub withdraws : (k : K) → slice_get (withdrawals cmp a) 0 ≡ Some k → due cmp nat_eq weigh space beside a ≡ Withdraws (fitting weigh space (withdrawals cmp a))
      withdraws k e = withdraws_by (withdrawals cmp a) k (announced_next weigh space beside (value_of_first (value_at cmp a.desired) (announcements cmp a)) (alike cmp nat_eq a)) e

      none_first : (keys : List K) → slice_get keys 0 ≡ None → keys ≡ []
      none_first [] e = refl
      none_first (x ∷ keys) e = absurd cc

      others : slice_get (withdrawals cmp a) 0 ≡ None → due cmp nat_eq weigh space beside a ≡ announced_next weigh space beside (value_of_first (value_at cmp a.desired) (announcements cmp a)) (alike cmp nat_eq a)
      others none = ap (λ l. withdrawn_next weigh space beside l (announced_next weigh space beside (value_of_first (value_at cmp a.desired) (announcements cmp a)) (alike cmp nat_eq a))) (none_first (withdrawals cmp a) none)

      pub announces : (id : ℕ) → slice_get (withdrawals cmp a) 0 ≡ None → Some id ≡ value_of_first (value_at cmp a.desired) (announcements cmp a)
          → due cmp nat_eq weigh space beside a ≡ Announces id (fitting weigh (beside id) (alike cmp nat_eq a))
      announces id none first = others none ∙ ap (λ o. announced_next weigh space beside o (alike cmp nat_eq a)) (sym first)

      pub nothing : slice_get (withdrawals cmp a) 0 ≡ None → None ≡ value_of_first (value_at cmp a.desired) (announcements cmp a) → due cmp nat_eq weigh space beside a ≡ Nothing
      nothing none first = others none ∙ ap (λ o. announced_next weigh space beside o (alike cmp nat_eq a)) (sym first)
