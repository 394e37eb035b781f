-- What the places say of the keys that are to be formatted next.
use Rattle.std.proofs.Common.{◌≡◌, ℕ, Bool, true, false, cond, not, List, [], ◌∷◌, Option, Some, None, refl, sym, ap, ◌∙◌}
use Rattle.std.specs.Prelude.{is_some, nat_eq, slice_get}
use Rattle.std.specs.Option.{option_eq}
use Rattle.std.specs.List.{filter, AllByRecursion}
use Rattle.std.specs.Ordering.{nat_cmp}
use Rattle.std.specs.Map.{keys_of}
use Rattle.std.specs.Cmp.{IsTotalOrder}
use Rattle.std.specs.FinMap.{IsAntisymmetric}
use Rattle.std.specs.declared.cmp.Ordering.{Ordering}
use Rattle.std.proofs.lemmas.Map.Keys.{sorted_tail}
use Rattle.ug_adjout.specs.Tables.{value_at, IsTable}
use Rattle.ug_adjout.specs.Formatting.{withdrawals, announcements, of_first_value, value_of_first, alike}
use Rattle.ug_adjout.specs.declared.row.Row.{Row}
use Rattle.ug_adjout.specs.declared.waiting.Waiting.{Waiting}
use Rattle.ug_adjout.specs.Waits.{waiting_keys, keys_for, first_announced, value_or}
use Rattle.ug_adjout.specs.Stored.{IsStored, adj_of, projected, desired_of, of_row}
use Rattle.ug_adjout.proofs.Lists.{tail_lookup, first_lookup}
use Rattle.ug_adjout.proofs.Views.{option_itself, desired_at, waiting_desired}

not_some : (o : Option ℕ) → not (is_some o) ≡ option_eq nat_eq o None
not_some None = refl
not_some (Some v) = refl

module _ {K : Type 0} where
  keys_cond : (b : Bool) (e : ℕ × Waiting K) (es : List (ℕ × Waiting K)) → waiting_keys (cond b (e ∷ es) es) ≡ cond b (e.1.key ∷ waiting_keys es) (waiting_keys es)
  keys_cond true e es = refl
  keys_cond false e es = refl

  filter_keys : (test : K → Bool) (pick : ℕ × Waiting K → Bool) (es : List (ℕ × Waiting K)) → AllByRecursion (λ e. test e.1.key ≡ pick e) es → filter test (waiting_keys es) ≡ waiting_keys (filter pick es)
  filter_keys test pick [] h = refl
  filter_keys test pick (e ∷ es) h =
      ap (λ b. cond b (e.1.key ∷ filter test (waiting_keys es)) (filter test (waiting_keys es))) h.0
      ∙ ap (λ l. cond (pick e) (e.1.key ∷ l) l) (filter_keys test pick es h.1) ∙ sym (keys_cond (pick e) e (filter pick es))

  all_such : (P Q : ℕ × Waiting K → Type 0) → ((e : ℕ × Waiting K) → P e → Q e) → (es : List (ℕ × Waiting K)) → AllByRecursion P es → AllByRecursion Q es
  all_such P Q f [] h = tt
  all_such P Q f (e ∷ es) h = (f e h.0, all_such P Q f es h.1)

  all_filtered : (P : ℕ × Waiting K → Type 0) (pick : ℕ × Waiting K → Bool) (es : List (ℕ × Waiting K)) → AllByRecursion P es → AllByRecursion P (filter pick es)
  all_filtered P pick [] h = tt
  all_filtered P pick (e ∷ es) h = step (pick e) (all_filtered P pick es h.1)
    where
      step : (b : Bool) → AllByRecursion P (filter pick es) → AllByRecursion P (cond b (e ∷ filter pick es) (filter pick es))
      step true g = (h.0, g)
      step false g = g

  abbrev announced : ℕ × Waiting K → Bool
  announced e = is_some e.1.value

  abbrev of_value : Option ℕ → ℕ × Waiting K → Bool
  of_value v e = option_eq nat_eq e.1.value v

  twice : (v : ℕ) (b : Bool) (e : ℕ × Waiting K) (es : List (ℕ × Waiting K)) → announced e ≡ b → filter (of_value (Some v)) (filter announced es) ≡ filter (of_value (Some v)) es
      → filter (of_value (Some v)) (cond b (e ∷ filter announced es) (filter announced es)) ≡ filter (of_value (Some v)) (e ∷ es)
  twice v true e es at h = ap (λ l. cond (of_value (Some v) e) (e ∷ l) l) h
  twice v false e es at h = h ∙ sym (ap (λ b. cond b (e ∷ filter (of_value (Some v)) es) (filter (of_value (Some v)) es)) (by e.1.value at))
    where
      by : (o : Option ℕ) → is_some o ≡ false → option_eq nat_eq o (Some v) ≡ false
      by None t = refl
      by (Some x) t = absurd cc

  filtered_twice : (v : ℕ) (es : List (ℕ × Waiting K)) → filter (of_value (Some v)) (filter announced es) ≡ filter (of_value (Some v)) es
  filtered_twice v [] = refl
  filtered_twice v (e ∷ es) = twice v (announced e) e es refl (filtered_twice v es)

  abbrev head_value : List (ℕ × Waiting K) → Option ℕ
  head_value [] = None
  head_value (e ∷ es) = e.1.value

  head_step : (o : Option ℕ) (e : ℕ × Waiting K) (es : List (ℕ × Waiting K)) (rest : Option ℕ) → e.1.value ≡ o → rest ≡ head_value es → value_or o rest ≡ head_value (cond (is_some o) (e ∷ es) es)
  head_step None e es rest at h = h
  head_step (Some v) e es rest at h = sym at

  first_is_head : (es : List (ℕ × Waiting K)) → first_announced es ≡ head_value (filter announced es)
  first_is_head [] = refl
  first_is_head (e ∷ es) = head_step e.1.value e (filter announced es) (first_announced es) refl (first_is_head es)

  some_key_by : (o : Option ℕ) (v : ℕ) (e : ℕ × Waiting K) (es : List (ℕ × Waiting K)) → e.1.value ≡ o → value_or o (first_announced es) ≡ Some v → slice_get (keys_for (Some v) (e ∷ es)) 0 ≡ None
      → (first_announced es ≡ Some v → slice_get (keys_for (Some v) es) 0 ≡ None → ⊥) → ⊥
  some_key_by None v e es at h none more = more h (sym (ap (λ o. slice_get (waiting_keys (cond (option_eq nat_eq o (Some v)) (e ∷ filter (of_value (Some v)) es) (filter (of_value (Some v)) es))) 0) at) ∙ none)
  some_key_by (Some x) v e es at h none more =
      let own : option_eq nat_eq e.1.value (Some v) ≡ true = ap (λ o. option_eq nat_eq o (Some v)) (at ∙ h) ∙ option_itself (Some v) in
      let there = ap (λ b. slice_get (waiting_keys (cond b (e ∷ filter (of_value (Some v)) es) (filter (of_value (Some v)) es))) 0) own in
      let z = sym there ∙ none in cc

  -- the value of the first announcement is some key's
  pub some_key : (v : ℕ) (es : List (ℕ × Waiting K)) → first_announced es ≡ Some v → slice_get (keys_for (Some v) es) 0 ≡ None → ⊥
  some_key v [] h none = cc
  some_key v (e ∷ es) h none = some_key_by e.1.value v e es refl h none (some_key v es)

  module _ (value : K → Option ℕ) where
    abbrev Says : ℕ × Waiting K → Type 0
    Says e = value e.1.key ≡ e.1.value

    withdrawn_keys : (es : List (ℕ × Waiting K)) → AllByRecursion Says es → filter (λ q. not (is_some (value q))) (waiting_keys es) ≡ keys_for None es
    withdrawn_keys es h = filter_keys (λ q. not (is_some (value q))) (of_value None) es (all_such Says _ (λ e s. ap (λ o. not (is_some o)) s ∙ not_some e.1.value) es h)

    announced_keys : (es : List (ℕ × Waiting K)) → AllByRecursion Says es → filter (λ q. is_some (value q)) (waiting_keys es) ≡ waiting_keys (filter announced es)
    announced_keys es h = filter_keys (λ q. is_some (value q)) announced es (all_such Says _ (λ e s. ap is_some s) es h)

    head_says : (es : List (ℕ × Waiting K)) → AllByRecursion Says es → value_of_first value (waiting_keys es) ≡ head_value es
    head_says [] h = refl
    head_says (e ∷ es) h = h.0

    alike_none : (ls : List (ℕ × Waiting K)) → AllByRecursion (λ e. announced e ≡ true) ls → head_value ls ≡ None → of_first_value nat_eq value (waiting_keys ls) ≡ []
    alike_none [] h e = refl
    alike_none (a ∷ ls) h e = absurd (let z = sym h.0 ∙ ap is_some e in cc)

    alike_some : (ls : List (ℕ × Waiting K)) (v : ℕ) → AllByRecursion Says ls → head_value ls ≡ Some v → of_first_value nat_eq value (waiting_keys ls) ≡ waiting_keys (filter (of_value (Some v)) ls)
    alike_some [] v h e = absurd cc
    alike_some (a ∷ ls) v h e =
        filter_keys (λ q. option_eq nat_eq (value q) (value a.1.key)) (of_value (Some v)) (a ∷ ls)
        (all_such Says _ (λ x s. ap (λ o. option_eq nat_eq o (value a.1.key)) s ∙ ap (option_eq nat_eq x.1.value) (h.0 ∙ e)) (a ∷ ls) h)

passing : {X : Type 0} (pick : X → Bool) (es : List X) → AllByRecursion (λ e. pick e ≡ true) (filter pick es)
passing pick [] = tt
passing pick (e ∷ es) = step (pick e) refl (passing pick es)
  where
    step : (b : Bool) → pick e ≡ b → AllByRecursion (λ x. pick x ≡ true) (filter pick es) → AllByRecursion (λ x. pick x ≡ true) (cond b (e ∷ filter pick es) (filter pick es))
    step true at g = (at, g)
    step false at g = g

module _ {K : Type 0} {cmp : K → K → Ordering} (total : IsTotalOrder cmp) (exact : IsAntisymmetric cmp)
    (rows : List (K × Row)) (waiting : List (ℕ × Waiting K)) (next : ℕ) (s : IsStored cmp rows waiting next) where
  abbrev value : K → Option ℕ
  value q = value_at cmp (projected desired_of rows) q

  says : (p : ℕ) (w : Waiting K) → value_at nat_cmp waiting p ≡ Some w → value w.key ≡ w.value
  says p w h = let k = s.known p w h in desired_at total exact rows waiting next s w.key ∙ ap (of_row desired_of) k.1 ∙ waiting_desired k.0 _ k.2

  all_say : (es : List (ℕ × Waiting K)) → IsTable nat_cmp es → ((p : ℕ) (w : Waiting K) → value_at nat_cmp es p ≡ Some w → value w.key ≡ w.value) → AllByRecursion (Says value) es
  all_say [] t h = tt
  all_say (e ∷ es) t h = (h e.0 e.1 (first_lookup e es), all_say es (sorted_tail nat_cmp e.0 (keys_of es) t) (λ p w g. h p w (tail_lookup e es p w t g)))

  all : AllByRecursion (Says value) waiting
  all = all_say waiting s.in_line says

  pub withdrawals_are : withdrawals cmp (adj_of rows waiting) ≡ keys_for None waiting
  withdrawals_are = withdrawn_keys value waiting all

  pub alike_are_none : first_announced waiting ≡ None → alike cmp nat_eq (adj_of rows waiting) ≡ []
  alike_are_none e =
      ap (of_first_value nat_eq value) (announced_keys value waiting all)
      ∙ alike_none value (filter announced waiting) (passing announced waiting) (sym (first_is_head waiting) ∙ e)

  pub alike_are : (v : ℕ) → first_announced waiting ≡ Some v → alike cmp nat_eq (adj_of rows waiting) ≡ keys_for (Some v) waiting
  alike_are v e =
      ap (of_first_value nat_eq value) (announced_keys value waiting all)
      ∙ alike_some value (filter announced waiting) v (all_filtered (Says value) announced waiting all) (sym (first_is_head waiting) ∙ e)
      ∙ ap waiting_keys (filtered_twice v waiting)

  pub first_value_is : value_of_first value (announcements cmp (adj_of rows waiting)) ≡ first_announced waiting
  first_value_is =
      ap (value_of_first value) (announced_keys value waiting all)
      ∙ head_says value (filter announced waiting) (all_filtered (Says value) announced waiting all) ∙ sym (first_is_head waiting)
