-- Members by rising number, each with its cursor: where a search ends, and what is read, written, put in and taken out there.
use Rattle.std.proofs.Common.{◌≡◌, ℕ, zero, suc, ◌+◌, ◌<◌, ◌≤◌, ◌==◌, ◌%◌, ◌^◌, Bool, true, false, cond, List, [], ◌∷◌, ◌++◌, length, take, get_or, slice_get, set, insert, remove, Option, Some, None, refl, sym, ap, ◌∙◌, subst, arith, nat_lt}
use Rattle.std.specs.Prelude.{is_some, IsSome, slice_index_or}
use Rattle.std.specs.Map.{lookup, remove_entry, keys_of}
use Rattle.std.specs.List.{AllByRecursion}
use Rattle.std.specs.List.Sorted.{IsStrictlySortedBy, IsPartitionedBy}
use Rattle.std.specs.BTreeMap.{insert_entry}
use Rattle.std.specs.Cmp.{nat_cmp_is}
use Rattle.std.specs.Ordering.{nat_cmp, is_eq, match_ordering}
use Rattle.std.specs.declared.cmp.Ordering.{Ordering}
use Rattle.std.specs.declared.cmp.Ordering.TheVariants.{Less, Equal, Greater}
use Rattle.std.proofs.lemmas.Bool.{cond-true, cond-false}
use Rattle.std.proofs.lemmas.Bool.Decides.{nat_tests}
use Rattle.std.proofs.lemmas.Cmp.{nat_cmp_total, ranked}
use Rattle.std.proofs.lemmas.List.{get_or-map, take_more, take_all}
use Rattle.std.proofs.lemmas.List.Sorted.{IsPartitionedBy-ltb}
use Rattle.std.proofs.lemmas.Map.Entries.{length-keys_of, lookup_head, lookup_tail, lookup_at_gap}
use Rattle.std.proofs.lemmas.Map.Keys.{sorted_tail, non_decreasing_from_sorted, below_from_sorted}
use Rattle.std.proofs.lemmas.Option.{slice_get-get_or, get_or_from_slice_get}
use Rattle.ug_queue.specs.Cursors.{lower_count}
use Rattle.ug_queue.specs.Queues.{is_member}

abbrev Entries : Type 0
Entries = List (ℕ × ℕ)

abbrev AreSorted : Entries → Type 0
AreSorted es = IsStrictlySortedBy nat_cmp (keys_of es)

-- ---- where a search ends

is_below : (a b : ℕ) → a < b → nat_lt a b ≡ true
is_below a b lt = grind (arith, nat_tests)

not_below : (a b : ℕ) → b ≤ a → nat_lt a b ≡ false
not_below a b le = grind (arith, nat_tests)

pub parted : (m : ℕ) (es : Entries) → AreSorted es → IsPartitionedBy (λ (e : ℕ × ℕ). nat_lt e.0 m) es
parted m es s =
    IsPartitionedBy-ltb (λ (e : ℕ × ℕ). e.0) es m
    (λ i j d le lt.
    let rising = non_decreasing_from_sorted (keys_of es) s i j d.0 le (omega (arith, lt, length-keys_of es)) in
    omega (arith, rising, get_or-map (λ (e : ℕ × ℕ). e.0) es i d d.0 (omega (arith, le, lt)), get_or-map (λ (e : ℕ × ℕ). e.0) es j d d.0 lt))

pub place_is : (m : ℕ) (es : Entries) (i : ℕ) → i ≤ length es → ((k : ℕ) (d : ℕ × ℕ) → 0 ≤ k → k < i → nat_lt (slice_index_or es k d).0 m ≡ true)
    → ((k : ℕ) (d : ℕ × ℕ) → i ≤ k → k < length es → nat_lt (slice_index_or es k d).0 m ≡ false) → i ≡ lower_count es m
place_is m [] zero w f g = refl
place_is m [] (suc i) w f g = absurd (omega (arith, w))
place_is m (e ∷ es) zero w f g =
    let high : nat_lt e.0 m ≡ false = g 0 e (omega arith) (omega arith) in
    rw high refl
place_is m (e ∷ es) (suc i) w f g =
    let low : nat_lt e.0 m ≡ true = f 0 e (omega arith) (omega arith) in
    rw low (ap suc (place_is m es i (omega (arith, w)) (λ k d z lt. f (suc k) d (omega arith) (omega (arith, lt))) (λ k d le lt. g (suc k) d (omega (arith, le)) (omega (arith, lt)))))

-- ---- the first entry, and the others

module _ (m : ℕ) (e : ℕ × ℕ) (es : Entries) where
  ends_here : m ≤ e.0 → lower_count (e ∷ es) m ≡ 0
  ends_here le = cond-false (nat_lt e.0 m) (suc (lower_count es m)) 0 (not_below e.0 m le)

  ends_later : e.0 < m → lower_count (e ∷ es) m ≡ suc (lower_count es m)
  ends_later lt = cond-true (nat_lt e.0 m) (suc (lower_count es m)) 0 (is_below e.0 m lt)

  lower : nat_cmp m e.0 ≡ Less → m < e.0
  lower at = ranked m e.0 Less (sym at)

  same : nat_cmp m e.0 ≡ Equal → m ≡ e.0
  same at = ranked m e.0 Equal (sym at)

  higher : nat_cmp m e.0 ≡ Greater → e.0 < m
  higher at = ranked m e.0 Greater (sym at)

  less_at : (y : ℕ × ℕ) → Some e ≡ Some y → nat_cmp m e.0 ≡ Less → nat_cmp m y.0 ≡ Less
  less_at y is at = cc

  none_here : AreSorted (e ∷ es) → nat_cmp m e.0 ≡ Less → lookup (is_member m) (e ∷ es) ≡ None
  none_here s at = lookup_at_gap nat_cmp_total m (e ∷ es) 0 s (λ j y lt is. absurd (omega (arith, lt))) (λ y is. less_at y is at)

  inserted_by : (v : ℕ) (r : Ordering) → nat_cmp m e.0 ≡ r → insert_entry nat_cmp (e ∷ es) m v ≡ match_ordering r ((m, v) ∷ e ∷ es) ((e.0, v) ∷ es) (e ∷ insert_entry nat_cmp es m v)
  inserted_by v r at = ap (λ o. match_ordering o ((m, v) ∷ e ∷ es) ((e.0, v) ∷ es) (e ∷ insert_entry nat_cmp es m v)) at

-- ---- a member

-- the member's entry stands at i
pub record IsFound (m : ℕ) (es : List (ℕ × ℕ)) (i : ℕ) : Type 0 where
  pub within : i < length es
  pub read : (d : ℕ × ℕ) → slice_get es i ≡ Some (m, (get_or es i d).1)
  pub written : (d : ℕ × ℕ) (v : ℕ) → set es i ((get_or es i d).0, v) ≡ insert_entry nat_cmp es m v
  pub removed : remove es i ≡ remove_entry (is_member m) es

found_here : (m : ℕ) (e : ℕ × ℕ) (es : Entries) → nat_cmp m e.0 ≡ Equal → IsFound m (e ∷ es) 0
found_here m e es at = record {
  within = omega arith;
  read = λ d. ap (λ k. Some (k, e.1)) (sym (same m e es at));
  written = λ d v. sym (inserted_by m e es v Equal at);
  removed = sym (cond-true (is_member m e.0) es (e ∷ remove_entry (is_member m) es) (ap is_eq at));
}

found_later : (m : ℕ) (e : ℕ × ℕ) (es : Entries) (i : ℕ) → nat_cmp m e.0 ≡ Greater → IsFound m es i → IsFound m (e ∷ es) (suc i)
found_later m e es i at found = record {
  within = omega (arith, found.within);
  read = found.read;
  written = λ d v. ap (λ l. e ∷ l) (found.written d v) ∙ sym (inserted_by m e es v Greater at);
  removed = ap (λ l. e ∷ l) found.removed ∙ sym (cond-false (is_member m e.0) es (e ∷ remove_entry (is_member m) es) (ap is_eq at));
}

found_step : (m : ℕ) (e : ℕ × ℕ) (es : Entries) (r : Ordering) → nat_cmp m e.0 ≡ r → AreSorted (e ∷ es) → IsSome (lookup (is_member m) (e ∷ es))
    → (IsSome (lookup (is_member m) es) → IsFound m es (lower_count es m)) → IsFound m (e ∷ es) (lower_count (e ∷ es) m)
found_step m e es Less at s some later = absurd (let z = subst (λ (o : Option ℕ). IsSome o) (none_here m e es s at) some in cc)
found_step m e es Equal at s some later = subst (IsFound m (e ∷ es)) (sym (ends_here m e es (omega (arith, same m e es at)))) (found_here m e es at)
found_step m e es Greater at s some later =
    subst (IsFound m (e ∷ es)) (sym (ends_later m e es (higher m e es at)))
    (found_later m e es (lower_count es m) at (later (subst (λ (o : Option ℕ). IsSome o) (lookup_tail (is_member m) e es (ap is_eq at)) some)))

pub found_there : (m : ℕ) (es : List (ℕ × ℕ)) → IsStrictlySortedBy nat_cmp (keys_of es) → IsSome (lookup (is_member m) es) → IsFound m es (lower_count es m)
found_there m [] s some = absurd cc
found_there m (e ∷ es) s some = found_step m e es (nat_cmp m e.0) refl s some (found_there m es (sorted_tail nat_cmp e.0 (keys_of es) s))

-- ---- the member of an entry

same_entry : (x e : ℕ × ℕ) → Some x ≡ Some e → x ≡ e
same_entry x e is = cc

-- keys rise from the first entry on
first_lower : (x : ℕ × ℕ) (es : Entries) (i : ℕ) (e : ℕ × ℕ) → AreSorted (x ∷ es) → i < length es → slice_get es i ≡ Some e → x.0 < e.0
first_lower x es i e s lt at =
    let rising = below_from_sorted (keys_of (x ∷ es)) 0 (suc i) 0 s (omega arith) (omega (arith, lt, length-keys_of es)) in
    omega (arith, rising, get_or-map (λ (y : ℕ × ℕ). y.0) es i e 0 lt, ap (λ (y : ℕ × ℕ). y.0) (get_or_from_slice_get es i e e at))

pub found_at : (es : List (ℕ × ℕ)) (i : ℕ) (e : ℕ × ℕ) → IsStrictlySortedBy nat_cmp (keys_of es) → slice_get es i ≡ Some e → IsFound e.0 es i
found_at [] i e s at = absurd cc
found_at (x ∷ es) zero e s at = subst (λ (y : ℕ × ℕ). IsFound y.0 (x ∷ es) 0) (same_entry x e at) (found_here x.0 x es (sym (nat_cmp_is x.0 x.0 Equal refl)))
found_at (x ∷ es) (suc i) e s at =
    let later = found_at es i e (sorted_tail nat_cmp x.0 (keys_of es) s) at in
    found_later e.0 x es i (sym (nat_cmp_is e.0 x.0 Greater (first_lower x es i e s later.within at))) later

-- another cursor in its place
pub written_at : (es : List (ℕ × ℕ)) (i : ℕ) (e : ℕ × ℕ) (v : ℕ) → IsStrictlySortedBy nat_cmp (keys_of es) → slice_get es i ≡ Some e → set es i (e.0, v) ≡ insert_entry nat_cmp es e.0 v
written_at es i e v s at = ap (λ (x : ℕ × ℕ). set es i (x.0, v)) (sym (get_or_from_slice_get es i e e at)) ∙ (found_at es i e s at).written e v

-- ---- whether it is a member

is_same : (a b : ℕ) → a ≡ b → (b == a) ≡ true
is_same a b e = grind (arith, nat_tests)

is_other : (a b : ℕ) → a < b → (b == a) ≡ false
is_other a b lt = grind (arith, nat_tests)

missed_step : (m : ℕ) (e : ℕ × ℕ) (es : Entries) (r : Ordering) → nat_cmp m e.0 ≡ r → AreSorted (e ∷ es) → length (e ∷ es) ≤ lower_count (e ∷ es) m
    → (length es ≤ lower_count es m → is_some (lookup (is_member m) es) ≡ false) → is_some (lookup (is_member m) (e ∷ es)) ≡ false
missed_step m e es Less at s le later = ap is_some (none_here m e es s at)
missed_step m e es Equal at s le later = absurd (omega (arith, le, ends_here m e es (omega (arith, same m e es at))))
missed_step m e es Greater at s le later = ap is_some (lookup_tail (is_member m) e es (ap is_eq at)) ∙ later (omega (arith, le, ends_later m e es (higher m e es at)))

-- all stand before the member's place
pub missed : (m : ℕ) (es : List (ℕ × ℕ)) → IsStrictlySortedBy nat_cmp (keys_of es) → length es ≤ lower_count es m → is_some (lookup (is_member m) es) ≡ false
missed m [] s le = refl
missed m (e ∷ es) s le = missed_step m e es (nat_cmp m e.0) refl s le (missed m es (sorted_tail nat_cmp e.0 (keys_of es) s))

told_step : (m : ℕ) (e : ℕ × ℕ) (es : Entries) (d : ℕ × ℕ) (r : Ordering) → nat_cmp m e.0 ≡ r → AreSorted (e ∷ es) → lower_count (e ∷ es) m < length (e ∷ es)
    → (lower_count es m < length es → ((get_or es (lower_count es m) d).0 == m) ≡ is_some (lookup (is_member m) es))
    → ((get_or (e ∷ es) (lower_count (e ∷ es) m) d).0 == m) ≡ is_some (lookup (is_member m) (e ∷ es))
told_step m e es d Less at s lt later =
    ap (λ i. (get_or (e ∷ es) i d).0 == m) (ends_here m e es (omega (arith, lower m e es at))) ∙ is_other m e.0 (lower m e es at) ∙ sym (ap is_some (none_here m e es s at))
told_step m e es d Equal at s lt later =
    ap (λ i. (get_or (e ∷ es) i d).0 == m) (ends_here m e es (omega (arith, same m e es at))) ∙ is_same m e.0 (same m e es at) ∙ sym (ap is_some (lookup_head (is_member m) e es (ap is_eq at)))
told_step m e es d Greater at s lt later =
    let on = ends_later m e es (higher m e es at) in
    ap (λ i. (get_or (e ∷ es) i d).0 == m) on ∙ later (omega (arith, lt, on)) ∙ sym (ap is_some (lookup_tail (is_member m) e es (ap is_eq at)))

-- an entry stands at the member's place
pub told : (m : ℕ) (es : List (ℕ × ℕ)) (d : ℕ × ℕ) → IsStrictlySortedBy nat_cmp (keys_of es) → lower_count es m < length es → ((get_or es (lower_count es m) d).0 == m) ≡ is_some (lookup (is_member m) es)
told m [] d s lt = absurd (omega (arith, lt))
told m (e ∷ es) d s lt = told_step m e es d (nat_cmp m e.0) refl s lt (told m es d (sorted_tail nat_cmp e.0 (keys_of es) s))

-- ---- a member that comes

put_step : (m v : ℕ) (e : ℕ × ℕ) (es : Entries) (r : Ordering) → nat_cmp m e.0 ≡ r → lookup (is_member m) (e ∷ es) ≡ None
    → (lookup (is_member m) es ≡ None → insert es (lower_count es m) (m, v) ≡ insert_entry nat_cmp es m v) → insert (e ∷ es) (lower_count (e ∷ es) m) (m, v) ≡ insert_entry nat_cmp (e ∷ es) m v
put_step m v e es Less at none later = ap (λ i. insert (e ∷ es) i (m, v)) (ends_here m e es (omega (arith, lower m e es at))) ∙ sym (inserted_by m e es v Less at)
put_step m v e es Equal at none later = absurd (let z : Some e.1 ≡ None = sym (lookup_head (is_member m) e es (ap is_eq at)) ∙ none in cc)
put_step m v e es Greater at none later =
    ap (λ i. insert (e ∷ es) i (m, v)) (ends_later m e es (higher m e es at))
    ∙ ap (λ l. e ∷ l) (later (sym (lookup_tail (is_member m) e es (ap is_eq at)) ∙ none)) ∙ sym (inserted_by m e es v Greater at)

pub put_there : (m v : ℕ) (es : List (ℕ × ℕ)) → lookup (is_member m) es ≡ None → insert es (lower_count es m) (m, v) ≡ insert_entry nat_cmp es m v
put_there m v [] none = refl
put_there m v (e ∷ es) none = put_step m v e es (nat_cmp m e.0) refl none (put_there m v es)

-- ---- the order stays

all_by : (P Q : ℕ → Type 0) → ((y : ℕ) → P y → Q y) → (ys : List ℕ) → AllByRecursion P ys → AllByRecursion Q ys
all_by P Q h [] all = tt
all_by P Q h (y ∷ ys) all = (h y all.0, all_by P Q h ys all.1)

module _ (P : ℕ → Type 0) (m v : ℕ) (one : P m) where
  all_inserted_by : (r : Ordering) (e : ℕ × ℕ) (es fs : Entries) → AllByRecursion P (keys_of (e ∷ es)) → AllByRecursion P (keys_of fs)
      → AllByRecursion P (keys_of (match_ordering r ((m, v) ∷ e ∷ es) ((e.0, v) ∷ es) (e ∷ fs)))
  all_inserted_by Less e es fs all later = (one, all)
  all_inserted_by Equal e es fs all later = all
  all_inserted_by Greater e es fs all later = (all.0, later)

  all_inserted : (es : Entries) → AllByRecursion P (keys_of es) → AllByRecursion P (keys_of (insert_entry nat_cmp es m v))
  all_inserted [] all = (one, tt)
  all_inserted (e ∷ es) all = all_inserted_by (nat_cmp m e.0) e es (insert_entry nat_cmp es m v) all (all_inserted es all.1)

back : (m n : ℕ) → nat_cmp m n ≡ Greater → nat_cmp n m ≡ Less
back m n at = sym (nat_cmp_is n m Less (ranked m n Greater (sym at)))

inserted_step : (m v : ℕ) (e : ℕ × ℕ) (es : Entries) (r : Ordering) → nat_cmp m e.0 ≡ r → AreSorted (e ∷ es) → AreSorted (insert_entry nat_cmp es m v)
    → AreSorted (match_ordering r ((m, v) ∷ e ∷ es) ((e.0, v) ∷ es) (e ∷ insert_entry nat_cmp es m v))
unfolding IsStrictlySortedBy
inserted_step m v e es Less at s later = ((at, all_by (λ y. nat_cmp e.0 y ≡ Less) (λ y. nat_cmp m y ≡ Less) (λ y less. nat_cmp_total.trans m e.0 y at less) (keys_of es) s.0), s)
inserted_step m v e es Equal at s later = s
inserted_step m v e es Greater at s later = (all_inserted (λ y. nat_cmp e.0 y ≡ Less) m v (back m e.0 at) es s.0, later)

pub inserted_sorted : (m v : ℕ) (es : List (ℕ × ℕ)) → IsStrictlySortedBy nat_cmp (keys_of es) → IsStrictlySortedBy nat_cmp (keys_of (insert_entry nat_cmp es m v))
unfolding IsStrictlySortedBy
inserted_sorted m v [] s = (tt, tt)
inserted_sorted m v (e ∷ es) s = inserted_step m v e es (nat_cmp m e.0) refl s (inserted_sorted m v es s.1)

module _ (test : ℕ → Bool) where
  all_left_by : (P : ℕ → Type 0) (b : Bool) (e : ℕ × ℕ) (es fs : Entries) → AllByRecursion P (keys_of (e ∷ es)) → AllByRecursion P (keys_of fs) → AllByRecursion P (keys_of (cond b es (e ∷ fs)))
  all_left_by P true e es fs all later = all.1
  all_left_by P false e es fs all later = (all.0, later)

  all_left : (P : ℕ → Type 0) (es : Entries) → AllByRecursion P (keys_of es) → AllByRecursion P (keys_of (remove_entry test es))
  all_left P [] all = tt
  all_left P (e ∷ es) all = all_left_by P (test e.0) e es (remove_entry test es) all (all_left P es all.1)

  removed_step : (b : Bool) (e : ℕ × ℕ) (es : Entries) → AreSorted (e ∷ es) → AreSorted (remove_entry test es) → AreSorted (cond b es (e ∷ remove_entry test es))
  unfolding IsStrictlySortedBy
  removed_step true e es s later = s.1
  removed_step false e es s later = (all_left (λ y. nat_cmp e.0 y ≡ Less) es s.0, later)

  pub removed_sorted : (es : List (ℕ × ℕ)) → IsStrictlySortedBy nat_cmp (keys_of es) → IsStrictlySortedBy nat_cmp (keys_of (remove_entry test es))
  unfolding IsStrictlySortedBy
  removed_sorted [] s = tt
  removed_sorted (e ∷ es) s = removed_step (test e.0) e es s (removed_sorted es s.1)

-- ---- a cursor that goes on

-- d is what was read at i
module _ (es vs : List (ℕ × ℕ)) (i : ℕ) (d : ℕ × ℕ) (s : IsStrictlySortedBy nat_cmp (keys_of es)) (seen : es ≡ vs) (is : d ≡ slice_index_or es i d) where
  pub gone_on : (e : ℕ × ℕ) → slice_get vs i ≡ Some e → set es i (d.0, (d.1 + 1) % 2 ^ 64) ≡ insert_entry nat_cmp vs e.0 ((e.1 + 1) % 2 ^ 64)
  gone_on e at =
      let here : slice_get es i ≡ Some e = ap (λ l. slice_get l i) seen ∙ at in
      ap (λ (x : ℕ × ℕ). set es i (x.0, (x.1 + 1) % 2 ^ 64)) (is ∙ get_or_from_slice_get es i e d here) ∙ written_at es i e ((e.1 + 1) % 2 ^ 64) s here
      ∙ ap (λ l. insert_entry nat_cmp l e.0 ((e.1 + 1) % 2 ^ 64)) seen

  pub gone_on_sorted : i < length vs → IsStrictlySortedBy nat_cmp (keys_of (set es i (d.0, (d.1 + 1) % 2 ^ 64)))
  gone_on_sorted lt =
      let v = (d.1 + 1) % 2 ^ 64 in
      let here : slice_get es i ≡ Some d = slice_get-get_or es i d (omega (arith, lt, ap length seen)) ∙ ap Some (sym is) in
      subst (λ l. IsStrictlySortedBy nat_cmp (keys_of l)) (sym (written_at es i d v s here)) (inserted_sorted d.0 v es s)

-- ---- at the place that a search gave: es are the entries, fs those that were searched, and vs what contracts see

module _ (m i : ℕ) (es fs vs : List (ℕ × ℕ)) (s : IsStrictlySortedBy nat_cmp (keys_of es)) (searched : fs ≡ es) (seen : es ≡ vs) (place : i ≡ lower_count fs m) where
  pub at_place : i ≡ lower_count es m
  at_place = place ∙ ap (λ l. lower_count l m) searched

  pub found : IsSome (lookup (is_member m) vs) → IsFound m es i
  found some = subst (IsFound m es) (sym at_place) (found_there m es s (subst (λ l. IsSome (lookup (is_member m) l)) (sym seen) some))

  pub read_at : IsSome (lookup (is_member m) vs) → (e : ℕ × ℕ) → e ≡ slice_index_or es i e → slice_get vs i ≡ Some (m, e.1)
  read_at some e is = sym (ap (λ l. slice_get l i) seen) ∙ (found some).read e ∙ ap (λ (x : ℕ × ℕ). Some (m, x.1)) (sym is)

  pub put_at : (v : ℕ) → lookup (is_member m) vs ≡ None → insert es i (m, v) ≡ insert_entry nat_cmp es m v
  put_at v none = ap (λ k. insert es k (m, v)) at_place ∙ put_there m v es (ap (lookup (is_member m)) seen ∙ none)

  pub missed_at : length es ≤ i → false ≡ is_some (lookup (is_member m) vs)
  missed_at le = sym (missed m es s (omega (arith, le, at_place))) ∙ ap (λ l. is_some (lookup (is_member m) l)) seen

  pub told_at : i < length es → (e : ℕ × ℕ) → e ≡ slice_index_or es i e → (e.0 == m) ≡ is_some (lookup (is_member m) vs)
  told_at lt e is =
      ap (λ (x : ℕ × ℕ). x.0 == m) is ∙ ap (λ k. (get_or es k e).0 == m) at_place ∙ told m es e s (omega (arith, lt, at_place)) ∙ ap (λ l. is_some (lookup (is_member m) l)) seen

pub none_sorted : (es : List (ℕ × ℕ)) → es ≡ [] → IsStrictlySortedBy nat_cmp (keys_of es)
unfolding IsStrictlySortedBy
none_sorted es e = subst (λ l. IsStrictlySortedBy nat_cmp (keys_of l)) (sym e) tt

-- ---- one entry after the other

pub member_at : (es : List (ℕ × ℕ)) (i : ℕ) (d : ℕ × ℕ) → i < length es → get_or (keys_of es) i 0 ≡ (get_or es i d).0
member_at es i d lt = get_or-map (λ (e : ℕ × ℕ). e.0) es i d 0 lt

pub members_more : (es : List (ℕ × ℕ)) (i : ℕ) (d : ℕ × ℕ) (ms ns : List ℕ) → i < length es → ms ≡ take i (keys_of es) → ns ≡ ms ++ (get_or es i d).0 ∷ [] → ns ≡ take (i + 1) (keys_of es)
members_more es i d ms ns lt is more =
    more ∙ ap (λ l. l ++ (get_or es i d).0 ∷ []) is ∙ ap (λ m. take i (keys_of es) ++ m ∷ []) (sym (member_at es i d lt)) ∙ sym (take_more (keys_of es) i 0 (omega (arith, lt, length-keys_of es)))

pub members_all : (es : List (ℕ × ℕ)) (i : ℕ) → length es ≤ i → take i (keys_of es) ≡ keys_of es
members_all es i le = take_all i (keys_of es) (omega (arith, le, length-keys_of es))

pub all_at : (So : ℕ → Type 0) (ms : List ℕ) (i : ℕ) → AllByRecursion So ms → i < length ms → So (get_or ms i 0)
all_at So [] i all lt = absurd (omega (arith, lt))
all_at So (m ∷ ms) zero all lt = all.0
all_at So (m ∷ ms) (suc i) all lt = all_at So ms i all.1 (omega (arith, lt))

pub all_from : (So : ℕ → Type 0) (ms : List ℕ) → ((i : ℕ) → i < length ms → So (get_or ms i 0)) → AllByRecursion So ms
all_from So [] each = tt
all_from So (m ∷ ms) each = (each 0 (omega arith), all_from So ms (λ i lt. each (suc i) (omega (arith, lt))))
