-- Places that are read off cursors, and lists of members under a change of their places.
use Rattle.std.proofs.Common.{◌≡◌, ℕ, zero, suc, ◌+◌, ◌-◌, ◌<◌, ◌≤◌, ◌%◌, ◌^◌, Bool, true, false, cond, List, [], ◌∷◌, slice_get, Option, Some, None, refl, sym, ap, ◌∙◌, subst, arith}
use Rattle.std.specs.Prelude.{is_some, IsSome}
use Rattle.std.specs.Option.{option_map}
use Rattle.std.specs.Map.{lookup, remove_entry, keys_of}
use Rattle.std.specs.Ordering.{nat_cmp, match_ordering}
use Rattle.std.specs.declared.cmp.Ordering.{Ordering}
use Rattle.std.specs.declared.cmp.Ordering.TheVariants.{Less, Equal, Greater}
use Rattle.std.specs.BTreeMap.{insert_entry}
use Rattle.ug_queue.specs.Queues.{mapped, least_place}
use Rattle.ug_queue.specs.Lines.{place_from, places_from}

pub cursor_at : (start place : ℕ) → start < 2 ^ 64 → place < 2 ^ 64 → place_from start ((start + place) % 2 ^ 64) ≡ place
cursor_at start place ls lp = omega (arith, ls, lp)

-- a cursor that goes on by one is at the next place
pub next_cursor : (start cursor : ℕ) → start < 2 ^ 64 → (cursor + 1) % 2 ^ 64 ≡ (start + (place_from start cursor + 1)) % 2 ^ 64
next_cursor start cursor ls = omega (arith, ls)

pub place_after : (start cursor : ℕ) → start < 2 ^ 64 → 1 ≤ place_from start cursor → place_from ((start + 1) % 2 ^ 64) cursor ≡ place_from start cursor - 1
place_after start cursor ls le = omega (arith, ls, le)

module _ (f : ℕ → ℕ) where
  lookup_cases : (b : Bool) (x : ℕ) (o p : Option ℕ) → p ≡ option_map f o → cond b (Some (f x)) p ≡ option_map f (cond b (Some x) o)
  lookup_cases true x o p e = refl
  lookup_cases false x o p e = e

  pub lookup-mapped : (t : ℕ → Bool) (es : List (ℕ × ℕ)) → lookup t (mapped f es) ≡ option_map f (lookup t es)
  lookup-mapped t [] = refl
  lookup-mapped t (e ∷ es) = lookup_cases (t e.0) e.1 (lookup t es) _ (lookup-mapped t es)

  remove_cases : (b : Bool) (e : ℕ × ℕ) (es fs : List (ℕ × ℕ)) → mapped f fs ≡ es → (rest : List (ℕ × ℕ)) → mapped f (cond b rest (e ∷ fs)) ≡ cond b (mapped f rest) ((e.0, f e.1) ∷ es)
  remove_cases true e es fs h rest = refl
  remove_cases false e es fs h rest = ap (λ l. (e.0, f e.1) ∷ l) h

  pub remove_entry-mapped : (t : ℕ → Bool) (es : List (ℕ × ℕ)) → mapped f (remove_entry t es) ≡ remove_entry t (mapped f es)
  remove_entry-mapped t [] = refl
  remove_entry-mapped t (e ∷ es) = remove_cases (t e.0) e _ (remove_entry t es) (remove_entry-mapped t es) es

  insert_cases : (r : Ordering) (m v : ℕ) (e : ℕ × ℕ) (es fs gs : List (ℕ × ℕ)) → mapped f fs ≡ gs
      → mapped f (match_ordering r ((m, v) ∷ e ∷ es) ((e.0, v) ∷ es) (e ∷ fs)) ≡ match_ordering r ((m, f v) ∷ (e.0, f e.1) ∷ mapped f es) ((e.0, f v) ∷ mapped f es) ((e.0, f e.1) ∷ gs)
  insert_cases Less m v e es fs gs h = refl
  insert_cases Equal m v e es fs gs h = refl
  insert_cases Greater m v e es fs gs h = ap (λ l. (e.0, f e.1) ∷ l) h

  pub insert_entry-mapped : (m v : ℕ) (es : List (ℕ × ℕ)) → mapped f (insert_entry nat_cmp es m v) ≡ insert_entry nat_cmp (mapped f es) m (f v)
  insert_entry-mapped m v [] = refl
  insert_entry-mapped m v (e ∷ es) = insert_cases (nat_cmp m e.0) m v e es (insert_entry nat_cmp es m v) _ (insert_entry-mapped m v es)

  pub keys_of-mapped : (es : List (ℕ × ℕ)) → keys_of (mapped f es) ≡ keys_of es
  keys_of-mapped [] = refl
  keys_of-mapped (e ∷ es) = ap (λ l. e.0 ∷ l) (keys_of-mapped es)

  pub slice_get-mapped : (es : List (ℕ × ℕ)) (i m c : ℕ) → slice_get es i ≡ Some (m, c) → slice_get (mapped f es) i ≡ Some (m, f c)
  slice_get-mapped [] i m c at = absurd cc
  slice_get-mapped (e ∷ es) zero m c at = ap (λ (o : Option (ℕ × ℕ)). option_map (λ (x : ℕ × ℕ). (x.0, f x.1)) o) at
  slice_get-mapped (e ∷ es) (suc i) m c at = slice_get-mapped es i m c at

  -- what stands there before the change
  pub entry_before : (es : List (ℕ × ℕ)) (i m p : ℕ) → slice_get (mapped f es) i ≡ Some (m, p) → (c : ℕ) × (slice_get es i ≡ Some (m, c)) × (f c ≡ p)
  entry_before [] i m p at = absurd cc
  entry_before (e ∷ es) zero m p at = let whole : (e.0, f e.1) ≡ (m, p) = cc in (e.1, ap (λ (x : ℕ × ℕ). Some (x.0, e.1)) whole, ap (λ (x : ℕ × ℕ). x.1) whole)
  entry_before (e ∷ es) (suc i) m p at = entry_before es i m p at

pub mapped_twice : (f g h : ℕ → ℕ) → ((p : ℕ) → g (f p) ≡ h p) → (es : List (ℕ × ℕ)) → mapped g (mapped f es) ≡ mapped h es
mapped_twice f g h same [] = refl
mapped_twice f g h same (e ∷ es) = λ i. (e.0, same e.1 i) ∷ mapped_twice f g h same es i

pub mapped_same : (f : ℕ → ℕ) → ((p : ℕ) → f p ≡ p) → (es : List (ℕ × ℕ)) → mapped f es ≡ es
mapped_same f same [] = refl
mapped_same f same (e ∷ es) = λ i. (e.0, same e.1 i) ∷ mapped_same f same es i

-- where no member is at the front, the places fall by one as the start goes on by one
pub places_after : (start n : ℕ) (es : List (ℕ × ℕ)) → start < 2 ^ 64 → 0 < least_place n (places_from start es)
    → places_from ((start + 1) % 2 ^ 64) es ≡ mapped (λ p. p - 1) (places_from start es)
places_after start n [] ls lt = refl
places_after start n (e ∷ es) ls lt =
    let here = place_after start e.1 ls (omega (arith, lt)) in let on = places_after start n es ls (omega (arith, lt)) in
    λ i. (e.0, here i) ∷ on i

unmapped : (f : ℕ → ℕ) (o : Option ℕ) → option_map f o ≡ None → o ≡ None
unmapped f None e = refl
unmapped f (Some c) e = cc

pub missed_back : (t : ℕ → Bool) (f : ℕ → ℕ) (es : List (ℕ × ℕ)) → lookup t (mapped f es) ≡ None → lookup t es ≡ None
missed_back t f es e = unmapped f (lookup t es) (sym (lookup-mapped f t es) ∙ e)

-- a member that has a place has a cursor
some_back : (f : ℕ → ℕ) (o : Option ℕ) → IsSome (option_map f o) → IsSome o
some_back f None h = h
some_back f (Some c) h = refl

pub has_cursor : (t : ℕ → Bool) (f : ℕ → ℕ) (es : List (ℕ × ℕ)) → IsSome (lookup t (mapped f es)) → IsSome (lookup t es)
has_cursor t f es h = some_back f (lookup t es) (subst (λ (o : Option ℕ). IsSome o) (lookup-mapped f t es) h)

kept_some : (f : ℕ → ℕ) (o : Option ℕ) → is_some (option_map f o) ≡ is_some o
kept_some f None = refl
kept_some f (Some c) = refl

pub is_some-mapped : (t : ℕ → Bool) (f : ℕ → ℕ) (es : List (ℕ × ℕ)) → is_some (lookup t (mapped f es)) ≡ is_some (lookup t es)
is_some-mapped t f es = ap is_some (lookup-mapped f t es) ∙ kept_some f (lookup t es)

pub none_of : (o : Option ℕ) → is_some o ≡ false → o ≡ None
none_of None e = refl
none_of (Some c) e = cc
