-- A row of places and the values in it, as a table: a place whose value changes, and places without one at either end.
use Rattle.std.proofs.Common.{◌≡◌, ℕ, zero, suc, ◌+◌, ◌-◌, ◌<◌, ◌≤◌, min, Bool, true, false, List, [], ◌∷◌, ◌++◌, length, get_or, set, take, drop, replicate, slice_get, Option, Some, None, refl, sym, ap, ◌∙◌, arith, add-one, append_assoc}
use Rattle.std.specs.Prelude.{◌^◌, is_some, IsSome, nat_le}
use Rattle.std.specs.Option.{option_map}
use Rattle.std.specs.List.{AllByRecursion}
use Rattle.std.specs.List.Sorted.{IsStrictlySortedBy}
use Rattle.std.specs.Ordering.{nat_cmp, is_eq, match_ordering}
use Rattle.std.specs.Map.{keys_of, remove_entry}
use Rattle.std.specs.BTreeMap.{insert_entry, is_at}
use Rattle.std.specs.Cmp.{nat_cmp_total, nat_cmp_is}
use Rattle.std.specs.FinMap.{nat_cmp-IsAntisymmetric}
use Rattle.std.specs.declared.cmp.Ordering.TheVariants.{Less, Equal}
use Rattle.std.proofs.lemmas.List.{take_more, take_all, replicate_more, at_drop_more, at_drop_all}
use Rattle.std.proofs.lemmas.Bool.{cond-true, cond-false}
use Rattle.ug_adjout.specs.Tables.{value_at, with_value, IsTable}
use Rattle.ug_adjout.specs.TableLaws.{removed_nothing}
use Rattle.ug_adjout.specs.Stored.{projected, of_row}
use Rattle.ug_adjout.specs.Placed.{numbered, placed}
use Rattle.ug_adjout.proofs.Numbers.{less, greater, from_yes, from_no}
use Rattle.ug_adjout.proofs.Lists.{value_at-projected, projected-with_value}

same : (n p : ℕ) → n ≡ p → nat_cmp n p ≡ Equal
same n p e = sym (nat_cmp_is n p Equal e)

next : (s i : ℕ) → s + suc i ≡ suc s + i
next s i = omega arith

-- ---- the row by number

all_above : (n s : ℕ) (values : List (Option ℕ)) → n < s → AllByRecursion (λ y. nat_cmp n y ≡ Less) (keys_of (numbered s values))
all_above n s [] lt = tt
all_above n s (v ∷ values) lt = (less n s lt, all_above n (suc s) values (omega (arith, lt)))

numbered_order : (s : ℕ) (values : List (Option ℕ)) → IsTable nat_cmp (numbered s values)
unfolding IsStrictlySortedBy
numbered_order s [] = tt
numbered_order s (v ∷ values) = (all_above s (suc s) values (omega arith), numbered_order (suc s) values)

set_step : (s i : ℕ) (o x : Option ℕ) (values rest : List (Option ℕ)) → insert_entry nat_cmp (numbered (suc s) values) (suc s + i) o ≡ numbered (suc s) rest
    → insert_entry nat_cmp (numbered s (x ∷ values)) (s + suc i) o ≡ numbered s (x ∷ rest)
set_step s i o x values rest h =
    ap (λ r. match_ordering r ((s + suc i, o) ∷ numbered s (x ∷ values)) ((s, o) ∷ numbered (suc s) values) ((s, x) ∷ insert_entry nat_cmp (numbered (suc s) values) (s + suc i) o)) (greater (s + suc i) s (omega arith))
    ∙ ap (λ k. (s, x) ∷ insert_entry nat_cmp (numbered (suc s) values) k o) (next s i) ∙ ap (λ l. (s, x) ∷ l) h

numbered_set : (s i : ℕ) (o : Option ℕ) (values : List (Option ℕ)) → i < length values → insert_entry nat_cmp (numbered s values) (s + i) o ≡ numbered s (set values i o)
numbered_set s i o [] lt = absurd (omega (arith, lt))
numbered_set s zero o (x ∷ values) lt =
    ap (λ r. match_ordering r ((s + 0, o) ∷ numbered s (x ∷ values)) ((s, o) ∷ numbered (suc s) values) ((s, x) ∷ insert_entry nat_cmp (numbered (suc s) values) (s + 0) o)) (same (s + 0) s (omega arith))
numbered_set s (suc i) o (x ∷ values) lt = set_step s i o x values (set values i o) (numbered_set (suc s) i o values (omega (arith, lt)))

numbered_at : (s i : ℕ) (values : List (Option ℕ)) → i < length values → value_at nat_cmp (numbered s values) (s + i) ≡ Some (get_or values i None)
numbered_at s i [] lt = absurd (omega (arith, lt))
numbered_at s zero (x ∷ values) lt = cond-true _ (Some x) (value_at nat_cmp (numbered (suc s) values) (s + 0)) (ap is_eq (same (s + 0) s (omega arith)))
numbered_at s (suc i) (x ∷ values) lt =
    cond-false _ (Some x) (value_at nat_cmp (numbered (suc s) values) (s + suc i)) (ap is_eq (greater (s + suc i) s (omega arith)))
    ∙ ap (value_at nat_cmp (numbered (suc s) values)) (next s i) ∙ numbered_at (suc s) i values (omega (arith, lt))

numbered_below : (s p : ℕ) (values : List (Option ℕ)) → p < s → value_at nat_cmp (numbered s values) p ≡ None
numbered_below s p [] lt = refl
numbered_below s p (x ∷ values) lt = cond-false _ (Some x) (value_at nat_cmp (numbered (suc s) values) p) (ap is_eq (less p s lt)) ∙ numbered_below (suc s) p values (omega (arith, lt))

numbered_past : (s p : ℕ) (values : List (Option ℕ)) → s + length values ≤ p → value_at nat_cmp (numbered s values) p ≡ None
numbered_past s p [] le = refl
numbered_past s p (x ∷ values) le =
    cond-false _ (Some x) (value_at nat_cmp (numbered (suc s) values) p) (ap is_eq (greater p s (omega (arith, le)))) ∙ numbered_past (suc s) p values (omega (arith, le))

-- ---- the values

placed_lookup : (s p : ℕ) (values : List (Option ℕ)) (o : Option (Option ℕ)) → value_at nat_cmp (numbered s values) p ≡ o → value_at nat_cmp (placed s values) p ≡ of_row (λ (v : Option ℕ). v) o
placed_lookup s p values o e = value_at-projected nat_cmp_total nat_cmp-IsAntisymmetric (λ (v : Option ℕ). v) (numbered s values) p (numbered_order s values) ∙ ap (of_row (λ (v : Option ℕ). v)) e

placed_at : (s i : ℕ) (values : List (Option ℕ)) → i < length values → value_at nat_cmp (placed s values) (s + i) ≡ get_or values i None
placed_at s i values lt = placed_lookup s (s + i) values (Some (get_or values i None)) (numbered_at s i values lt)

pub placed_below : (s p : ℕ) (values : List (Option ℕ)) → p < s → value_at nat_cmp (placed s values) p ≡ None
placed_below s p values lt = placed_lookup s p values None (numbered_below s p values lt)

pub placed_past : (s p : ℕ) (values : List (Option ℕ)) → s + length values ≤ p → value_at nat_cmp (placed s values) p ≡ None
placed_past s p values le = placed_lookup s p values None (numbered_past s p values le)

-- its places are numbers of 32 bits where the row ends before them
pub placed_numbered : (s : ℕ) (values : List (Option ℕ)) → s + length values ≤ 2 ^ 32 → (q : ℕ) → IsSome (value_at nat_cmp (placed s values) q) → q < 2 ^ 32
placed_numbered s values fits q some = by (nat_le (s + length values) q) refl
  where
    by : (b : Bool) → nat_le (s + length values) q ≡ b → q < 2 ^ 32
    by true e = absurd (let z = sym some ∙ ap is_some (placed_past s q values (from_yes (s + length values) q e)) in cc)
    by false e = let lt = from_no (s + length values) q e in omega (arith, lt, fits)

-- what a place of the row has
pub placed_read : (s p i : ℕ) (values : List (Option ℕ)) (x : Option ℕ) → s + i ≡ p → i < length values → x ≡ get_or values i x → value_at nat_cmp (placed s values) p ≡ x
placed_read s p i values x e lt is = ap (value_at nat_cmp (placed s values)) (sym e) ∙ placed_at s i values lt ∙ sym (read values i lt is)
  where
    read : (values : List (Option ℕ)) (i : ℕ) → i < length values → x ≡ get_or values i x → x ≡ get_or values i None
    read [] i lt is = absurd (omega (arith, lt))
    read (v ∷ values) zero lt is = is
    read (v ∷ values) (suc i) lt is = read values i (omega (arith, lt)) is

-- a place of the row gets another value, or none
pub placed_set : (s p i : ℕ) (o : Option ℕ) (values : List (Option ℕ)) → s + i ≡ p → i < length values → placed s (set values i o) ≡ with_value nat_cmp (placed s values) p o
placed_set s p i o values e lt =
    ap (projected (λ (v : Option ℕ). v)) (sym (numbered_set s i o values lt))
    ∙ projected-with_value nat_cmp_total nat_cmp-IsAntisymmetric (λ (v : Option ℕ). v) (numbered s values) (s + i) (Some o) (numbered_order s values)
    ∙ ap (λ k. with_value nat_cmp (placed s values) k o) e

-- nothing goes where no value stands
pub placed_without : (s p : ℕ) (values : List (Option ℕ)) → value_at nat_cmp (placed s values) p ≡ None → placed s values ≡ remove_entry (is_at (nat_cmp p)) (placed s values)
placed_without s p values none = sym (removed_nothing nat_cmp_total nat_cmp-IsAntisymmetric (is_at (nat_cmp p)) (placed s values) none)

-- ---- places without a value at either end

pub blanks_before : (n s t : ℕ) (values : List (Option ℕ)) → s + n ≡ t → placed s (replicate n None ++ values) ≡ placed t values
blanks_before zero s t values e = ap (λ k. placed k values) (omega (arith, e))
blanks_before (suc n) s t values e = blanks_before n (suc s) t values (omega (arith, e))

projected_more : (s : ℕ) (o : Option ℕ) (xs ys : List (Option ℕ)) → placed (suc s) xs ≡ placed (suc s) ys → placed s (o ∷ xs) ≡ placed s (o ∷ ys)
projected_more s None xs ys e = e
projected_more s (Some v) xs ys e = ap (λ l. (s, v) ∷ l) e

blanks : (n s : ℕ) → placed s (replicate n None) ≡ []
blanks zero s = refl
blanks (suc n) s = blanks n (suc s)

pub blanks_behind : (n s : ℕ) (values : List (Option ℕ)) → placed s (values ++ replicate n None) ≡ placed s values
blanks_behind n s [] = blanks n s
blanks_behind n s (x ∷ values) = projected_more s x (values ++ replicate n None) values (blanks_behind n (suc s) values)

pub blank_first : (n : ℕ) (values : List (Option ℕ)) → None ∷ (replicate n None ++ values) ≡ replicate (n + 1) None ++ values
blank_first n values = ap (λ k. replicate k None ++ values) (sym (add-one n))

pub blank_last : (n : ℕ) (values : List (Option ℕ)) → (values ++ replicate n None) ++ None ∷ [] ≡ values ++ replicate (n + 1) None
blank_last n values = append_assoc values (replicate n None) (None ∷ []) ∙ ap (λ l. values ++ l) (replicate_more n None)

none_is : (x : Option ℕ) → is_some x ≡ false → x ≡ None
none_is None e = refl
none_is (Some v) e = absurd cc

-- the first place goes, which has none
pub front_gone : (s : ℕ) (values : List (Option ℕ)) (x : Option ℕ) → 0 < length values → x ≡ get_or values 0 x → is_some x ≡ false → placed (s + 1) (drop 1 values) ≡ placed s values
front_gone s [] x lt is blank = absurd (omega (arith, lt))
front_gone s (o ∷ values) x lt is blank =
    ap (λ k. placed k values) (omega arith) ∙ sym (ap (λ v. placed s (v ∷ values)) (sym is ∙ none_is x blank))

last_read : (values : List (Option ℕ)) (i : ℕ) (x : Option ℕ) → i < length values → x ≡ get_or values i x → is_some x ≡ false → get_or values i None ≡ None
last_read [] i x lt is blank = absurd (omega (arith, lt))
last_read (v ∷ values) zero x lt is blank = sym is ∙ none_is x blank
last_read (v ∷ values) (suc i) x lt is blank = last_read values i x (omega (arith, lt)) is blank

-- the last one goes, which has none
pub back_gone : (s n : ℕ) (values : List (Option ℕ)) (x : Option ℕ) → n ≡ length values → 0 < n → x ≡ get_or values (n - 1) x → is_some x ≡ false → placed s (take (n - 1) values) ≡ placed s values
back_gone s n values x e lt is blank =
    let inside : n - 1 < length values = omega (arith, e, lt) in
    let split = take_more values (n - 1) None inside in
    let all = take_all (n - 1 + 1) values (omega (arith, e, lt)) in
    let whole : values ≡ take (n - 1) values ++ replicate 1 None = sym all ∙ split ∙ ap (λ o. take (n - 1) values ++ o ∷ []) (last_read values (n - 1) x inside is blank) in
    sym (ap (placed s) whole ∙ blanks_behind 1 s (take (n - 1) values))

-- ---- the first value

abbrev pub first_in : List (Option ℕ) → Option ℕ
first_in [] = None
first_in (None ∷ values) = first_in values
first_in (Some v ∷ values) = Some v

pub first_placed : (s : ℕ) (values : List (Option ℕ)) → option_map (λ (e : ℕ × ℕ). e.1) (slice_get (placed s values) 0) ≡ first_in values
first_placed s [] = refl
first_placed s (None ∷ values) = first_placed (suc s) values
first_placed s (Some v ∷ values) = refl

pub first_here : (values : List (Option ℕ)) (at v : ℕ) (x : Option ℕ) → at < length values → x ≡ get_or values at x → x ≡ Some v → first_in (drop at values) ≡ first_in values → Some v ≡ first_in values
first_here values at v x lt is e h = sym (at_drop_more first_in values at x lt ∙ ap (λ o. first_in (o ∷ drop (at + 1) values)) (sym is ∙ e)) ∙ h

pub first_nowhere : (values : List (Option ℕ)) (at : ℕ) → length values ≤ at → first_in (drop at values) ≡ first_in values → None ≡ first_in values
first_nowhere values at le h = sym (at_drop_all first_in values at le) ∙ h

-- ---- the first value from a place on

abbrev pub AreNone : List (ℕ × ℕ) → ℕ → ℕ → Type 0
AreNone rows from to = (q : ℕ) → from ≤ q → q < to → value_at nat_cmp rows q ≡ None

pub none_more : (rows : List (ℕ × ℕ)) (from at : ℕ) → AreNone rows from at → value_at nat_cmp rows at ≡ None → AreNone rows from (at + 1)
none_more rows from at before here q le lt = by (nat_le at q) refl
  where
    by : (b : Bool) → nat_le at q ≡ b → value_at nat_cmp rows q ≡ None
    by true e = let up = from_yes at q e in let one : q ≡ at = omega (arith, up, lt) in ap (value_at nat_cmp rows) one ∙ here
    by false e = before q le (from_no at q e)

-- the row ends, or all places up to the end were looked at
pub none_at_all : (s : ℕ) (values : List (Option ℕ)) (from at end : ℕ) → AreNone (placed s values) from at → min end (s + length values) ≤ at → AreNone (placed s values) from end
none_at_all s values from at end before last q le lt = by (nat_le at q) refl
  where
    by : (b : Bool) → nat_le at q ≡ b → value_at nat_cmp (placed s values) q ≡ None
    by true e = let up = from_yes at q e in placed_past s q values (omega (arith, up, last, lt))
    by false e = before q le (from_no at q e)
