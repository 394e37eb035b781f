-- How many rows say something.
use Rattle.std.proofs.Common.{◌≡◌, ℕ, ◌+◌, ◌<◌, ◌≤◌, Bool, List, [], ◌∷◌, length, Option, Some, None, refl, sym, ap, ◌∙◌, arith}
use Rattle.std.specs.Prelude.{is_some, IsTrue, sum_by, unwrap_or, if◌then◌else◌}
use Rattle.std.specs.Option.{option_map}
use Rattle.std.specs.Map.{values_of, remove_entry}
use Rattle.std.specs.BTreeMap.{insert_entry, is_at}
use Rattle.std.specs.Cmp.{IsTotalOrder}
use Rattle.std.specs.declared.cmp.Ordering.{Ordering}
use Rattle.std.proofs.lemmas.List.Sums.{sum_by-cons}
use Rattle.std.proofs.lemmas.Map.Entries.{sum_by-insert_entry, sum_by-remove_entry}
use Rattle.ug_adjout.specs.Tables.{value_at, with_value, IsTable}
use Rattle.ug_adjout.specs.Stored.{projected, projected_with, of_row}

abbrev pub one : Bool → ℕ
one b = if b then 1 else 0

module _ {V W : Type 0} (f : V → Option W) where
  abbrev pub counted : V → ℕ
  counted v = if is_some (f v) then 1 else 0

  abbrev pub counted_at : Option V → ℕ
  counted_at o = if is_some (of_row f o) then 1 else 0

  length_with : {K : Type 0} (k : K) (o : Option W) (es : List (K × W)) → length (projected_with f k o es) ≡ (if is_some o then 1 else 0) + length es
  length_with k None es = omega arith
  length_with k (Some v) es = omega arith

  pub counted_all : {K : Type 0} (rows : List (K × V)) → length (projected f rows) ≡ sum_by counted (values_of rows)
  counted_all [] = refl
  counted_all (e ∷ rows) = length_with e.0 (f e.1) (projected f rows) ∙ ap (λ n. counted e.1 + n) (counted_all rows) ∙ sym (sum_by-cons counted e.1 (values_of rows))

  counted_or : (o : Option V) → unwrap_or (option_map counted o) 0 ≡ counted_at o
  counted_or None = refl
  counted_or (Some v) = refl

  module _ {K : Type 0} (cmp : K → K → Ordering) where
    pub inserted_count : IsTotalOrder cmp → (rows : List (K × V)) (k : K) (v : V) → IsTable cmp rows
        → length (projected f (insert_entry cmp rows k v)) + counted_at (value_at cmp rows k) ≡ length (projected f rows) + counted v
    inserted_count total rows k v s =
        let step = sum_by-insert_entry counted total rows k v s in
        omega (arith, step, counted_all (insert_entry cmp rows k v), counted_all rows, counted_or (value_at cmp rows k))

    pub removed_count : (rows : List (K × V)) (k : K) → length (projected f (remove_entry (is_at (cmp k)) rows)) + counted_at (value_at cmp rows k) ≡ length (projected f rows)
    removed_count rows k =
        let step = sum_by-remove_entry counted (is_at (cmp k)) rows in
        omega (arith, step, counted_all (remove_entry (is_at (cmp k)) rows), counted_all rows, counted_or (value_at cmp rows k))

  pub counted_most : {K : Type 0} (rows : List (K × V)) → length (projected f rows) ≤ length rows
  counted_most [] = omega arith
  counted_most (e ∷ rows) = by (f e.1) (counted_most rows)
    where
      by : (o : Option W) → length (projected f rows) ≤ length rows → length (projected_with f e.0 o (projected f rows)) ≤ length (e ∷ rows)
      by None h = omega (arith, h)
      by (Some v) h = omega (arith, h)

  module _ {K : Type 0} (cmp : K → K → Ordering) (rows : List (K × V)) (k : K) (count : ℕ) (is : count ≡ length (projected f rows)) (old : Bool) (was : old ≡ is_some (of_row f (value_at cmp rows k))) where
    pub some_counted : IsTrue old → 0 < count
    some_counted t =
        let here : counted_at (value_at cmp rows k) ≡ 1 = ap one (sym was ∙ t) in
        let gone = removed_count cmp rows k in omega (arith, here, gone, is)

    pub few_counted : length rows < 9223372036854775808 → count < 9223372036854775808
    few_counted few = let most = counted_most rows in omega (arith, few, most, is)

    pub put_counted : IsTotalOrder cmp → IsTable cmp rows → (v : V) (new : Bool) (now : ℕ) → new ≡ is_some (f v) → now + one old ≡ count + one new → now ≡ length (projected f (insert_entry cmp rows k v))
    put_counted total s v new now says step =
        let put = inserted_count cmp total rows k v s in let a = ap one was in let b = ap one says in omega (arith, put, a, b, step, is)

    gone_counted : (now : ℕ) → now + one old ≡ count + 0 → now ≡ length (projected f (remove_entry (is_at (cmp k)) rows))
    gone_counted now step =
        let gone = removed_count cmp rows k in let a = ap one was in omega (arith, gone, a, step, is)

    pub step_counted : IsTotalOrder cmp → IsTable cmp rows → (o : Option V) (new : Bool) (now : ℕ) → new ≡ is_some (of_row f o) → now + one old ≡ count + one new → now ≡ length (projected f (with_value cmp rows k o))
    step_counted total s None new now says step = gone_counted now (step ∙ ap (λ b. count + one b) says)
    step_counted total s (Some v) new now says step = put_counted total s v new now says step
