-- Rows behind a key, and maps that are made again.
use Rattle.std.proofs.Common.{◌≡◌, Bool, true, false, cond, ◌&&◌, List, [], ◌∷◌, ◌++◌, slice_get, Option, Some, None, refl, sym, ap, subst, ◌∙◌}
use Rattle.std.specs.List.{filter, AllByRecursion}
use Rattle.std.specs.Ordering.{is_lt, match_ordering, ordering_reverse}
use Rattle.std.specs.Map.{keys_of}
use Rattle.std.specs.BTreeMap.{insert_entry}
use Rattle.std.specs.BTreeMap.Range.{entries_between}
use Rattle.std.specs.Cmp.{IsTotalOrder}
use Rattle.std.specs.declared.ops.Bound.TheVariants.{Unbounded}
use Rattle.std.specs.declared.cmp.Ordering.{Ordering}
use Rattle.std.specs.declared.cmp.Ordering.TheVariants.{Less}
use Rattle.std.proofs.lemmas.List.{append_assoc}
use Rattle.std.proofs.lemmas.Map.Keys.{sorted_head, sorted_tail}
use Rattle.ug_adjout.specs.Tables.{IsTable, rows_after}
use Rattle.ug_adjout.specs.Stored.{projected, projected_with, of_row, start_at}

module _ {X : Type 0} where
  same_filter : (p q : X → Bool) → ((x : X) → p x ≡ q x) → (xs : List X) → filter p xs ≡ filter q xs
  same_filter p q h [] = refl
  same_filter p q h (x ∷ xs) = ap (λ b. cond b (x ∷ filter p xs) (filter p xs)) (h x) ∙ ap (λ l. cond (q x) (x ∷ l) l) (same_filter p q h xs)

  filter_all : (xs : List X) → filter (λ _. true) xs ≡ xs
  filter_all [] = refl
  filter_all (x ∷ xs) = ap (λ l. x ∷ l) (filter_all xs)

and_true : (b : Bool) → (b && true) ≡ b
and_true true = refl
and_true false = refl

module _ {K : Type 0} (cmp : K → K → Ordering) where
  pub between_after : {V : Type 0} (key : Option K) (rows : List (K × V)) → entries_between cmp (start_at key) Unbounded rows ≡ rows_after cmp key rows
  between_after None rows = filter_all rows
  between_after (Some key) rows = same_filter _ _ (λ e. and_true (is_lt (cmp key e.0))) rows

  module _ {V W : Type 0} (f : V → Option W) where
    with_filter : (p : K → Bool) (b : Bool) (k : K) (o : Option W) (es : List (K × W)) → p k ≡ b
        → cond b (projected_with f k o (filter (λ e. p e.0) es)) (filter (λ e. p e.0) es) ≡ filter (λ e. p e.0) (projected_with f k o es)
    with_filter p true k None es at = refl
    with_filter p true k (Some v) es at = sym (ap (λ b. cond b ((k, v) ∷ filter (λ e. p e.0) es) (filter (λ e. p e.0) es)) at)
    with_filter p false k None es at = refl
    with_filter p false k (Some v) es at = sym (ap (λ b. cond b ((k, v) ∷ filter (λ e. p e.0) es) (filter (λ e. p e.0) es)) at)

    project_cond : (b : Bool) (e : K × V) (rows : List (K × V)) → projected f (cond b (e ∷ rows) rows) ≡ cond b (projected_with f e.0 (f e.1) (projected f rows)) (projected f rows)
    project_cond true e rows = refl
    project_cond false e rows = refl

    projected_filter : (p : K → Bool) (rows : List (K × V)) → projected f (filter (λ e. p e.0) rows) ≡ filter (λ e. p e.0) (projected f rows)
    projected_filter p [] = refl
    projected_filter p (e ∷ rows) =
        project_cond (p e.0) e (filter (λ x. p x.0) rows)
        ∙ ap (λ l. cond (p e.0) (projected_with f e.0 (f e.1) l) l) (projected_filter p rows) ∙ with_filter p (p e.0) e.0 (f e.1) (projected f rows) refl

    projected_after : (key : Option K) (rows : List (K × V)) → projected f (rows_after cmp key rows) ≡ rows_after cmp key (projected f rows)
    projected_after None rows = refl
    projected_after (Some key) rows = projected_filter (λ k. is_lt (cmp key k)) rows

    pub first_after : (key : Option K) (rows range : List (K × V)) → range ≡ entries_between cmp (start_at key) Unbounded rows
        → slice_get (projected f range) 0 ≡ slice_get (rows_after cmp key (projected f rows)) 0
    first_after key rows range e = ap (λ l. slice_get (projected f l) 0) (e ∙ between_after key rows) ∙ ap (λ l. slice_get l 0) (projected_after key rows)

-- what the rows say of what others say
module _ {K U V W : Type 0} (g : U → Option V) (f : V → Option W) where
  pub projected_twice : (rows : List (K × U)) → projected f (projected g rows) ≡ projected (λ u. of_row f (g u)) rows
  projected_twice [] = refl
  projected_twice (e ∷ rows) = by (g e.1) (projected_twice rows)
    where
      by : (o : Option V) → projected f (projected g rows) ≡ projected (λ u. of_row f (g u)) rows
          → projected f (projected_with g e.0 o (projected g rows)) ≡ projected_with (λ u. of_row f (g u)) e.0 (of_row f o) (projected (λ u. of_row f (g u)) rows)
      by None h = h
      by (Some v) h = ap (projected_with f e.0 (f v)) h

-- ---- a map that is made again

module _ {K X : Type 0} {cmp : K → K → Ordering} (total : IsTotalOrder cmp) where
  last_of : (P : K → Type 0) (es : List (K × X)) (e : K × X) (rest : List (K × X)) → AllByRecursion P (keys_of (es ++ e ∷ rest)) → P e.0
  last_of P [] e rest h = h.0
  last_of P (x ∷ es) e rest h = last_of P es e rest h.1

  pub put_end : (es : List (K × X)) (e : K × X) (rest : List (K × X)) → IsTable cmp (es ++ e ∷ rest) → insert_entry cmp es e.0 e.1 ≡ es ++ e ∷ []
  put_end [] e rest s = refl
  put_end (x ∷ es) e rest s =
      ap (λ r. match_ordering r ((e.0, e.1) ∷ x ∷ es) ((x.0, e.1) ∷ es) (x ∷ insert_entry cmp es e.0 e.1))
      (total.antisymm e.0 x.0 ∙ ap ordering_reverse (last_of (λ y. cmp x.0 y ≡ Less) es e rest (sorted_head cmp x.0 (keys_of (es ++ e ∷ rest)) s)))
      ∙ ap (λ l. x ∷ l) (put_end es e rest (sorted_tail cmp x.0 (keys_of (es ++ e ∷ rest)) s))

  pub one_more : (done left rest whole : List (K × X)) (e : K × X) (now : List (K × X)) → done ++ left ≡ whole → IsTable cmp whole → left ≡ e ∷ rest → now ≡ insert_entry cmp done e.0 e.1 → now ++ rest ≡ whole
  one_more done left rest whole e now so s step put =
      let all : done ++ e ∷ rest ≡ whole = ap (λ l. done ++ l) (sym step) ∙ so in
      ap (λ l. l ++ rest) (put ∙ put_end done e rest (subst (IsTable cmp) (sym all) s)) ∙ append_assoc done (e ∷ []) rest ∙ all
