-- Each id of a table is held once more, row after row.
use Rattle.std.proofs.Common.{◌≡◌, ℕ, ◌+◌, ◌<◌, ◌≤◌, ◌^◌, Bool, true, false, cond, List, [], ◌∷◌, length, slice_get, Option, Some, None, refl, sym, ap, subst, ◌∙◌, arith}
use Rattle.std.specs.Prelude.{is_some, IsSome, filter, if◌then◌else◌}
use Rattle.std.specs.List.{AllByRecursion}
use Rattle.std.specs.Map.{keys_of}
use Rattle.std.specs.Ordering.{is_lt, is_eq}
use Rattle.std.specs.FinMap.{IsAntisymmetric}
use Rattle.std.specs.Cmp.{IsTotalOrder}
use Rattle.std.specs.declared.cmp.Ordering.{Ordering}
use Rattle.std.specs.declared.cmp.Ordering.TheVariants.{Less, Equal, Greater}
use Rattle.std.proofs.lemmas.Map.Keys.{sorted_head, sorted_tail}
use Rattle.ug_types.specs.declared.route.OutAttrs.{OutAttrs}
use Rattle.ug_intern.specs.Pools.{Held, Pooled, held, uses_of, value_of, raised, lowered, IsChangedAt}
use Rattle.ug_adjout.specs.Tables.{rows_after, IsTable}
use Rattle.ug_adjout.specs.TableLaws.{at_itself, below_all}
use Rattle.ug_adjout.specs.Stored.{projected, projected_with}
use Rattle.ug_adjout.proofs.Counts.{counted_most}
use Rattle.ug_groups.specs.FamilyRibs.{FamilyRib}
use Rattle.ug_groups.specs.Values.{value_in}
use Rattle.ug_groups.specs.Holders.{only, holders, one_at, HasRoom}
use Rattle.ug_groups.proofs.Holders.{more_uses, more_values, less_uses, less_values, one_is, one_here, one_most}

module _ {K : Type 0} {cmp : K → K → Ordering} (total : IsTotalOrder cmp) (exact : IsAntisymmetric cmp) where
  less_is : (r : Ordering) → is_lt r ≡ true → r ≡ Less
  less_is Less e = refl
  less_is Equal e = absurd cc
  less_is Greater e = absurd cc

  not_itself : (k : K) → cmp k k ≡ Less → ⊥
  not_itself k e = let z = sym (ap is_eq e) ∙ at_itself total exact k in cc

  kept_if : {T : Type 0} (b : Bool) (x : T) (xs ys : List T) → b ≡ true → xs ≡ ys → cond b (x ∷ xs) xs ≡ x ∷ ys
  kept_if true x xs ys e h = ap (λ l. x ∷ l) h
  kept_if false x xs ys e h = absurd cc

  left_if : {T : Type 0} (b : Bool) (x : T) (xs ys : List T) → b ≡ false → xs ≡ ys → cond b (x ∷ xs) xs ≡ ys
  left_if true x xs ys e h = absurd cc
  left_if false x xs ys e h = h

  pass : {V : Type 0} (k : K) (xs : List (K × V)) → AllByRecursion (λ y. cmp k y ≡ Less) (keys_of xs) → filter (λ (e : K × V). is_lt (cmp k e.0)) xs ≡ xs
  pass k [] all = refl
  pass k (x ∷ xs) all = kept_if (is_lt (cmp k x.0)) x _ xs (ap is_lt all.0) (pass k xs all.1)

  never_less : (k q : K) → cmp q k ≡ Less → is_lt (cmp k q) ≡ false
  never_less k q less = by (cmp k q) refl
    where
      by : (r : Ordering) → cmp k q ≡ r → is_lt r ≡ false
      by Less e = absurd (not_itself q ((below_all total exact q k (q ∷ []) less (e, tt)).0))
      by Equal e = refl
      by Greater e = refl

  itself_less : (k : K) → is_lt (cmp k k) ≡ false
  itself_less k = by (cmp k k) refl
    where
      by : (r : Ordering) → cmp k k ≡ r → is_lt r ≡ false
      by Less e = absurd (not_itself k e)
      by Equal e = refl
      by Greater e = refl

  after_first : {V : Type 0} (x : K × V) (xs : List (K × V)) → AllByRecursion (λ y. cmp x.0 y ≡ Less) (keys_of xs) → filter (λ (e : K × V). is_lt (cmp x.0 e.0)) (x ∷ xs) ≡ xs
  after_first x xs all = left_if (is_lt (cmp x.0 x.0)) x _ xs (itself_less x.0) (pass x.0 xs all)

  some_is : {T : Type 0} (a b : T) → Some a ≡ Some b → a ≡ b
  some_is a b e = cc

  first_step : {V : Type 0} (x e : K × V) (xs : List (K × V)) → IsTable cmp (x ∷ xs) → Some x ≡ Some e → x ∷ xs ≡ e ∷ rows_after cmp (Some e.0) (x ∷ xs)
  first_step x e xs s is =
      let head = sorted_head cmp x.0 (keys_of xs) s in
      subst (λ (y : K × _). x ∷ xs ≡ y ∷ rows_after cmp (Some y.0) (x ∷ xs)) (some_is x e is) (ap (λ l. x ∷ l) (sym (after_first x xs head)))

  first_above : {V : Type 0} (k q : K) (xs : List (K × V)) (e : K × V) → AllByRecursion (λ y. cmp q y ≡ Less) (keys_of xs) → slice_get (filter (λ (e : K × V). is_lt (cmp k e.0)) xs) 0 ≡ Some e → cmp q e.0 ≡ Less
  first_above k q [] e all is = absurd cc
  first_above k q (x ∷ xs) e all is = by (is_lt (cmp k x.0)) is (first_above k q xs e all.1)
    where
      by : (b : Bool) → slice_get (cond b (x ∷ filter (λ (y : K × _). is_lt (cmp k y.0)) xs) (filter (λ (y : K × _). is_lt (cmp k y.0)) xs)) 0 ≡ Some e
          → (slice_get (filter (λ (y : K × _). is_lt (cmp k y.0)) xs) 0 ≡ Some e → cmp q e.0 ≡ Less) → cmp q e.0 ≡ Less
      by true is more = subst (λ (y : K × _). cmp q y.0 ≡ Less) (some_is x e is) all.0
      by false is more = more is

  -- what is behind a key begins with the next row, and goes on behind that one's
  pub next_row : {V : Type 0} (rows : List (K × V)) (at : Option K) (e : K × V) → IsTable cmp rows → slice_get (rows_after cmp at rows) 0 ≡ Some e → rows_after cmp at rows ≡ e ∷ rows_after cmp (Some e.0) rows
  next_row [] None e s is = absurd cc
  next_row (x ∷ xs) None e s is = first_step x e xs s is
  next_row [] (Some k) e s is = absurd cc
  next_row (x ∷ xs) (Some k) e s is = by (is_lt (cmp k x.0)) refl is (next_row xs (Some k) e (sorted_tail cmp x.0 (keys_of xs) s))
    where
      by : (b : Bool) → is_lt (cmp k x.0) ≡ b → slice_get (cond b (x ∷ filter (λ (y : K × _). is_lt (cmp k y.0)) xs) (filter (λ (y : K × _). is_lt (cmp k y.0)) xs)) 0 ≡ Some e
          → (slice_get (rows_after cmp (Some k) xs) 0 ≡ Some e → rows_after cmp (Some k) xs ≡ e ∷ rows_after cmp (Some e.0) xs)
          → cond b (x ∷ filter (λ (y : K × _). is_lt (cmp k y.0)) xs) (filter (λ (y : K × _). is_lt (cmp k y.0)) xs) ≡ e ∷ rows_after cmp (Some e.0) (x ∷ xs)
      by true lt is more =
          let above = below_all total exact k x.0 (keys_of xs) (less_is _ lt) (sorted_head cmp x.0 (keys_of xs) s) in
          ap (λ l. x ∷ l) (pass k xs above) ∙ first_step x e xs s is
      by false lt is more =
          more is ∙ ap (λ l. e ∷ l) (sym (left_if (is_lt (cmp e.0 x.0)) x _ _ (never_less e.0 x.0 (first_above k x.0 xs e (sorted_head cmp x.0 (keys_of xs) s) is)) refl))

-- ---- the count

holders_with_one : {K : Type 0} (id : ℕ) (k : K) (o : Option ℕ) (rows : List (K × ℕ)) → length (projected_with {V = ℕ} (only id) k o rows) ≡ (if is_some o then 1 else 0) + length rows
holders_with_one id k None rows = omega arith
holders_with_one id k (Some v) rows = omega arith

pub holders_first : {K : Type 0} (id : ℕ) (e : K × ℕ) (rows : List (K × ℕ)) → holders id (e ∷ rows) ≡ one_at id (Some e.1) + holders id rows
holders_first id e rows = holders_with_one id e.0 (only id e.1) (projected (only id) rows)

-- what is so while the rows behind `at` are still to be held
pub record IsHolding {K : Type 0} (cmp : K → K → Ordering) (old pool : Pooled OutAttrs) (rows : List (K × ℕ)) (at : Option K) : Type 0 where
  pub uses : (id : ℕ) → uses_of (held pool id) + holders id (rows_after cmp at rows) ≡ uses_of (held old id) + holders id rows
  pub values : (id : ℕ) → value_in pool id ≡ value_in old id
  pub used : (id : ℕ) → holders id (rows_after cmp at rows) ≤ uses_of (held pool id)
  pub room : HasRoom (length (rows_after cmp at rows)) pool

module _ {K : Type 0} {cmp : K → K → Ordering} (total : IsTotalOrder cmp) (exact : IsAntisymmetric cmp) (old pool : Pooled OutAttrs) (rows : List (K × ℕ)) (at : Option K) (e : K × ℕ)
    (so : IsHolding cmp old pool rows at) (sorted : IsTable cmp rows) (is : slice_get (rows_after cmp at rows) 0 ≡ Some e) where
  rest_is : rows_after cmp at rows ≡ e ∷ rows_after cmp (Some e.0) rows
  rest_is = next_row total exact rows at e sorted is

  holders_are : (id : ℕ) → holders id (rows_after cmp at rows) ≡ one_at id (Some e.1) + holders id (rows_after cmp (Some e.0) rows)
  holders_are id = ap (holders id) rest_is ∙ holders_first id e (rows_after cmp (Some e.0) rows)

  pub held_next : 1 ≤ uses_of (held pool e.1)
  held_next = let most = so.used e.1 in let all = holders_are e.1 in let here = one_here e.1 in omega (arith, most, all, here)

  pub room_next : (id : ℕ) → uses_of (held pool id) + 1 < 2 ^ 128
  room_next id = let room = so.room id in let len = ap length rest_is in omega (arith, room, len)

  pub one_held : (next : Pooled OutAttrs) → IsChangedAt pool next e.1 (raised (held pool e.1)) → IsHolding cmp old next rows (Some e.0)
  one_held next changed =
      let more = more_uses pool next e.1 held_next changed in
      record {
        uses = λ id. let was = so.uses id in let now = more id in let all = holders_are id in let one = one_is id e.1 in omega (arith, was, now, all, one);
        values = λ id. more_values pool next e.1 held_next changed id ∙ so.values id;
        used = λ id. let was = so.used id in let now = more id in let all = holders_are id in omega (arith, was, now, all);
        room = λ id. let room = so.room id in let now = more id in let one = one_is id e.1 in let most = one_most id (Some e.1) in let len = ap length rest_is in omega (arith, room, now, one, most, len);
      }

  pub shorter : length (rows_after cmp (Some e.0) rows) < length (rows_after cmp at rows)
  shorter = let len = ap length rest_is in omega (arith, len)

none_rest : {T : Type 0} (xs : List T) → slice_get xs 0 ≡ None → xs ≡ []
none_rest [] e = refl
none_rest (x ∷ xs) e = absurd cc

pub all_held : {K : Type 0} (cmp : K → K → Ordering) (old pool : Pooled OutAttrs) (rows : List (K × ℕ)) (at : Option K) → IsHolding cmp old pool rows at → slice_get (rows_after cmp at rows) 0 ≡ None
    → (id : ℕ) → uses_of (held pool id) ≡ uses_of (held old id) + holders id rows
all_held cmp old pool rows at so e id = let was = so.uses id in let none = ap (holders id) (none_rest (rows_after cmp at rows) e) in omega (arith, was, none)

pub none_held : {K : Type 0} (cmp : K → K → Ordering) (pool : Pooled OutAttrs) (rows : List (K × ℕ)) → ((id : ℕ) → holders id rows ≤ uses_of (held pool id)) → HasRoom (length rows) pool → IsHolding cmp pool pool rows None
none_held cmp pool rows used room = record { uses = λ id. refl; values = λ id. refl; used = used; room = room }

-- ---- and held once less

-- what is so while the rows behind `at` are still to be let go
pub record IsFreeing {K : Type 0} (cmp : K → K → Ordering) (old pool : Pooled OutAttrs) (rows : List (K × ℕ)) (at : Option K) : Type 0 where
  pub uses : (id : ℕ) → uses_of (held pool id) + holders id rows ≡ uses_of (held old id) + holders id (rows_after cmp at rows)
  pub values : (id : ℕ) → IsSome (held pool id) → value_in pool id ≡ value_in old id
  pub used : (id : ℕ) → holders id (rows_after cmp at rows) ≤ uses_of (held pool id)

live_value : (h : Option (Held OutAttrs)) → IsSome h → IsSome (value_of h)
live_value None e = absurd cc
live_value (Some h) e = refl

value_live : (h : Option (Held OutAttrs)) → IsSome (value_of h) → IsSome h
value_live None e = absurd cc
value_live (Some h) e = refl

module _ {K : Type 0} {cmp : K → K → Ordering} (total : IsTotalOrder cmp) (exact : IsAntisymmetric cmp) (old pool : Pooled OutAttrs) (rows : List (K × ℕ)) (at : Option K) (e : K × ℕ)
    (so : IsFreeing cmp old pool rows at) (sorted : IsTable cmp rows) (is : slice_get (rows_after cmp at rows) 0 ≡ Some e) where
  freed_rest : rows_after cmp at rows ≡ e ∷ rows_after cmp (Some e.0) rows
  freed_rest = next_row total exact rows at e sorted is

  freed_are : (id : ℕ) → holders id (rows_after cmp at rows) ≡ one_at id (Some e.1) + holders id (rows_after cmp (Some e.0) rows)
  freed_are id = ap (holders id) freed_rest ∙ holders_first id e (rows_after cmp (Some e.0) rows)

  pub freed_next : 1 ≤ uses_of (held pool e.1)
  freed_next = let most = so.used e.1 in let all = freed_are e.1 in let here = one_here e.1 in omega (arith, most, all, here)

  pub one_freed : (next : Pooled OutAttrs) → IsChangedAt pool next e.1 (lowered (held pool e.1)) → IsFreeing cmp old next rows (Some e.0)
  one_freed next changed =
      let less = less_uses pool next e.1 freed_next changed in
      record {
        uses = λ id. let was = so.uses id in let now = less id in let all = freed_are id in let one = one_is id e.1 in omega (arith, was, now, all, one);
        values = λ id live. let back = less_values pool next e.1 freed_next changed id live in back ∙ so.values id (value_live (held pool id) (subst IsSome back (live_value (held next id) live)));
        used = λ id. let was = so.used id in let now = less id in let all = freed_are id in let one = one_is id e.1 in omega (arith, was, now, all, one);
      }

  pub shorter_freed : length (rows_after cmp (Some e.0) rows) < length (rows_after cmp at rows)
  shorter_freed = let len = ap length freed_rest in omega (arith, len)

pub all_freed : {K : Type 0} (cmp : K → K → Ordering) (old pool : Pooled OutAttrs) (rows : List (K × ℕ)) (at : Option K) → IsFreeing cmp old pool rows at → slice_get (rows_after cmp at rows) 0 ≡ None
    → (id : ℕ) → uses_of (held pool id) + holders id rows ≡ uses_of (held old id)
all_freed cmp old pool rows at so e id = let was = so.uses id in let none = ap (holders id) (none_rest (rows_after cmp at rows) e) in omega (arith, was, none)

pub room_left : (pool next : Pooled OutAttrs) (o now : FamilyRib) → o ≡ now → HasRoom (length now.adj.formatted + length now.adj.desired) pool → ((id : ℕ) → uses_of (held next id) ≡ uses_of (held pool id) + holders id o.adj.formatted) → HasRoom (length o.adj.desired) next
room_left pool next o now e room uses id =
    let was = room id in let more = uses id in let most = counted_most (only id) o.adj.formatted in let f = ap (λ (x : FamilyRib). length x.adj.formatted) e in let d = ap (λ (x : FamilyRib). length x.adj.desired) e in
    omega (arith, was, more, most, f, d)
