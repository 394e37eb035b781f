-- How often ids are held, where a row changes and where the pool does.
use Rattle.std.proofs.Common.{◌≡◌, ℕ, ◌+◌, ◌-◌, ◌≤◌, Bool, true, false, List, Option, Some, None, refl, sym, ap, subst, ◌∙◌, arith, nat_eq}
use Rattle.std.specs.Prelude.{◌==◌, is_some, IsSome, IfSome, IfNone, if◌then◌else◌}
use Rattle.std.proofs.lemmas.Bool.Decides.{nat_tests}
use Rattle.ug_types.specs.declared.key.Key.{Key}
use Rattle.ug_types.specs.declared.route.OutAttrs.{OutAttrs}
use Rattle.ug_intern.specs.Pools.{Held, Pooled, held, uses_of, value_of, raised, lowered, IsChangedAt, IsNew}
use Rattle.ug_adjout.specs.Tables.{value_at, with_value, IsTable}
use Rattle.ug_adjout.specs.Pending.{AdjRibOut, with_desired, with_formatted}
use Rattle.ug_adjout.proofs.Counts.{inserted_count, removed_count}
use Rattle.ug_pack.specs.Ready.{key_order}
use Rattle.ug_pack.proofs.Keys.{key_total}
use Rattle.ug_group_rules.specs.Packets.{same_out}
use Rattle.ug_groups.specs.Values.{value_in, IsLiveId, AreLive}
use Rattle.ug_groups.specs.Holders.{only, holders, one_at, IsCounted, IsMoved, IsExchanged, IsUsed}

pub holders_with : (id : ℕ) (rows : List (Key × ℕ)) (key : Key) (w : Option ℕ) → IsTable key_order rows → holders id (with_value key_order rows key w) + one_at id (value_at key_order rows key) ≡ holders id rows + one_at id w
holders_with id rows key None s = let step = removed_count (only id) key_order rows key in omega (arith, step)
holders_with id rows key (Some v) s = inserted_count (only id) key_order key_total rows key v s

same_number : (n : ℕ) → nat_eq n n ≡ true
same_number n = grind (arith, nat_tests)

pub one_here : (id : ℕ) → one_at id (Some id) ≡ 1
one_here id = ap (λ (b : Bool). if is_some {T = ℕ} (if b then Some 0 else None) then 1 else 0) (same_number id)

pub held_there : (rows : List (Key × ℕ)) (q : Key) (id : ℕ) → value_at key_order rows q ≡ Some id → 1 ≤ holders id rows
held_there rows q id e =
    let gone = removed_count (only id) key_order rows q in let here : one_at id (value_at key_order rows q) ≡ 1 = ap (one_at id) e ∙ one_here id in omega (arith, gone, here)

some_use : (h : Option (Held OutAttrs)) → 1 ≤ uses_of h → IsSome h
some_use None le = absurd (omega (arith, le))
some_use (Some h) le = refl

pub live_by : (pool : Pooled OutAttrs) (rows : List (Key × ℕ)) → ((id : ℕ) → holders id rows ≤ uses_of (held pool id)) → AreLive pool rows
live_by pool rows most q = by (value_at key_order rows q) refl
  where
    by : (o : Option ℕ) → value_at key_order rows q ≡ o → IfSome o (IsLiveId pool)
    by None e = tt
    by (Some id) e = some_use (held pool id) (let one = held_there rows q id e in let all = most id in omega (arith, one, all))

module _ (pool : Pooled OutAttrs) (a : AdjRibOut Key ℕ) (counted : IsCounted pool a) where
  pub formatted_live : AreLive pool a.formatted
  formatted_live = live_by pool a.formatted (λ id. let all = counted id in omega (arith, all))

  pub desired_live : AreLive pool a.desired
  desired_live = live_by pool a.desired (λ id. let all = counted id in omega (arith, all))

  pub used_formatted : (q : Key) (id : ℕ) → value_at key_order a.formatted q ≡ Some id → 1 ≤ uses_of (held pool id)
  used_formatted q id e = let one = held_there a.formatted q id e in let all = counted id in omega (arith, one, all)

  pub used_desired : (q : Key) (id : ℕ) → value_at key_order a.desired q ≡ Some id → 1 ≤ uses_of (held pool id)
  used_desired q id e = let one = held_there a.desired q id e in let all = counted id in omega (arith, one, all)

-- ---- the pool, where an id is held once more, and once less

abbrev is_one : ℕ → ℕ → ℕ
is_one q id = if q == id then 1 else 0

raised_uses : (h : Option (Held OutAttrs)) → 1 ≤ uses_of h → uses_of (raised h) ≡ uses_of h + 1
raised_uses None le = absurd (omega (arith, le))
raised_uses (Some h) le = refl

raised_value : (h : Option (Held OutAttrs)) → value_of (raised h) ≡ value_of h
raised_value None = refl
raised_value (Some h) = refl

one_number : (a b : ℕ) → nat_eq a b ≡ true → a ≡ b
one_number a b e = grind (arith, nat_tests)

-- the pool, where an id is held once more
module _ (old new : Pooled OutAttrs) (id : ℕ) (used : 1 ≤ uses_of (held old id)) (more : IsChangedAt old new id (raised (held old id))) where
  pub more_uses : (q : ℕ) → uses_of (held new q) ≡ uses_of (held old q) + is_one q id
  more_uses q = ap uses_of (more q) ∙ by (nat_eq q id) refl
    where
      by : (b : Bool) → nat_eq q id ≡ b → uses_of (if b then raised (held old id) else held old q) ≡ uses_of (held old q) + (if b then 1 else 0)
      by true e = raised_uses (held old id) used ∙ ap (λ k. uses_of (held old k) + 1) (sym (one_number q id e))
      by false e = omega arith

  pub more_values : (q : ℕ) → value_in new q ≡ value_in old q
  more_values q = ap value_of (more q) ∙ by (nat_eq q id) refl
    where
      by : (b : Bool) → nat_eq q id ≡ b → value_of (if b then raised (held old id) else held old q) ≡ value_of (held old q)
      by true e = raised_value (held old id) ∙ ap (λ k. value_of (held old k)) (sym (one_number q id e))
      by false e = refl

lowered_uses : (h : Option (Held OutAttrs)) → 1 ≤ uses_of h → uses_of (lowered h) + 1 ≡ uses_of h
lowered_uses None le = absurd (omega (arith, le))
lowered_uses (Some h) le = by (nat_eq h.uses 1) refl
  where
    by : (b : Bool) → nat_eq h.uses 1 ≡ b → uses_of (if b then None else Some (record { value = h.value; uses = h.uses - 1 })) + 1 ≡ h.uses
    by true e = let one = one_number h.uses 1 e in omega (arith, one)
    by false e = omega (arith, le)

lowered_value : (h : Option (Held OutAttrs)) → IsSome (lowered h) → value_of (lowered h) ≡ value_of h
lowered_value None live = refl
lowered_value (Some h) live = by (nat_eq h.uses 1) live
  where
    by : (b : Bool) → IsSome {T = Held OutAttrs} (if b then None else Some (record { value = h.value; uses = h.uses - 1 })) → value_of {T = OutAttrs} (if b then None else Some (record { value = h.value; uses = h.uses - 1 })) ≡ Some h.value
    by true live = absurd cc
    by false live = refl

-- and where it is held once less
module _ (old new : Pooled OutAttrs) (id : ℕ) (used : 1 ≤ uses_of (held old id)) (less : IsChangedAt old new id (lowered (held old id))) where
  pub less_uses : (q : ℕ) → uses_of (held new q) + is_one q id ≡ uses_of (held old q)
  less_uses q = ap (λ h. uses_of h + is_one q id) (less q) ∙ by (nat_eq q id) refl
    where
      by : (b : Bool) → nat_eq q id ≡ b → uses_of (if b then lowered (held old id) else held old q) + (if b then 1 else 0) ≡ uses_of (held old q)
      by true e = lowered_uses (held old id) used ∙ ap (λ k. uses_of (held old k)) (sym (one_number q id e))
      by false e = omega arith

  pub less_values : (q : ℕ) → IsSome (held new q) → value_in new q ≡ value_in old q
  less_values q live = ap value_of (less q) ∙ by (nat_eq q id) refl (subst IsSome (less q) live)
    where
      by : (b : Bool) → nat_eq q id ≡ b → IsSome (if b then lowered (held old id) else held old q) → value_of (if b then lowered (held old id) else held old q) ≡ value_of (held old q)
      by true e live = lowered_value (held old id) live ∙ ap (λ k. value_of (held old k)) (sym (one_number q id e))
      by false e live = refl

-- ---- one key

pub one_is : (q id : ℕ) → one_at q (Some id) ≡ is_one q id
one_is q id = by (nat_eq q id) (nat_eq id q) refl refl
  where
    turned : (a b : ℕ) → nat_eq a b ≡ true → nat_eq b a ≡ false → ⊥
    turned a b e g = grind (arith, nat_tests)

    by : (b c : Bool) → nat_eq q id ≡ b → nat_eq id q ≡ c → ◌≡◌ {A = ℕ} (if is_some {T = ℕ} (if c then Some 0 else None) then 1 else 0) (if b then 1 else 0)
    by true true e g = refl
    by true false e g = absurd (turned q id e g)
    by false true e g = absurd (turned id q g e)
    by false false e g = refl

-- a key is formatted
module _ (old new : Pooled OutAttrs) (a : AdjRibOut Key ℕ) (key : Key) (turned : IsExchanged old new (value_at key_order a.formatted key) (value_at key_order a.desired key)) (sorted : IsTable key_order a.formatted) where
  pub moved_formatted : IsMoved old new a (with_formatted key_order nat_eq a key)
  moved_formatted = record {
    counts = λ id.
        let rows = holders_with id a.formatted key (value_at key_order a.desired key) sorted in
        let uses = turned.uses id in
        omega (arith, rows, uses);
    values = turned.values;
  }

-- a key is desired
module _ (old new : Pooled OutAttrs) (a : AdjRibOut Key ℕ) (key : Key) (w : Option ℕ) (turned : IsExchanged old new (value_at key_order a.desired key) w) (sorted : IsTable key_order a.desired) where
  pub moved_desired : IsMoved old new a (with_desired key_order nat_eq a key w)
  moved_desired = record {
    counts = λ id.
        let rows = holders_with id a.desired key w sorted in
        let uses = turned.uses id in
        omega (arith, rows, uses);
    values = turned.values;
  }

-- ---- changes one after the other

pub moved_none : (pool : Pooled OutAttrs) (a : AdjRibOut Key ℕ) → IsMoved pool pool a a
moved_none pool a = record { counts = λ id. refl; values = λ id live. refl }

pub counted_moved : (old new : Pooled OutAttrs) (a b : AdjRibOut Key ℕ) → IsCounted old a → IsMoved old new a b → IsCounted new b
counted_moved old new a b counted moved id = let was = counted id in let now = moved.counts id in omega (arith, was, now)

live_value : (h : Option (Held OutAttrs)) → IsSome h → IsSome (value_of h)
live_value None e = absurd cc
live_value (Some h) e = refl

value_live : (h : Option (Held OutAttrs)) → IsSome (value_of h) → IsSome h
value_live None e = absurd cc
value_live (Some h) e = refl

pub moved_on : (p q r : Pooled OutAttrs) (a b c : AdjRibOut Key ℕ) → IsMoved p q a b → IsMoved q r b c → IsMoved p r a c
moved_on p q r a b c first next = record {
  counts = λ id. let one = first.counts id in let two = next.counts id in omega (arith, one, two);
  values = λ id live. let back = next.values id live in back ∙ first.values id (value_live (held q id) (subst IsSome back (live_value (held r id) live)));
}

-- an id is held in place of another
pub turned_by : (p q r : Pooled OutAttrs) (was now : Option ℕ) → ((id : ℕ) → uses_of (held q id) ≡ uses_of (held p id) + one_at id now) → ((id : ℕ) → value_in q id ≡ value_in p id)
    → ((id : ℕ) → uses_of (held r id) + one_at id was ≡ uses_of (held q id)) → ((id : ℕ) → IsSome (held r id) → value_in r id ≡ value_in q id) → IsExchanged p r was now
turned_by p q r was now more same less still = record {
  uses = λ id. let up = more id in let down = less id in omega (arith, up, down);
  values = λ id live. still id live ∙ same id;
}

pub used_by : (pool : Pooled OutAttrs) (rows : List (Key × ℕ)) → ((id : ℕ) → holders id rows ≤ uses_of (held pool id)) → (q : Key) → IsUsed pool (value_at key_order rows q)
used_by pool rows most q = by (value_at key_order rows q) refl
  where
    by : (o : Option ℕ) → value_at key_order rows q ≡ o → IsUsed pool o
    by None e = tt
    by (Some id) e = let one = held_there rows q id e in let all = most id in omega (arith, one, all)

pub used_later : (p q : Pooled OutAttrs) (o : Option ℕ) → ((id : ℕ) → uses_of (held p id) ≤ uses_of (held q id)) → IsUsed p o → IsUsed q o
used_later p q None more u = tt
used_later p q (Some id) more u = let le = more id in omega (arith, le, u)

pub one_most : (id : ℕ) (o : Option ℕ) → one_at id o ≤ 1
one_most id None = omega arith
one_most id (Some n) = by (nat_eq n id)
  where
    by : (b : Bool) → (if is_some {T = ℕ} (if b then Some 0 else None) then 1 else 0) ≤ 1
    by true = omega arith
    by false = omega arith

pub used_live : (pool : Pooled OutAttrs) (id : ℕ) → 1 ≤ uses_of (held pool id) → IsSome (held pool id)
used_live pool id le = some_use (held pool id) le

pub formatted_used : (pool : Pooled OutAttrs) (a : AdjRibOut Key ℕ) (q : Key) (o : Option ℕ) → IsCounted pool a → o ≡ value_at key_order a.formatted q → IsUsed pool o
formatted_used pool a q o counted e = subst (IsUsed pool) (sym e) (used_by pool a.formatted (λ id. let all = counted id in omega (arith, all)) q)

pub desired_used : (pool : Pooled OutAttrs) (a : AdjRibOut Key ℕ) (q : Key) (o : Option ℕ) → IsCounted pool a → o ≡ value_at key_order a.desired q → IsUsed pool o
desired_used pool a q o counted e = subst (IsUsed pool) (sym e) (used_by pool a.desired (λ id. let all = counted id in omega (arith, all)) q)

-- ---- a value is held

-- the pool, where the id of a value is held once more, or is new
module _ (old new : Pooled OutAttrs) (id : ℕ) (value : OutAttrs) where
  abbrev pub AreSame : Held OutAttrs → Type 0
  AreSame x = (same_out value x.value ≡ true) × IsChangedAt old new id (raised (Some x))

  abbrev pub IsFresh : Type 0
  IsFresh = IsNew same_out old value × IsChangedAt old new id (Some (record { value = value; uses = 1 }))

  held_by : (b : Bool) (q : ℕ) (now : Option (Held OutAttrs)) → nat_eq q id ≡ b → held new q ≡ (if b then now else held old q) → uses_of now ≡ uses_of (held old id) + 1 → uses_of (held new q) ≡ uses_of (held old q) + (if b then 1 else 0)
  held_by true q now e is more = ap uses_of is ∙ more ∙ ap (λ k. uses_of (held old k) + 1) (sym (one_number q id e))
  held_by false q now e is more = let same = ap uses_of is in omega (arith, same)

  held_all : (now : Option (Held OutAttrs)) → IsChangedAt old new id now → uses_of now ≡ uses_of (held old id) + 1 → (q : ℕ) → uses_of (held new q) ≡ uses_of (held old q) + one_at q (Some id)
  held_all now changed more q = held_by (nat_eq q id) q now refl (changed q) more ∙ ap (λ n. uses_of (held old q) + n) (sym (one_is q id))

  pub value_uses : (h : Option (Held OutAttrs)) → held old id ≡ h → IfSome h AreSame → IfNone h IsFresh → (q : ℕ) → uses_of (held new q) ≡ uses_of (held old q) + one_at q (Some id)
  value_uses None e known fresh = held_all (Some (record { value = value; uses = 1 })) fresh.1 (ap (λ (o : Option (Held OutAttrs)). uses_of o + 1) (sym e))
  value_uses (Some x) e known fresh = held_all (raised (Some x)) known.1 (ap (λ (o : Option (Held OutAttrs)). uses_of o + 1) (sym e))

  here : (now : Option (Held OutAttrs)) → IsChangedAt old new id now → held new id ≡ now
  here now changed = changed id ∙ ap (λ (b : Bool). if b then now else held old id) (same_number id)

  pub value_known : (h : Option (Held OutAttrs)) → IfSome h AreSame → IfSome h (λ x. (same_out value x.value ≡ true) × (value_in new id ≡ Some x.value))
  value_known None known = tt
  value_known (Some x) known = (known.0, ap value_of (here (raised (Some x)) known.1))

  pub value_fresh : (h : Option (Held OutAttrs)) → IfNone h IsFresh → IfNone h (value_in new id ≡ Some value)
  value_fresh None fresh = ap value_of (here (Some (record { value = value; uses = 1 })) fresh.1)
  value_fresh (Some x) fresh = tt

  pub value_others : (h : Option (Held OutAttrs)) → IfSome h AreSame → IfNone h IsFresh → (q : ℕ) → nat_eq q id ≡ false → held new q ≡ held old q
  value_others None known fresh q e = fresh.1 q ∙ ap (λ (b : Bool). if b then Some (record { value = value; uses = 1 }) else held old q) e
  value_others (Some x) known fresh q e = known.1 q ∙ ap (λ (b : Bool). if b then raised (Some x) else held old q) e
