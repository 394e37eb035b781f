-- The next key of two tables, by what their ids stand for.
use Rattle.std.proofs.Common.{◌≡◌, ℕ, Bool, true, false, List, Option, Some, None, refl, sym, ◌∙◌, ap, subst, slice_get}
use Rattle.std.specs.Prelude.{IsSome, IfSome, if◌then◌else◌}
use Rattle.std.specs.Option.{option_map}
use Rattle.std.specs.Ordering.{is_lt}
use Rattle.ug_types.specs.declared.key.Key.{Key}
use Rattle.ug_types.specs.declared.route.OutAttrs.{OutAttrs}
use Rattle.ug_types.specs.declared.capabilities.Capabilities.{Capabilities}
use Rattle.ug_outbound.specs.declared.key.GroupKey.{GroupKey}
use Rattle.ug_intern.specs.Pools.{Held, Pooled, held, value_of}
use Rattle.ug_adjout.specs.Tables.{value_at, rows_after, IsTable}
use Rattle.ug_adjout.proofs.Lists.{value_at-projected}
use Rattle.ug_adjout.specs.Pending.{AdjRibOut}
use Rattle.ug_pack.specs.Ready.{key_order, IsKeyOf}
use Rattle.ug_pack.proofs.Keys.{key_total, key_exact}
use Rattle.ug_groups.specs.Values.{value_in, valued, valued_by}
use Rattle.ug_groups.specs.Holders.{IsCounted}
use Rattle.ug_groups.specs.Sent.{session_of}
use Rattle.ug_groups.specs.Standings.{AreOwn}
use Rattle.ug_groups.proofs.Holders.{desired_live}
use Rattle.ug_groups.specs.Walks.{IsFirst, IsNext, least}
use Rattle.ug_groups.proofs.WalkSteps.{first_is, merged}

-- what the key is desired with
pub value_is : (pool : Pooled OutAttrs) (rows : List (Key × ℕ)) (q : Key) → IsTable key_order rows → value_at key_order (valued pool rows) q ≡ valued_by pool (value_at key_order rows q)
value_is pool rows q sorted = value_at-projected key_total key_exact (value_in pool) rows q sorted

some_value : (h : Option (Held OutAttrs)) → IsSome h → IsSome (value_of h)
some_value None e = absurd cc
some_value (Some h) e = refl

module _ (pool : Pooled OutAttrs) (a : AdjRibOut Key ℕ) (sorted : IsTable key_order a.desired) (counted : IsCounted pool a) where
  none_stays : (q : Key) → value_at key_order a.desired q ≡ None → value_at key_order (valued pool a.desired) q ≡ None
  none_stays q e = value_is pool a.desired q sorted ∙ ap (valued_by pool) e

  some_stays : (q : Key) → IsSome (value_at key_order a.desired q) → IsSome (value_at key_order (valued pool a.desired) q)
  some_stays q e = subst IsSome (sym (value_is pool a.desired q sorted)) (by (value_at key_order a.desired q) (desired_live pool a counted q) e)
    where
      by : (o : Option ℕ) → IfSome o (λ id. IsSome (held pool id)) → IsSome o → IsSome (valued_by pool o)
      by None live e = absurd cc
      by (Some id) live e = some_value (held pool id) live

  first_valued : (at o : Option Key) → IsFirst a.desired at o → IsFirst (valued pool a.desired) at o
  first_valued at None f = λ q high. none_stays q (f q high)
  first_valued at (Some k) f = (f.0, some_stays k f.1, λ q high less. none_stays q (f.2 q high less))

  pub first_key : (at key : Option Key) (r : Option (Key × ℕ)) (o : Option Key) → key ≡ at → r ≡ slice_get (rows_after key_order key a.desired) 0 → o ≡ option_map (λ (e : Key × ℕ). e.0) r → IsFirst (valued pool a.desired) at o
  first_key at key r o same is o_is =
      subst (IsFirst (valued pool a.desired) at) (sym o_is) (first_valued at (option_map (λ (e : Key × ℕ). e.0) r) (first_is at a.desired r sorted (subst (λ (k : Option Key). r ≡ slice_get (rows_after key_order k a.desired) 0) same is)))

  pub first_own : (group : GroupKey) → AreOwn group a.desired → (at key : Option Key) (r : Option (Key × ℕ)) (o : Option Key) → key ≡ at → r ≡ slice_get (rows_after key_order key a.desired) 0 → o ≡ option_map (λ (e : Key × ℕ). e.0) r
      → IfSome o (λ k. IsKeyOf group.family group.add_path k)
  first_own group own at key r o same is o_is =
      subst (λ (x : Option Key). IfSome x (λ k. IsKeyOf group.family group.add_path k)) (sym o_is)
      (by (option_map (λ (e : Key × ℕ). e.0) r) (first_is at a.desired r sorted (subst (λ (k : Option Key). r ≡ slice_get (rows_after key_order k a.desired) 0) same is)))
    where
      by : (x : Option Key) → IsFirst a.desired at x → IfSome x (λ k. IsKeyOf group.family group.add_path k)
      by None f = tt
      by (Some k) f = own k f.1

pub next_is : (rows more : List (Key × OutAttrs)) (at a b o : Option Key) → IsFirst rows at a → IsFirst more at b → o ≡ least a b → IsNext rows more at o
next_is rows more at a b o f s is = subst (IsNext rows more at) (sym is) (merged rows more at a b f s)

of_session : (one other : GroupKey) → session_of other ≡ session_of one → (k : Key) → IsKeyOf other.family other.add_path k → IsKeyOf one.family one.add_path k
of_session one other same k own = subst (λ (c : Capabilities). IsKeyOf c.family c.add_path k) same own

pub next_own : (one other : GroupKey) → session_of other ≡ session_of one → (a b o : Option Key) → IfSome a (λ k. IsKeyOf one.family one.add_path k) → IfSome b (λ k. IsKeyOf other.family other.add_path k) → o ≡ least a b
    → IfSome o (λ k. IsKeyOf one.family one.add_path k)
next_own one other same a b o f s is = subst (λ (x : Option Key). IfSome x (λ k. IsKeyOf one.family one.add_path k)) (sym is) (by a b f s)
  where
    by : (a b : Option Key) → IfSome a (λ k. IsKeyOf one.family one.add_path k) → IfSome b (λ k. IsKeyOf other.family other.add_path k) → IfSome (least a b) (λ k. IsKeyOf one.family one.add_path k)
    by None None f s = tt
    by None (Some q) f s = of_session one other same q s
    by (Some k) None f s = f
    by (Some k) (Some q) f s = pick (is_lt (key_order q k))
      where
        pick : (t : Bool) → IfSome (if t then Some q else Some k) (λ k. IsKeyOf one.family one.add_path k)
        pick true = of_session one other same q s
        pick false = f
