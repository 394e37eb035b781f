-- An Adj-RIB-Out whose values are ids of a pool changes as the one with their values does.
use Rattle.std.proofs.Common.{◌≡◌, ℕ, Bool, true, false, cond, List, [], ◌∷◌, Option, Some, None, refl, sym, ap, subst, ◌∙◌, arith, nat_eq}
use Rattle.std.specs.Prelude.{not, ◌&&◌, ◌||◌, is_some, IsSome, IfSome, filter}
use Rattle.std.specs.Option.{option_eq}
use Rattle.std.specs.Map.{keys_of}
use Rattle.std.specs.BTreeMap.{is_at}
use Rattle.std.specs.List.{AllByRecursion}
use Rattle.std.proofs.lemmas.Bool.Decides.{nat_tests}
use Rattle.std.proofs.lemmas.Map.Keys.{sorted_head, sorted_tail}
use Rattle.ug_types.specs.declared.key.Key.{Key}
use Rattle.ug_types.specs.declared.route.OutAttrs.{OutAttrs}
use Rattle.ug_types.specs.contracts.route.OutAttrsEq.TheImpl.Laws as out_laws
use Rattle.ug_types.specs.Keys.{weight_of}
use Rattle.ug_outbound.specs.declared.key.GroupKey.{GroupKey}
use Rattle.ug_outbound.specs.Keys.{limit_of}
use Rattle.ug_intern.specs.Pools.{Held, Pooled, held, value_of, IsOneId}
use Rattle.ug_adjout.specs.Tables.{has, without, joined, value_at, with_value, IsTable}
use Rattle.ug_adjout.specs.TableLaws.{value_at-other, value_at-here, with_value-sorted, none_above, one_key, at_itself}
use Rattle.ug_adjout.specs.Pending.{AdjRibOut, requeue, still_forced, waits, settled, with_desired, with_all_forced, with_formatted, with_all_formatted}
use Rattle.ug_adjout.specs.Formatting.{fitting, withdrawals, announcements, of_first_value, value_of_first, alike, announced_next, withdrawn_next, Due}
use Rattle.ug_adjout.specs.Stored.{projected_with, of_row}
use Rattle.ug_adjout.proofs.Lists.{value_at-projected, projected-with_value}
use Rattle.ug_pack.specs.Ready.{key_order}
use Rattle.ug_pack.specs.Rooms.{room, room_beside}
use Rattle.ug_pack.specs.Packets.{room_by, next_due}
use Rattle.ug_pack.proofs.Keys.{key_total, key_exact}
use Rattle.ug_group_rules.specs.Packets.{Rows, same_out, all_forced, with_told, routes_due}
use Rattle.ug_groups.specs.Values.{value_in, valued, out_in, announced_by, due_in, IsLiveId, AreLive}

-- equal numbers are one
one_number : (a b : ℕ) → nat_eq a b ≡ true → a ≡ b
one_number a b e = grind (arith, nat_tests)

-- where pool ids have one value each, tests on ids and on values agree
module _ (pool : Pooled OutAttrs) (one : IsOneId same_out pool) where
  abbrev f : ℕ → Option OutAttrs
  f = value_in pool

  abbrev IsLiveOf : Option ℕ → Type 0
  IsLiveOf o = IfSome o (IsLiveId pool)

  some_value : (h : Option (Held OutAttrs)) → IsSome h → true ≡ is_some (value_of h)
  some_value None e = absurd cc
  some_value (Some h) e = refl

  pub some_same : (o : Option ℕ) → IsLiveOf o → is_some o ≡ is_some (of_row f o)
  some_same None live = refl
  some_same (Some id) live = some_value (held pool id) live

  none_is : (h : Option (Held OutAttrs)) → IsSome h → false ≡ option_eq same_out None (value_of h)
  none_is None e = absurd cc
  none_is (Some h) e = refl

  is_none_of : (h : Option (Held OutAttrs)) → IsSome h → false ≡ option_eq same_out (value_of h) None
  is_none_of None e = absurd cc
  is_none_of (Some h) e = refl

  itself : (h : Option (Held OutAttrs)) → IsSome h → true ≡ option_eq same_out (value_of h) (value_of h)
  itself None e = absurd cc
  itself (Some h) e = sym (out_laws.lawful.laws.refl h.value)

  false_of : (b : Bool) → (b ≡ true → ⊥) → false ≡ b
  false_of true h = absurd (h refl)
  false_of false h = refl

  others : (a b : ℕ) (g h : Option (Held OutAttrs)) → held pool a ≡ g → held pool b ≡ h → IsSome g → IsSome h → nat_eq a b ≡ false → false ≡ option_eq same_out (value_of g) (value_of h)
  others a b None h ea eb lg lh e = absurd cc
  others a b (Some g) None ea eb lg lh e = absurd cc
  others a b (Some g) (Some h) ea eb lg lh e = false_of _ (λ t. apart a b e (one a b g h ea eb t))
    where
      apart : (a b : ℕ) → nat_eq a b ≡ false → a ≡ b → ⊥
      apart a b e same = grind (arith, nat_tests)

  pub eq_same : (o p : Option ℕ) → IsLiveOf o → IsLiveOf p → option_eq nat_eq o p ≡ option_eq same_out (of_row f o) (of_row f p)
  eq_same None None l m = refl
  eq_same None (Some b) l m = none_is (held pool b) m
  eq_same (Some a) None l m = is_none_of (held pool a) l
  eq_same (Some a) (Some b) l m = by (nat_eq a b) refl
    where
      by : (t : Bool) → nat_eq a b ≡ t → t ≡ option_eq same_out (f a) (f b)
      by true e = subst (λ c. true ≡ option_eq same_out (f a) (f c)) (one_number a b e) (itself (held pool a) l)
      by false e = others a b (held pool a) (held pool b) refl refl l m e

  -- ---- tables

  pub at : (rows : List (Key × ℕ)) → IsTable key_order rows → (q : Key) → value_at key_order (valued pool rows) q ≡ of_row f (value_at key_order rows q)
  at rows sorted q = value_at-projected key_total key_exact f rows q sorted

  pub there : (rows : List (Key × ℕ)) → IsTable key_order rows → AreLive pool rows → (q : Key) → is_some (value_at key_order rows q) ≡ is_some (value_at key_order (valued pool rows) q)
  there rows sorted live q = some_same (value_at key_order rows q) (live q) ∙ ap is_some (sym (at rows sorted q))

  pub with_same : (rows : List (Key × ℕ)) (key : Key) (w : Option ℕ) → IsTable key_order rows → valued pool (with_value key_order rows key w) ≡ with_value key_order (valued pool rows) key (of_row f w)
  with_same rows key w sorted = projected-with_value key_total key_exact f rows key w sorted

  pub live_with : (rows : List (Key × ℕ)) (key : Key) (w : Option ℕ) → IsTable key_order rows → AreLive pool rows → IsLiveOf w → AreLive pool (with_value key_order rows key w)
  live_with rows key w sorted live here q = by (is_at (key_order q) key) refl
    where
      by : (b : Bool) → is_at (key_order q) key ≡ b → IsLiveOf (value_at key_order (with_value key_order rows key w) q)
      by true e =
          let same : q ≡ key = one_key key_total key_exact q key e in
          subst (λ k. IsLiveOf (value_at key_order (with_value key_order rows key w) k)) (sym same) (subst IsLiveOf (sym (value_at-here key_total key_exact rows key w sorted)) here)
      by false e = subst IsLiveOf (sym (value_at-other key_total key_exact rows key q w e)) (live q)

  -- ---- what waits

  module _ (formatted desired : List (Key × ℕ)) (fs : IsTable key_order formatted) (ds : IsTable key_order desired) (fl : AreLive pool formatted) (dl : AreLive pool desired) where
    differ_same : (q : Key) → option_eq nat_eq (value_at key_order formatted q) (value_at key_order desired q) ≡ option_eq same_out (value_at key_order (valued pool formatted) q) (value_at key_order (valued pool desired) q)
    differ_same q =
        eq_same (value_at key_order formatted q) (value_at key_order desired q) (fl q) (dl q)
        ∙ ap (λ v. option_eq same_out v (of_row f (value_at key_order desired q))) (sym (at formatted fs q))
        ∙ ap (option_eq same_out (value_at key_order (valued pool formatted) q)) (sym (at desired ds q))

    pub waits_same : (forced : List Key) (q : Key) → waits key_order nat_eq formatted desired forced q ≡ waits key_order same_out (valued pool formatted) (valued pool desired) forced q
    waits_same forced q =
        ap (λ b. not b || (has key_order forced q && is_some (value_at key_order desired q))) (differ_same q)
        ∙ ap (λ b. not (option_eq same_out (value_at key_order (valued pool formatted) q) (value_at key_order (valued pool desired) q)) || (has key_order forced q && b)) (there desired ds dl q)

    pub settled_same : (forced pending changed : List Key)
        → out_in pool (settled key_order nat_eq formatted desired forced pending changed) ≡ settled key_order same_out (valued pool formatted) (valued pool desired) forced pending changed
    settled_same forced pending changed =
        ap (λ (test : Key → Bool). record { formatted = valued pool formatted; desired = valued pool desired; forced = forced; pending = requeue key_order test pending changed }) (λ i q. waits_same forced q i)

    pub still_same : (forced : List Key) → still_forced key_order formatted desired forced ≡ still_forced key_order (valued pool formatted) (valued pool desired) forced
    still_same forced =
        ap (λ (test : Key → Bool). filter test forced) (λ i q. (ap (λ b. b || is_some (value_at key_order desired q)) (there formatted fs fl q) ∙ ap (λ b. is_some (value_at key_order (valued pool formatted) q) || b) (there desired ds dl q)) i)

  -- ---- one key changes

  pub desired_same : (a : AdjRibOut Key ℕ) (key : Key) (w : Option ℕ) → IsTable key_order a.formatted → IsTable key_order a.desired → AreLive pool a.formatted → AreLive pool a.desired → IsLiveOf w
      → out_in pool (with_desired key_order nat_eq a key w) ≡ with_desired key_order same_out (out_in pool a) key (of_row f w)
  desired_same a key w fs ds fl dl here =
      let later = with_value key_order a.desired key w in
      let ls = with_value-sorted key_total key_exact a.desired key w ds in
      let ll = live_with a.desired key w ds dl here in
      settled_same a.formatted later fs ls fl ll (still_forced key_order a.formatted later a.forced) a.pending (key ∷ [])
      ∙ ap (λ forced. settled key_order same_out (valued pool a.formatted) (valued pool later) forced a.pending (key ∷ [])) (still_same a.formatted later fs ls fl ll a.forced)
      ∙ ap (λ (rows : Rows). settled key_order same_out (valued pool a.formatted) rows (still_forced key_order (valued pool a.formatted) rows a.forced) a.pending (key ∷ [])) (with_same a.desired key w ds)

  pub formatted_same : (a : AdjRibOut Key ℕ) (key : Key) → IsTable key_order a.formatted → IsTable key_order a.desired → AreLive pool a.formatted → AreLive pool a.desired
      → out_in pool (with_formatted key_order nat_eq a key) ≡ with_formatted key_order same_out (out_in pool a) key
  formatted_same a key fs ds fl dl =
      let w = value_at key_order a.desired key in let later = with_value key_order a.formatted key w in
      settled_same later a.desired (with_value-sorted key_total key_exact a.formatted key w fs) ds (live_with a.formatted key w fs fl (dl key)) dl (without key_order a.forced key) a.pending (key ∷ [])
      ∙ ap (λ (rows : Rows). settled key_order same_out rows (valued pool a.desired) (without key_order a.forced key) a.pending (key ∷ []))
      (with_same a.formatted key w fs ∙ ap (with_value key_order (valued pool a.formatted) key) (sym (at a.desired ds key)))

  pub told_same : (keys : List Key) (a : AdjRibOut Key ℕ) → IsTable key_order a.formatted → IsTable key_order a.desired → AreLive pool a.formatted → AreLive pool a.desired
      → out_in pool (with_all_formatted key_order nat_eq a keys) ≡ with_told keys (out_in pool a)
  told_same [] a fs ds fl dl = refl
  told_same (key ∷ keys) a fs ds fl dl =
      let w = value_at key_order a.desired key in
      told_same keys (with_formatted key_order nat_eq a key) (with_value-sorted key_total key_exact a.formatted key w fs) ds (live_with a.formatted key w fs fl (dl key)) dl
      ∙ ap (with_told keys) (formatted_same a key fs ds fl dl)

  -- ---- all keys are forced

  keys_with : (h : Option (Held OutAttrs)) (key : Key) (rest : Rows) (keys : List Key) → IsSome h → keys_of rest ≡ keys → keys_of (projected_with {V = ℕ} f key (value_of h) rest) ≡ key ∷ keys
  keys_with None key rest keys e is = absurd cc
  keys_with (Some h) key rest keys e is = ap (λ l. key ∷ l) is

  keys_kept : (rows : List (Key × ℕ)) → AllByRecursion (λ e. IsLiveId pool e.1) rows → keys_of (valued pool rows) ≡ keys_of rows
  keys_kept [] all = refl
  keys_kept (e ∷ rows) all = keys_with (held pool e.1) e.0 (valued pool rows) (keys_of rows) all.0 (keys_kept rows all.1)

  pub each_live : (rows : List (Key × ℕ)) → IsTable key_order rows → AreLive pool rows → AllByRecursion (λ e. IsLiveId pool e.1) rows
  each_live [] s live = tt
  each_live (e ∷ rows) s live = (subst IsLiveOf (first_at (is_at (key_order e.0) e.0) (at_itself key_total key_exact e.0)) (live e.0), each_live rows (sorted_tail key_order e.0 (keys_of rows) s) (λ q. by q (is_at (key_order q) e.0) refl))
    where
      first_at : (b : Bool) → b ≡ true → cond b (Some e.1) (value_at key_order rows e.0) ≡ Some e.1
      first_at true t = refl
      first_at false t = absurd cc

      by : (q : Key) (b : Bool) → is_at (key_order q) e.0 ≡ b → IsLiveOf (value_at key_order rows q)
      by q true t =
          let none = none_above key_total key_exact e.0 rows (sorted_head key_order e.0 (keys_of rows) s) in
          subst (λ k. IsLiveOf (value_at key_order rows k)) (sym (one_key key_total key_exact q e.0 t)) (subst IsLiveOf (sym none) tt)
      by q false t = subst IsLiveOf (ap (λ b. cond b (Some e.1) (value_at key_order rows q)) t) (live q)

  pub keys_same : (rows : List (Key × ℕ)) → IsTable key_order rows → AreLive pool rows → keys_of (valued pool rows) ≡ keys_of rows
  keys_same rows s live = keys_kept rows (each_live rows s live)

  pub forced_same : (a : AdjRibOut Key ℕ) → IsTable key_order a.formatted → IsTable key_order a.desired → AreLive pool a.formatted → AreLive pool a.desired
      → out_in pool (with_all_forced key_order nat_eq a) ≡ all_forced (out_in pool a)
  forced_same a fs ds fl dl =
      let keys = joined key_order (keys_of a.formatted) (keys_of a.desired) in
      settled_same a.formatted a.desired fs ds fl dl keys a.pending keys
      ∙ ap (λ (ks : List Key). settled key_order same_out (valued pool a.formatted) (valued pool a.desired) ks a.pending ks)
      (ap (λ ks. joined key_order ks (keys_of a.desired)) (sym (keys_same a.formatted fs fl)) ∙ ap (joined key_order (keys_of (valued pool a.formatted))) (sym (keys_same a.desired ds dl)))

  -- ---- the packet that is owed next

  module _ (group : GroupKey) (a : AdjRibOut Key ℕ) (ds : IsTable key_order a.desired) (dl : AreLive pool a.desired) where
    withdrawn_same : withdrawals key_order a ≡ withdrawals key_order (out_in pool a)
    withdrawn_same = ap (λ (test : Key → Bool). filter test a.pending) (λ i q. not (there a.desired ds dl q i))

    announced_same : announcements key_order a ≡ announcements key_order (out_in pool a)
    announced_same = ap (λ (test : Key → Bool). filter test a.pending) (λ i q. there a.desired ds dl q i)

    alike_of : (keys : List Key) → of_first_value nat_eq (value_at key_order a.desired) keys ≡ of_first_value same_out (value_at key_order (valued pool a.desired)) keys
    alike_of [] = refl
    alike_of (key ∷ keys) =
        ap (λ (test : Key → Bool). filter test (key ∷ keys)) (λ i q.
        (eq_same (value_at key_order a.desired q) (value_at key_order a.desired key) (dl q) (dl key)
        ∙ ap (λ v. option_eq same_out v (of_row f (value_at key_order a.desired key))) (sym (at a.desired ds q))
        ∙ ap (option_eq same_out (value_at key_order (valued pool a.desired) q)) (sym (at a.desired ds key))) i)

    first_of : (keys : List Key) → value_of_first (value_at key_order (valued pool a.desired)) keys ≡ of_row f (value_of_first (value_at key_order a.desired) keys)
    first_of [] = refl
    first_of (key ∷ keys) = at a.desired ds key

    first_live : (keys : List Key) → IsLiveOf (value_of_first (value_at key_order a.desired) keys)
    first_live [] = tt
    first_live (key ∷ keys) = dl key

    abbrev at_most : ℕ → OutAttrs → ℕ
    at_most limit o = room_beside group.family limit o.attrs

    announce : (limit : ℕ) (h : Option (Held OutAttrs)) (keys : List Key) → IsSome h
        → announced_next weight_of (room group.family limit) (at_most limit) (value_of h) keys ≡ announced_by pool (value_of h) (fitting weight_of (room_by pool limit group.family (value_of h)) keys)
    announce limit None keys e = absurd cc
    announce limit (Some h) keys e = refl

    next_announced : (limit : ℕ) (o : Option ℕ) (keys : List Key) → IsLiveOf o
        → announced_next weight_of (room group.family limit) (at_most limit) (of_row f o) keys
        ≡ due_in pool (announced_next weight_of (room group.family limit) (λ id. room_by pool limit group.family (value_of (held pool id))) o keys)
    next_announced limit None keys live = refl
    next_announced limit (Some id) keys live = announce limit (held pool id) keys live

    next_withdrawn : (room : ℕ) (beside : OutAttrs → ℕ) (beside_id : ℕ → ℕ) (keys : List Key) (d : Due Key OutAttrs) (e : Due Key ℕ) → d ≡ due_in pool e
        → withdrawn_next weight_of room beside keys d ≡ due_in pool (withdrawn_next weight_of room beside_id keys e)
    next_withdrawn room beside beside_id [] d e is = is
    next_withdrawn room beside beside_id (key ∷ keys) d e is = refl

    pub due_same : routes_due group (out_in pool a) ≡ due_in pool (next_due pool (limit_of group) group.family a)
    due_same =
        let limit = limit_of group in
        let first = value_of_first (value_at key_order a.desired) (announcements key_order a) in
        ap (λ (keys : List Key). withdrawn_next weight_of (room group.family limit) (at_most limit) keys
        (announced_next weight_of (room group.family limit) (at_most limit) (value_of_first (value_at key_order (valued pool a.desired)) (announcements key_order (out_in pool a))) (alike key_order same_out (out_in pool a)))) (sym withdrawn_same)
        ∙ next_withdrawn (room group.family limit) (at_most limit) (λ id. room_by pool limit group.family (value_of (held pool id))) (withdrawals key_order a) _ _
        (ap (λ (keys : List Key). announced_next weight_of (room group.family limit) (at_most limit) (value_of_first (value_at key_order (valued pool a.desired)) keys) (of_first_value same_out (value_at key_order (valued pool a.desired)) keys)) (sym announced_same)
        ∙ ap (λ v. announced_next weight_of (room group.family limit) (at_most limit) v (of_first_value same_out (value_at key_order (valued pool a.desired)) (announcements key_order a))) (first_of (announcements key_order a))
        ∙ ap (announced_next weight_of (room group.family limit) (at_most limit) (of_row f first)) (sym (alike_of (announcements key_order a)))
        ∙ next_announced limit first (alike key_order nat_eq a) (first_live (announcements key_order a)))
