-- What formatting one packet makes of a subgroup, and what a desired key and a request do.
use Rattle.std.proofs.Common.{◌≡◌, ◌⊎◌, inl, inr, ℕ, nat_eq, Bool, true, false, cond, not, List, [], ◌∷◌, Option, Some, None, refl, sym, ap, subst, ◌∙◌}
use Rattle.std.specs.Prelude.{is_some, IsSome, IfSome, ◌&&◌, ◌||◌, if◌then◌else◌}
use Rattle.std.specs.Option.{option_eq}
use Rattle.std.specs.List.{AllByRecursion}
use Rattle.std.specs.BTreeMap.{is_at}
use Rattle.ug_types.specs.declared.family.Family.{Family}
use Rattle.ug_types.specs.declared.key.Key.{Key}
use Rattle.ug_types.specs.declared.route.OutAttrs.{OutAttrs}
use Rattle.ug_types.specs.Bytes.{is_empty}
use Rattle.ug_intern.specs.Pools.{Held, Pooled, held, value_of, IsOneId}
use Rattle.ug_adjout.specs.Tables.{has, value_at, IsTable}
use Rattle.ug_adjout.specs.TableLaws.{one_key, none_above, at_itself}
use Rattle.ug_adjout.specs.Pending.{AdjRibOut, IsExact}
use Rattle.ug_adjout.specs.PendingLaws.{exact-with_desired, exact-with_all_formatted}
use Rattle.ug_pack.specs.Ready.{key_order, IsKeyOf, IsLive, IsReady}
use Rattle.ug_pack.proofs.Keys.{key_total, key_exact}
use Rattle.ug_adjout.specs.Formatting.{Due}
use Rattle.ug_adjout.specs.Formatting.Due.{Nothing, Withdraws, Announces}
use Rattle.ug_adjout.specs.Stored.{projected_with, of_row}
use Rattle.ug_group_rules.specs.declared.phase.Phase.TheVariants.{Quiet, Owed, Open}
use Rattle.ug_group_rules.specs.Packets.{Rows, Out, Says, EndOfRib, RefreshBegins, RefreshEnds, same_out, all_forced, with_told, routes_due}
use Rattle.ug_group_rules.specs.Machine.{Subgroup, is_owed, says_by, says_next, after_saying, formatted, asked, owes, is_level}
use Rattle.ug_groups.specs.declared.routed.Routed.{Routed}
use Rattle.ug_groups.specs.Values.{value_in, valued, out_in, IsLiveId, AreLive, valued_by}
use Rattle.ug_groups.specs.Holders.{IsCounted, IsMoved, IsUsed, IsExchanged}
use Rattle.ug_groups.specs.Packets.{said}
use Rattle.ug_groups.specs.FamilyRibs.{FamilyRib, AreDue}
use Rattle.ug_groups.specs.Sent.{session_of, IsSent, IsRouted}
use Rattle.ug_groups.specs.Standings.{Standing, seen, IsKept, IsFit, wanting, desiring, forced, begun, told, ended}
use Rattle.ug_groups.proofs.IdValues.{there, waits_same, desired_same, told_same, forced_same}
use Rattle.ug_adjout.proofs.Lists.{value_at-projected, sorted_projected}
use Rattle.std.specs.Map.{keys_of}
use Rattle.std.proofs.lemmas.Map.Keys.{sorted_head, sorted_tail}
use Rattle.ug_groups.proofs.Holders.{formatted_live, desired_live, used_desired, used_live, counted_moved, moved_desired}

-- ---- the pool moves on

each_live : (pool : Pooled OutAttrs) (rows : List (Key × ℕ)) → IsTable key_order rows → AreLive pool rows → AllByRecursion (λ e. IsLiveId pool e.1) rows
each_live pool [] s live = tt
each_live pool (e ∷ rows) s live =
    (subst (λ o. IfSome o (IsLiveId pool)) (first_at (is_at (key_order e.0) e.0) (at_itself key_total key_exact e.0)) (live e.0), each_live pool rows (sorted_tail key_order e.0 (keys_of rows) s) (λ q. by q (is_at (key_order q) e.0) refl))
  where
    first_at : (b : Bool) → b ≡ true → cond b (Some e.1) (value_at key_order rows e.0) ≡ Some e.1
    first_at true t = refl
    first_at false t = absurd cc

    by : (q : Key) (b : Bool) → is_at (key_order q) e.0 ≡ b → IfSome (value_at key_order rows q) (IsLiveId pool)
    by q true t =
        let none = none_above key_total key_exact e.0 rows (sorted_head key_order e.0 (keys_of rows) s) in
        subst (λ k. IfSome (value_at key_order rows k) (IsLiveId pool)) (sym (one_key key_total key_exact q e.0 t)) (subst (λ o. IfSome o (IsLiveId pool)) (sym none) tt)
    by q false t = subst (λ o. IfSome o (IsLiveId pool)) (ap (λ b. cond b (Some e.1) (value_at key_order rows q)) t) (live q)

value_rows : (old new : Pooled OutAttrs) (rows : List (Key × ℕ)) → AllByRecursion (λ e. IsLiveId new e.1) rows → ((id : ℕ) → IsSome (held new id) → value_in new id ≡ value_in old id) → valued new rows ≡ valued old rows
value_rows old new [] live same = refl
value_rows old new (e ∷ rows) live same =
    ap (λ v. projected_with {V = ℕ} (value_in new) e.0 v (valued new rows)) (same e.1 live.0) ∙ ap (λ (l : Rows). projected_with {V = ℕ} (value_in old) e.0 (value_in old e.1) l) (value_rows old new rows live.1 same)

pub out_moved : (old new : Pooled OutAttrs) (a b c : AdjRibOut Key ℕ) → IsTable key_order b.formatted → IsTable key_order b.desired → IsCounted new b → IsMoved old new a c → out_in new b ≡ out_in old b
out_moved old new a b c fs ds counted moved =
    ap (λ (rows : Rows). record { formatted = rows; desired = valued new b.desired; forced = b.forced; pending = b.pending }) (value_rows old new b.formatted (each_live new b.formatted fs (formatted_live new b counted)) moved.values)
    ∙ ap (λ (rows : Rows). record { formatted = valued old b.formatted; desired = rows; forced = b.forced; pending = b.pending }) (value_rows old new b.desired (each_live new b.desired ds (desired_live new b counted)) moved.values)

-- ---- the keys are ready

some_waits : (f d : Option ℕ) (h : Bool) → (not (option_eq nat_eq f d) || (h && is_some d)) ≡ true → (IsSome f) ⊎ (IsSome d)
some_waits None None h e = absurd (let z = sym e ∙ none h in cc)
  where
    none : (b : Bool) → (false || (b && false)) ≡ false
    none true = refl
    none false = refl
some_waits None (Some d) h e = inr refl
some_waits (Some f) d h e = inl refl

module _ (pool : Pooled OutAttrs) (k : Standing) (family : Family) (kept : IsKept k.key family k.adj) (counted : IsCounted pool k.adj) where
  pub ready : IsFit (seen pool k) → IsReady k.key.family k.key.add_path pool k.adj
  ready fit = record { keys = own; values = live }
    where
      own : (q : Key) → has key_order k.adj.pending q ≡ true → IsKeyOf k.key.family k.key.add_path q
      own q pending =
          elim (some_waits (value_at key_order k.adj.formatted q) (value_at key_order k.adj.desired q) (has key_order k.adj.forced q) (sym (kept.exact.all q) ∙ pending)) [
            | inl f ↦ kept.formatted_own q f
            | inr d ↦ kept.desired_own q d
          ]

      by : (q : Key) (id : ℕ) (h : Option (Held OutAttrs)) → held pool id ≡ h → IsSome h → value_at key_order k.adj.desired q ≡ Some id → IsLive k.key.family (held pool id)
      by q id None is live e = absurd cc
      by q id (Some h) is live e = record {
        value = h;
        is = is;
        sendable = fit q h.value (value_at-projected key_total key_exact (value_in pool) k.adj.desired q kept.exact.desired_rows ∙ ap (of_row (value_in pool)) e ∙ ap value_of is);
      }

      live : (q : Key) (id : ℕ) → has key_order k.adj.pending q ≡ true → value_at key_order k.adj.desired q ≡ Some id → IsLive k.key.family (held pool id)
      live q id pending e = by q id (held pool id) refl (used_live pool id (used_desired pool k.adj counted q id e)) e

  -- ---- what is formatted

  abbrev x : Subgroup
  x = seen pool k

  -- the subgroup, where its next packet says this
  abbrev after : Says → Subgroup
  after says = record (after_saying says x) { fresh = false; stuck = 0 }

  next_by : (b : Bool) → (is_owed k.phase && not k.ending) ≡ b → says_next x ≡ says_by b (routes_due k.key x.out) k.ending
  next_by b e = ap (λ (begun : Bool). says_by begun (routes_due k.key x.out) k.ending) e

  pub begun_says : (is_owed k.phase && not k.ending) ≡ true → says_next x ≡ RefreshBegins
  begun_says e = next_by true e

  pub begun_seen : IsOneId same_out pool → (is_owed k.phase && not k.ending) ≡ true → seen pool (begun k) ≡ formatted x
  begun_seen one e =
      ap (λ (out : Out). record { key = k.key; out = out; ending = k.ending; fresh = false; phase = Open; stuck = 0 })
      (forced_same pool one k.adj kept.exact.formatted_rows kept.exact.desired_rows (formatted_live pool k.adj counted) (desired_live pool k.adj counted))
      ∙ ap (λ (says : Says). after says) (sym (begun_says e))

  module _ (made : ℕ) (o : FamilyRib) (not_owed : (is_owed k.phase && not k.ending) ≡ false) where
    routed_says : (r : Routed) (d : Due Key OutAttrs) → IsRouted k.key made o d (Some r) → says_by false d k.ending ≡ r.packet.says
    routed_says r Nothing is = absurd is
    routed_says r (Withdraws keys) is = sym is.says_is
    routed_says r (Announces out keys) is = sym is.says_is

    routed_after : (r : Routed) (d : Due Key OutAttrs) → IsRouted k.key made o d (Some r) → after (says_by false d k.ending) ≡ record x { out = with_told r.keys.items x.out; fresh = false; stuck = 0 }
    routed_after r Nothing is = absurd is
    routed_after r (Withdraws keys) is = ap (λ ks. record x { out = with_told ks x.out; fresh = false; stuck = 0 }) (sym is.keys_are)
    routed_after r (Announces out keys) is = ap (λ ks. record x { out = with_told ks x.out; fresh = false; stuck = 0 }) (sym is.keys_are)

    routed_made : (r : Routed) (d : Due Key OutAttrs) → IsRouted k.key made o d (Some r) → r.packet.made ≡ made
    routed_made r Nothing is = absurd is
    routed_made r (Withdraws keys) is = is.made_is
    routed_made r (Announces out keys) is = is.made_is

    routed_sent : (r : Routed) (d : Due Key OutAttrs) → IsRouted k.key made o d (Some r) → IsSent (session_of k.key) r.packet
    routed_sent r Nothing is = absurd is
    routed_sent r (Withdraws keys) is = is.sent
    routed_sent r (Announces out keys) is = is.sent

    routed_told : (r : Routed) (d : Due Key OutAttrs) → IsRouted k.key made o d (Some r) → AreDue o r.keys.items
    routed_told r Nothing is = absurd is
    routed_told r (Withdraws keys) is = is.told
    routed_told r (Announces out keys) is = is.told

    module _ (r : Routed) (is : IsRouted k.key made o (routes_due k.key x.out) (Some r)) where
      pub told_said : said r.packet ≡ record { made = made; says = says_next x }
      told_said =
          ap (λ (m : ℕ). record { made = m; says = r.packet.says }) (routed_made r (routes_due k.key x.out) is)
          ∙ ap (λ (says : Says). record { made = made; says = says }) (sym (next_by false not_owed ∙ routed_says r (routes_due k.key x.out) is))

      pub told_sent : IsSent (session_of k.key) r.packet
      told_sent = routed_sent r (routes_due k.key x.out) is

      pub told_keys : AreDue o r.keys.items
      told_keys = routed_told r (routes_due k.key x.out) is

      pub told_seen : IsOneId same_out pool → (later : Pooled OutAttrs) → IsMoved pool later k.adj (told r.keys.items k).adj → seen later (told r.keys.items k) ≡ formatted x
      told_seen one later moved =
          let now = (told r.keys.items k).adj in
          let exact = exact-with_all_formatted key_total key_exact nat_eq r.keys.items k.adj kept.exact in
          ap (λ (out : Out). record { key = k.key; out = out; ending = k.ending; fresh = false; phase = k.phase; stuck = 0 })
          (out_moved pool later k.adj now now exact.formatted_rows exact.desired_rows (counted_moved pool later k.adj now counted moved) moved
          ∙ told_same pool one r.keys.items k.adj kept.exact.formatted_rows kept.exact.desired_rows (formatted_live pool k.adj counted) (desired_live pool k.adj counted))
          ∙ sym (ap (λ (says : Says). after says) (next_by false not_owed) ∙ routed_after r (routes_due k.key x.out) is)

    none_due : (d : Due Key OutAttrs) → IsRouted k.key made o d None → d ≡ Nothing
    none_due Nothing is = refl
    none_due (Withdraws keys) is = absurd is
    none_due (Announces out keys) is = absurd is

    module _ (is : IsRouted k.key made o (routes_due k.key x.out) None) where
      next_ends : says_next x ≡ says_by false Nothing k.ending
      next_ends = next_by false not_owed ∙ ap (λ (d : Due Key OutAttrs). says_by false d k.ending) (none_due (routes_due k.key x.out) is)

      pub ended_says : says_next x ≡ (if k.ending then EndOfRib else RefreshEnds)
      ended_says = next_ends ∙ by k.ending
        where
          by : (b : Bool) → says_by false Nothing b ≡ (if b then EndOfRib else RefreshEnds)
          by true = refl
          by false = refl

      pub ended_seen : seen pool (ended k) ≡ formatted x
      ended_seen = by k.ending refl ∙ ap (λ (says : Says). after says) (sym next_ends)
        where
          by : (b : Bool) → k.ending ≡ b
              → seen pool (if b then record { key = k.key; adj = k.adj; ending = false; fresh = false; phase = k.phase; stuck = 0 } else record { key = k.key; adj = k.adj; ending = k.ending; fresh = false; phase = Quiet; stuck = 0 })
              ≡ after (says_by false Nothing b)
          by true e = refl
          by false e = refl

-- ---- one key is desired, and all are asked for again

module _ (pool : Pooled OutAttrs) (one : IsOneId same_out pool) (k : Standing) (family : Family) (kept : IsKept k.key family k.adj) (counted : IsCounted pool k.adj) where
  live_of : (o : Option ℕ) → IsUsed pool o → IfSome o (IsLiveId pool)
  live_of None used = tt
  live_of (Some id) used = used_live pool id used

  pub desired_seen : (later : Pooled OutAttrs) (key : Key) (id was : Option ℕ) → IsUsed pool id → was ≡ value_at key_order k.adj.desired key → IsExchanged pool later was id → seen later (wanting key id k) ≡ desiring key (valued_by pool id) (seen pool k)
  desired_seen later key id was used is turned =
      let now = (wanting key id k).adj in
      let exact = exact-with_desired key_total key_exact nat_eq k.adj key id kept.exact in
      let moved = moved_desired pool later k.adj key id (subst (λ o. IsExchanged pool later o id) is turned) kept.exact.desired_rows in
      ap (λ (out : Out). record { key = k.key; out = out; ending = k.ending; fresh = k.fresh; phase = k.phase; stuck = k.stuck })
      (out_moved pool later k.adj now now exact.formatted_rows exact.desired_rows (counted_moved pool later k.adj now counted moved) moved
      ∙ desired_same pool one k.adj key id kept.exact.formatted_rows kept.exact.desired_rows (formatted_live pool k.adj counted) (desired_live pool k.adj counted) (live_of id used))

  pub desired_moved : (later : Pooled OutAttrs) (key : Key) (id was : Option ℕ) → was ≡ value_at key_order k.adj.desired key → IsExchanged pool later was id → IsMoved pool later k.adj (wanting key id k).adj
  desired_moved later key id was is turned = moved_desired pool later k.adj key id (subst (λ o. IsExchanged pool later o id) is turned) kept.exact.desired_rows

  asked_by : (b : Bool) → k.key.enhanced_refresh ≡ b → asked (seen pool k) ≡ (if b then record (seen pool k) { phase = Owed } else record (seen pool k) { out = all_forced (out_in pool k.adj) })
  asked_by b e = ap (λ (t : Bool). if t then record (seen pool k) { phase = Owed } else record (seen pool k) { out = all_forced (out_in pool k.adj) }) e

  pub asked_marked : k.key.enhanced_refresh ≡ true → seen pool (record k { phase = Owed }) ≡ asked (seen pool k)
  asked_marked e = sym (asked_by true e)

  pub asked_forced : k.key.enhanced_refresh ≡ false → seen pool (forced k) ≡ asked (seen pool k)
  asked_forced e =
      ap (λ (out : Out). record { key = k.key; out = out; ending = k.ending; fresh = k.fresh; phase = k.phase; stuck = k.stuck })
      (forced_same pool one k.adj kept.exact.formatted_rows kept.exact.desired_rows (formatted_live pool k.adj counted) (desired_live pool k.adj counted))
      ∙ sym (asked_by false e)

pub level_not : (x : Subgroup) → owes x ≡ true → false ≡ is_level x
level_not x e = ap (λ b. not b && is_empty x.out.forced) (sym e)

pub level_so : (x : Subgroup) → owes x ≡ false → is_empty x.out.forced ≡ is_level x
level_so x e = ap (λ b. not b && is_empty x.out.forced) (sym e)

-- ---- key by key

pub shown_values : (pool : Pooled OutAttrs) (one : IsOneId same_out pool) (k : Standing) (family : Family) → IsKept k.key family k.adj → IsCounted pool k.adj → (q : Key) → has key_order (seen pool k).out.forced q ≡ true
    → (is_some (value_at key_order (seen pool k).out.formatted q) || is_some (value_at key_order (seen pool k).out.desired q)) ≡ true
shown_values pool one k family kept counted q h =
    sym (ap (λ b. b || is_some (value_at key_order k.adj.desired q)) (there pool one k.adj.formatted kept.exact.formatted_rows (formatted_live pool k.adj counted) q)
    ∙ ap (λ b. is_some (value_at key_order (seen pool k).out.formatted q) || b) (there pool one k.adj.desired kept.exact.desired_rows (desired_live pool k.adj counted) q)) ∙ kept.shown q h

pub exact_values : (pool : Pooled OutAttrs) (one : IsOneId same_out pool) (k : Standing) (family : Family) → IsKept k.key family k.adj → IsCounted pool k.adj → IsExact key_order same_out (seen pool k).out
exact_values pool one k family kept counted = record {
  all = λ q. kept.exact.all q ∙ waits_same pool one k.adj.formatted k.adj.desired kept.exact.formatted_rows kept.exact.desired_rows (formatted_live pool k.adj counted) (desired_live pool k.adj counted) k.adj.forced q;
  once = kept.exact.once;
  formatted_rows = sorted_projected key_total key_exact (value_in pool) k.adj.formatted kept.exact.formatted_rows;
  desired_rows = sorted_projected key_total key_exact (value_in pool) k.adj.desired kept.exact.desired_rows;
}
