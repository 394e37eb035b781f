-- What the next packet of a subgroup tells, and how the streams of its members go on by it.
use Rattle.std.proofs.Common.{◌≡◌, ℕ, ◌<◌, ◌≤◌, Bool, true, false, cond, List, [], ◌∷◌, length, slice_get, Option, Some, None, refl, sym, ◌∙◌, ap, arith}
use Rattle.std.specs.Prelude.{◌-◌, nat_le, ◌||◌, not, is_some, filter, sum_by}
use Rattle.std.specs.Option.{option_eq}
use Rattle.std.specs.BTreeMap.{is_at}
use Rattle.ug_types.specs.declared.key.Key.{Key}
use Rattle.ug_types.specs.declared.route.OutAttrs.{OutAttrs}
use Rattle.ug_types.specs.contracts.route.OutAttrsEq.TheImpl.Laws as out_laws
use Rattle.ug_types.specs.Keys.{weight_of}
use Rattle.ug_types.proofs.Same.{outs_same}
use Rattle.ug_board.specs.Deeds.{Each}
use Rattle.ug_outbound.specs.declared.key.GroupKey.{GroupKey}
use Rattle.ug_outbound.specs.Keys.{limit_of}
use Rattle.ug_adjout.specs.Tables.{has, value_at}
use Rattle.ug_adjout.specs.Formatting.{fitting, withdrawals, announcements, of_first_value, value_of_first, alike, announced_next, withdrawn_next, Due}
use Rattle.ug_adjout.specs.Formatting.Due.{Nothing, Withdraws, Announces}
use Rattle.ug_adjout.specs.TableLaws.{has-filter, at_itself}
use Rattle.ug_pack.specs.Rooms.{room, room_beside}
use Rattle.ug_pack.specs.Ready.{key_order}
use Rattle.ug_pack.proofs.Fits.{some_fit, sum_fits}
use Rattle.ug_pack.proofs.Keys.{key_total, key_exact}
use Rattle.ug_speaker.proofs.Bools.{both_so, or_true}
use Rattle.ug_group_rules.specs.Packets.{Out, same_out, routes_due}
use Rattle.ug_group_rules.proofs.Tables.{row_at}

-- ---- attributes that are equal

pub same-out : (a b : OutAttrs) → same_out a b ≡ true → a ≡ b
same-out a b e = outs_same a b e

pub out-same : (a : OutAttrs) → same_out a a ≡ true
out-same a = out_laws.lawful.laws.refl a

pub same-row : (a b : Option OutAttrs) → option_eq same_out a b ≡ true → a ≡ b
same-row None None e = refl
same-row None (Some b) e = absurd cc
same-row (Some a) None e = absurd cc
same-row (Some a) (Some b) e = ap Some (same-out a b e)

-- ---- keys that fit are among the keys

fitting_among : (room : ℕ) (keys : List Key) (q : Key) → has key_order (fitting weight_of room keys) q ≡ true → has key_order keys q ≡ true
fitting_among room [] q is = is
fitting_among room (key ∷ keys) q is = by (nat_le (weight_of key) room) (fitting_among (room - weight_of key) keys q) is
  where
    or_by : (a b c : Bool) → (b ≡ true → c ≡ true) → (a || b) ≡ true → (a || c) ≡ true
    or_by true b c h e = refl
    or_by false b c h e = h e

    by : (b : Bool) → (has key_order (fitting weight_of (room - weight_of key) keys) q ≡ true → has key_order keys q ≡ true)
        → has key_order (cond b (key ∷ fitting weight_of (room - weight_of key) keys) []) q ≡ true → has key_order (key ∷ keys) q ≡ true
    by true rest is = or_by (is_at (key_order q) key) (has key_order (fitting weight_of (room - weight_of key) keys) q) (has key_order keys q) rest is
    by false rest is = absurd cc

-- ---- what is due

-- Nothing is pending; or routes are withdrawn that aren't desired; or some are announced that are desired with these
-- attributes.
abbrev pub IsDueOf : Out → Due Key OutAttrs → Type 0
IsDueOf out Nothing = out.pending ≡ []
IsDueOf out (Withdraws keys) = (0 < length keys) × ((q : Key) → has key_order keys q ≡ true → row_at out.desired q ≡ None)
IsDueOf out (Announces o keys) = (0 < length keys) × ((q : Key) → has key_order keys q ≡ true → row_at out.desired q ≡ Some o)

at_first : (key : Key) (keys : List Key) → has key_order (key ∷ keys) key ≡ true
at_first key keys = rw (at_itself key_total key_exact key) refl

-- what is so of all that are among the keys is so of each of them
pub each-has : (P : Key → Type 0) (keys : List Key) → ((q : Key) → has key_order keys q ≡ true → P q) → Each P keys
each-has P [] h = tt
each-has P (key ∷ keys) h = (h key (at_first key keys), each-has P keys (λ q at. h q (or_true (is_at (key_order q) key) (has key_order keys q) at)))

pub some-has : (keys : List Key) → 0 < length keys → (q : Key) × (has key_order keys q ≡ true)
some-has [] some = absurd (omega arith)
some-has (key ∷ keys) some = (key, at_first key keys)

-- Keys that are withdrawn are pending, and have room in a message; those that are announced have room beside their
-- attributes.
abbrev pub HasRoom : GroupKey → Out → Due Key OutAttrs → Type 0
HasRoom group out Nothing = Unit {0}
HasRoom group out (Withdraws keys) = ((q : Key) → has key_order keys q ≡ true → has key_order out.pending q ≡ true) × (sum_by weight_of keys ≤ room group.family (limit_of group))
HasRoom group out (Announces o keys) = sum_by weight_of keys ≤ room_beside group.family (limit_of group) o.attrs

none_of_both : (test : Key → Bool) (keys : List Key) → filter (λ q. not (test q)) keys ≡ [] → filter test keys ≡ [] → keys ≡ []
none_of_both test [] h k = refl
none_of_both test (key ∷ keys) h k = by (test key) refl h k
  where
    by : (b : Bool) → test key ≡ b → cond (not b) (key ∷ filter (λ q. not (test q)) keys) (filter (λ q. not (test q)) keys) ≡ [] → cond b (key ∷ filter test keys) (filter test keys) ≡ [] → key ∷ keys ≡ []
    by true e h k = absurd cc
    by false e h k = absurd cc

first_same : (same : Key → Bool) (key : Key) (keys : List Key) → same key ≡ true → slice_get (filter same (key ∷ keys)) 0 ≡ Some key
first_same same key keys e = ap (λ (b : Bool). slice_get (cond b (key ∷ filter same keys) (filter same keys)) 0) e

some_is : (o : Option OutAttrs) → is_some o ≡ true → (v : OutAttrs) × (o ≡ Some v)
some_is (Some v) e = (v, refl)
some_is None e = absurd cc

none_is : (o : Option OutAttrs) → not (is_some o) ≡ true → o ≡ None
none_is None e = refl
none_is (Some v) e = absurd cc

module _ (group : GroupKey) (out : Out) (light : (q : Key) → has key_order out.pending q ≡ true → weight_of q ≤ 21) (wide : 21 ≤ room group.family (limit_of group))
    (beside : (q : Key) (o : OutAttrs) → row_at out.desired q ≡ Some o → 21 ≤ room_beside group.family (limit_of group) o.attrs) where
  abbrev value : Key → Option OutAttrs
  value q = value_at key_order out.desired q

  abbrev next_of : List Key → List Key → Due Key OutAttrs
  next_of gone new =
      withdrawn_next weight_of (room group.family (limit_of group)) (λ o. room_beside group.family (limit_of group) o.attrs) gone
      (announced_next weight_of (room group.family (limit_of group)) (λ o. room_beside group.family (limit_of group) o.attrs) (value_of_first value new) (of_first_value same_out value new))

  gone_tests : (gone : List Key) (q : Key) → withdrawals key_order out ≡ gone → has key_order gone q ≡ true → (not (is_some (value q)) ≡ true) × (has key_order out.pending q ≡ true)
  gone_tests gone q is there =
      both_so (not (is_some (value q))) (has key_order out.pending q)
      (sym (has-filter key_total key_exact (λ k. not (is_some (value k))) out.pending q) ∙ ap (λ (keys : List Key). has key_order keys q) is ∙ there)

  new_tests : (new : List Key) (q : Key) → announcements key_order out ≡ new → has key_order new q ≡ true → (is_some (value q) ≡ true) × (has key_order out.pending q ≡ true)
  new_tests new q is there =
      both_so (is_some (value q)) (has key_order out.pending q)
      (sym (has-filter key_total key_exact (λ k. is_some (value k)) out.pending q) ∙ ap (λ (keys : List Key). has key_order keys q) is ∙ there)

  announced_is : (key : Key) (keys : List Key) (v : OutAttrs) → announcements key_order out ≡ key ∷ keys → value key ≡ Some v → (o : Option OutAttrs) → o ≡ Some v
      → IsDueOf out (announced_next weight_of (room group.family (limit_of group)) (λ o. room_beside group.family (limit_of group) o.attrs) o (filter (λ q. option_eq same_out (value q) (value key)) (key ∷ keys)))
  announced_is key keys v is there None e = absurd cc
  announced_is key keys v is there (Some u) e =
      let one : u ≡ v = cc in
      let here = (new_tests (key ∷ keys) key is (at_first key keys)).1 in
      let itself : option_eq same_out (value key) (value key) ≡ true = rw there (out-same v) in
      let first = first_same (λ q. option_eq same_out (value q) (value key)) key keys itself in
      let weight = light key here in
      let space = beside key u (there ∙ ap Some (sym one)) in (
        some_fit weight_of (room_beside group.family (limit_of group) u.attrs) (filter (λ q. option_eq same_out (value q) (value key)) (key ∷ keys)) key first (omega arith),
        λ q at.
            let among = fitting_among (room_beside group.family (limit_of group) u.attrs) (filter (λ q. option_eq same_out (value q) (value key)) (key ∷ keys)) q at in
            let same = (both_so (option_eq same_out (value q) (value key)) (has key_order (key ∷ keys) q) (sym (has-filter key_total key_exact (λ q. option_eq same_out (value q) (value key)) (key ∷ keys) q) ∙ among)).0 in
            same-row (value q) (value key) same ∙ there ∙ ap Some (sym one),
      )

  due_by : (gone new : List Key) → withdrawals key_order out ≡ gone → announcements key_order out ≡ new → IsDueOf out (next_of gone new)
  due_by (key ∷ gone) new is_gone is_new =
      let here = (gone_tests (key ∷ gone) key is_gone (at_first key gone)).1 in
      let weight = light key here in (
        some_fit weight_of (room group.family (limit_of group)) (key ∷ gone) key refl (omega arith),
        λ q at. none_is (value q) (gone_tests (key ∷ gone) q is_gone (fitting_among (room group.family (limit_of group)) (key ∷ gone) q at)).0,
      )
  due_by [] [] is_gone is_new = none_of_both (λ q. is_some (value q)) out.pending is_gone is_new
  due_by [] (key ∷ new) is_gone is_new =
      let found = some_is (value key) (new_tests (key ∷ new) key is_new (at_first key new)).0 in
      announced_is key new found.0 is_new found.1 (value key) found.1

  pub due-is : IsDueOf out (routes_due group out)
  due-is = due_by (withdrawals key_order out) (announcements key_order out) refl refl

  room_by : (gone new : List Key) (o : Option OutAttrs) → withdrawals key_order out ≡ gone
      → HasRoom group out (withdrawn_next weight_of (room group.family (limit_of group)) (λ o. room_beside group.family (limit_of group) o.attrs) gone (announced_next weight_of (room group.family (limit_of group)) (λ o. room_beside group.family (limit_of group) o.attrs) o new))
  room_by (key ∷ gone) new o is = (λ q at. (gone_tests (key ∷ gone) q is (fitting_among (room group.family (limit_of group)) (key ∷ gone) q at)).1, sum_fits weight_of (room group.family (limit_of group)) (key ∷ gone))
  room_by [] new None is = tt
  room_by [] new (Some o) is = sum_fits weight_of (room_beside group.family (limit_of group) o.attrs) new

  pub due-room : HasRoom group out (routes_due group out)
  due-room = room_by (withdrawals key_order out) (alike key_order same_out out) (value_of_first value (announcements key_order out)) refl
