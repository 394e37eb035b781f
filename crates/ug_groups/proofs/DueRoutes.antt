-- The packet that is built is the one that is due, and each member is sent what it is to have by it.
use Rattle.std.proofs.Common.{◌≡◌, ℕ, ◌-◌, ◌<◌, ◌≤◌, nat_eq, nat_le, Bool, true, false, cond, not, List, [], ◌∷◌, length, Option, Some, None, refl, sym, ap, subst, ◌∙◌, arith}
use Rattle.std.specs.Prelude.{IfSome, slice_get, ◌&&◌, if◌then◌else◌}
use Rattle.std.specs.Option.{option_eq}
use Rattle.std.specs.List.{AllByRecursion, IsDistinct}
use Rattle.std.specs.Ordering.{eq_by_cmp}
use Rattle.ug_types.specs.declared.family.Family.{Family}
use Rattle.ug_types.specs.declared.key.Key.{Key}
use Rattle.ug_types.specs.declared.route.NhKind.{NhKind}
use Rattle.ug_types.specs.declared.route.NhKind.TheVariants as kinds
use Rattle.ug_types.specs.declared.route.OutAttrs.{OutAttrs}
use Rattle.ug_types.specs.declared.route.PeerEnds.{PeerEnds}
use Rattle.ug_types.specs.Ip.{IpAddress}
use Rattle.ug_types.specs.Keys.{weight_of}
use Rattle.ug_types.specs.Messages.{Message, Updates}
use Rattle.ug_types.specs.Sessions.{message_limit}
use Rattle.ug_message.specs.Spellable.{is_address}
use Rattle.ug_message.specs.Texts.{written}
use Rattle.ug_message.proofs.OneText.{text_within}
use Rattle.ug_update.specs.Updates.{IsSessionOf, have_identifiers, announcing}
use Rattle.ug_outbound.specs.declared.key.GroupKey.{GroupKey}
use Rattle.ug_outbound.specs.Keys.{limit_of}
use Rattle.ug_message.specs.NextHops.{next_hop}
use Rattle.ug_message.specs.Packets.{Shared, sent_to, with_address}
use Rattle.ug_intern.specs.Pools.{Held, Pooled, held, value_of, IsOneId}
use Rattle.ug_adjout.specs.Tables.{has, value_at}
use Rattle.ug_adjout.specs.Pending.{IsExact}
use Rattle.ug_adjout.specs.TableLaws.{distinct-filter}
use Rattle.ug_adjout.specs.Formatting.{Due, fitting, withdrawals, announcements, alike, of_first_value, value_of_first}
use Rattle.ug_adjout.specs.Formatting.Due.{Withdraws, Announces}
use Rattle.ug_pack.specs.declared.built.Built.{Built}
use Rattle.ug_pack.specs.Rooms.{room, room_beside}
use Rattle.ug_pack.specs.Ready.{key_order, IsKeyOf, IsSendable, IsLive, IsReady}
use Rattle.ug_pack.specs.Packets.{IsPlain, IsWithdrawal, IsAnnouncement, IsBuilt, room_by, next_due}
use Rattle.ug_pack.proofs.Fits.{all_fit, room_least, beside_least}
use Rattle.ug_pack.proofs.Keys.{key_total, key_exact}
use Rattle.ug_pack.proofs.Owed.{withdrawn_all, alike_all, alike_first, first_value, withdraws, announces, nothing}
use Rattle.ug_pack.proofs.Runs.{run}
use Rattle.ug_group_rules.specs.Packets.{Says, Withdrawn, Announced, message_to, same_out, routes_due}
use Rattle.ug_groups.specs.declared.routed.Routed.{Routed}
use Rattle.ug_groups.specs.declared.saying.Saying.TheVariants as sayings
use Rattle.ug_groups.specs.Values.{out_in, announced_by, due_in, AreLive}
use Rattle.ug_groups.specs.Packets.{Packed}
use Rattle.ug_groups.specs.FamilyRibs.{FamilyRib, AreDue}
use Rattle.ug_groups.specs.Sent.{session_of, IsSent, IsRoutedAs, IsRouted, IsPaired}
use Rattle.ug_groups.proofs.IdValues.{due_same}

-- ---- sessions and limits

limit_small : (key : GroupKey) → limit_of key ≤ 65535
limit_small key = by key.extended
  where
    by : (b : Bool) → (if b then 65535 else 4096) ≤ 65535
    by true = omega arith
    by false = omega arith

pub limit_least : (key : GroupKey) → 4096 ≤ limit_of key
limit_least key = by key.extended
  where
    by : (b : Bool) → 4096 ≤ (if b then 65535 else 4096)
    by true = omega arith
    by false = omega arith

pub text_short : (key : GroupKey) (m : Message) (text : List ℕ) → written (session_of key) m ≡ Some text → length text ≤ 65535
text_short key m text e = let small = limit_small key in let in_limit : length text ≤ limit_of key = text_within (session_of key) m text e in omega (arith, small, in_limit)

have_all : (family : Family) (add_path : Bool) (keys : List Key) → 0 < length keys → AllByRecursion (IsKeyOf family add_path) keys → add_path ≡ have_identifiers keys
have_all family true [] some all = absurd (omega (arith, some))
have_all family false [] some all = absurd (omega (arith, some))
have_all family true (key ∷ keys) some all = rest keys (key ∷ keys) all
  where
    rest : (ks xs : List Key) → AllByRecursion (IsKeyOf family true) xs → true ≡ have_identifiers xs
    rest ks [] all = refl
    rest ks (x ∷ xs) all = rest ks xs all.1 ∙ ap (λ b. not b && have_identifiers xs) (sym all.0.id_is)
have_all family false (key ∷ keys) some all = ap (λ b. not b && have_identifiers keys) (sym all.0.id_is)

session_is : (key : GroupKey) (keys : List Key) → 0 < length keys → AllByRecursion (IsKeyOf key.family key.add_path) keys → IsSessionOf key.family keys (session_of key)
session_is key keys some all = record { of_family = refl; add_path = have_all key.family key.add_path keys some all }

-- ---- what is sent

hop_by : (b : Bool) (family : Family) (raw own : IpAddress) → is_address family raw ≡ true → is_address family own ≡ true → is_address family (if b then raw else own) ≡ true
hop_by true family raw own r l = r
hop_by false family raw own r l = l

hop_is : (kind : NhKind) (family : Family) (raw : IpAddress) (ends : PeerEnds) → is_address family raw ≡ true → is_address family ends.local ≡ true → is_address family (next_hop kind raw ends) ≡ true
hop_is kinds.Fixed family raw ends r l = r
hop_is kinds.Keep family raw ends r l = r
hop_is kinds.Own family raw ends r l = l
hop_is kinds.Auto family raw ends r l = hop_by _ family raw ends.local r l

-- a packet without next hop
pub sent_plain : (key : GroupKey) (made : ℕ) (says : Says) (m : Message) (p : Shared) → ((ends : PeerEnds) → message_to ends says ≡ m) → IsPlain key.family p → written (session_of key) m ≡ Some p.bytes
    → IsSent (session_of key) (record { made = made; says = says; shared = p })
sent_plain key made says m p one plain text = record {
  raw = plain.family_is;
  short = text_short key m p.bytes text;
  text = λ ends own. ap (written (session_of key)) (one ends) ∙ text ∙ ap (λ place. Some (with_address place (next_hop p.kind p.raw ends) p.bytes)) (sym plain.place);
}

module _ (key : GroupKey) (made : ℕ) (keys : List Key) (some : 0 < length keys) (all : AllByRecursion (IsKeyOf key.family key.add_path) keys) (p : Shared) where
  limit_is : limit_of key ≤ message_limit (session_of key)
  limit_is = omega arith

  sent_withdrawn : IsWithdrawal key.family (limit_of key) keys p → IsSent (session_of key) (record { made = made; says = Withdrawn keys; shared = p })
  sent_withdrawn w = sent_plain key made (Withdrawn keys) _ p (λ ends. refl) w.plain (w.text (session_of key) (session_is key keys some all) limit_is)

  module _ (o : OutAttrs) (a : IsAnnouncement key.family (limit_of key) keys o p) (raw : is_address p.raw.family p.raw ≡ true) (family : o.attrs.next_hop.family ≡ key.family) where
    raw_family : p.raw.family ≡ key.family
    raw_family = ap (λ (x : IpAddress). x.family) a.raw ∙ family

    raw_own : is_address key.family o.attrs.next_hop ≡ true
    raw_own = subst (λ f. is_address f o.attrs.next_hop ≡ true) raw_family (subst (λ (x : IpAddress). is_address p.raw.family x ≡ true) a.raw raw)

    sent_by : (ends : PeerEnds) → is_address key.family ends.local ≡ true → written (session_of key) (message_to ends (Announced o keys)) ≡ Some (sent_to ends p)
    sent_by ends own =
        let hop = next_hop o.nh_kind o.attrs.next_hop ends in
        a.text.any hop (hop_is o.nh_kind key.family o.attrs.next_hop ends raw_own own) (session_of key) (session_is key keys some all) limit_is
        ∙ ap (λ place. Some (with_address place hop p.bytes)) (sym a.place_is)
        ∙ ap (λ kind. Some (with_address p.place (next_hop kind o.attrs.next_hop ends) p.bytes)) (sym a.kind)
        ∙ ap (λ (x : IpAddress). Some (with_address p.place (next_hop p.kind x ends) p.bytes)) (sym a.raw)

    sent_announced : IsSent (session_of key) (record { made = made; says = Announced o keys; shared = p })
    sent_announced = record {
      raw = raw_family;
      short = text_short key (Updates (announcing o.attrs keys)) p.bytes (a.text.own (session_of key) (session_is key keys some all) limit_is);
      text = sent_by;
    }

-- ---- the keys

distinct_fit : (space : ℕ) (keys : List Key) → IsDistinct (eq_by_cmp key_order) keys → IsDistinct (eq_by_cmp key_order) (fitting weight_of space keys)
unfolding IsDistinct
distinct_fit space [] once = tt
distinct_fit space (key ∷ keys) once = by (nat_le (weight_of key) space) (distinct_fit (space - weight_of key) keys once.1)
  where
    by : (b : Bool) → IsDistinct (eq_by_cmp key_order) (fitting weight_of (space - weight_of key) keys) → IsDistinct (eq_by_cmp key_order) (cond b (key ∷ fitting weight_of (space - weight_of key) keys) [])
    by true rest = (all_fit weight_of (λ y. eq_by_cmp key_order key y ≡ false) (space - weight_of key) keys once.0, rest)
    by false rest = tt

distinct_first : (value : Key → Option ℕ) (keys : List Key) → IsDistinct (eq_by_cmp key_order) keys → IsDistinct (eq_by_cmp key_order) (of_first_value nat_eq value keys)
distinct_first value [] once = once
distinct_first value (key ∷ keys) once = distinct-filter key_total key_exact (λ q. option_eq nat_eq (value q) (value key)) (key ∷ keys) once

module _ (key : GroupKey) (pool : Pooled OutAttrs) (o : FamilyRib) (family : o.family ≡ key.family) (exact : IsExact key_order nat_eq o.adj) (ready : IsReady key.family key.add_path pool o.adj) where
  own_by : (q : Key) → has key_order o.adj.pending q ≡ true → q.prefix.family ≡ o.family
  own_by q h = (ready.keys q h).family_is ∙ sym family

  told_withdrawn : (space : ℕ) → AreDue o (fitting weight_of space (withdrawals key_order o.adj))
  told_withdrawn space = record {
    waiting = all_fit weight_of _ space _ (withdrawn_all key_total key_exact o.adj (λ q. has key_order o.adj.pending q ≡ true) (λ q h. h));
    own = all_fit weight_of _ space _ (withdrawn_all key_total key_exact o.adj (λ (q : Key). q.prefix.family ≡ o.family) own_by);
    once = distinct_fit space _ (distinct-filter key_total key_exact _ o.adj.pending exact.once);
  }

  told_alike : (space : ℕ) → AreDue o (fitting weight_of space (alike key_order nat_eq o.adj))
  told_alike space = record {
    waiting = all_fit weight_of _ space _ (alike_all key_total key_exact o.adj (λ q. has key_order o.adj.pending q ≡ true) (λ q h. h));
    own = all_fit weight_of _ space _ (alike_all key_total key_exact o.adj (λ (q : Key). q.prefix.family ≡ o.family) own_by);
    once = distinct_fit space _ (distinct_first (value_at key_order o.adj.desired) _ (distinct-filter key_total key_exact _ o.adj.pending exact.once));
  }

  -- ---- the packet

  module _ (one : IsOneId same_out pool) (live : AreLive pool o.adj.desired) (made : ℕ) where
    abbrev limit : ℕ
    limit = limit_of key

    abbrev beside : ℕ → ℕ
    beside id = room_by pool limit key.family (value_of (held pool id))

    as_routed : (says : Says) (keys : List Key) (shared : Shared) (r : Routed) (own : List Key) → own ≡ keys → r.packet ≡ record { made = made; says = says; shared = shared } → r.keys.items ≡ own
        → IsSent (session_of key) (record { made = made; says = says; shared = shared }) → AreDue o keys → IsRoutedAs key made o says keys r
    as_routed says keys shared r own same packet items sent told = record {
      made_is = ap (λ (p : Packed). p.made) packet;
      says_is = ap (λ (p : Packed). p.says) packet;
      keys_are = items ∙ same;
      sent = subst (IsSent (session_of key)) (sym packet) sent;
      told = subst (AreDue o) (sym (items ∙ same)) told;
    }

    module _ (first : Key) (light : weight_of first ≤ 21) (b : Built) (built : IsBuilt pool limit key.family (next_due pool limit key.family o.adj) (Some b)) (p : Packed) where
      abbrev withdrawn_keys : List Key
      withdrawn_keys = fitting weight_of (room key.family limit) (withdrawals key_order o.adj)

      pub withdrawn_routed : slice_get (withdrawals key_order o.adj) 0 ≡ Some first → p ≡ record { made = made; says = Withdrawn b.keys.items; shared = b.packet } → (r : Option Routed) → IsPaired p (sayings.Withdrawn b.keys) r
          → IsRouted key made o (routes_due key (out_in pool o.adj)) r
      withdrawn_routed at packet r paired =
          let is_due = withdraws key_total key_exact o.adj weight_of (room key.family limit) beside first at in
          let is_built : (b.keys.items ≡ withdrawn_keys) × IsWithdrawal key.family limit withdrawn_keys b.packet = subst (λ (d : Due Key ℕ). IsBuilt pool limit key.family d (Some b)) is_due built in
          let own = withdrawn_all key_total key_exact o.adj (IsKeyOf key.family key.add_path) ready.keys in
          let first_run = run key.family key.add_path (withdrawals key_order o.adj) withdrawn_keys (room key.family limit) first refl at light (room_least key.family limit (limit_least key)) own in
          let sent = sent_withdrawn key made withdrawn_keys first_run.some (all_fit weight_of (IsKeyOf key.family key.add_path) (room key.family limit) _ own) b.packet is_built.1 in
          let is_packet : p ≡ record { made = made; says = Withdrawn withdrawn_keys; shared = b.packet } = packet ∙ ap (λ keys. record { made = made; says = Withdrawn keys; shared = b.packet }) is_built.0 in
          subst (λ (d : Due Key OutAttrs). IsRouted key made o d r) (sym (due_same pool one key o.adj exact.desired_rows live ∙ ap (due_in pool) is_due)) (by r is_built.0 is_packet sent paired)
        where
          by : (r : Option Routed) → b.keys.items ≡ withdrawn_keys → p ≡ record { made = made; says = Withdrawn withdrawn_keys; shared = b.packet } → IsSent (session_of key) (record { made = made; says = Withdrawn withdrawn_keys; shared = b.packet })
              → IsPaired p (sayings.Withdrawn b.keys) r → IsRouted key made o (Withdraws withdrawn_keys) r
          by None same packet sent paired = paired
          by (Some r) same packet sent paired = as_routed (Withdrawn withdrawn_keys) withdrawn_keys b.packet r b.keys.items same (paired.0 ∙ packet) (ap (λ l. l.items) paired.1) sent (told_withdrawn (room key.family limit))

      module _ (id : ℕ) (out : OutAttrs) (none : slice_get (withdrawals key_order o.adj) 0 ≡ None) (at : slice_get (alike key_order nat_eq o.adj) 0 ≡ Some first)
          (value : value_of_first (value_at key_order o.adj.desired) (announcements key_order o.adj) ≡ Some id) (out_is : value_of (held pool id) ≡ Some out) (raw : is_address b.packet.raw.family b.packet.raw ≡ true) where
        abbrev told_keys : List Key
        told_keys = fitting weight_of (beside id) (alike key_order nat_eq o.adj)

        sendable_by : (h : Option (Held OutAttrs)) → value_of h ≡ Some out → IsLive key.family h → IsSendable key.family out.attrs
        sendable_by h is l = subst (λ (v : Option OutAttrs). IfSome v (λ x. IsSendable key.family x.attrs)) (sym (ap value_of l.is) ∙ is) l.sendable

        sendable : IsSendable key.family out.attrs
        sendable =
            sendable_by (held pool id) out_is
            (ready.values first id (alike_first key_total key_exact o.adj (λ q. has key_order o.adj.pending q ≡ true) (λ q h. h) first at)
            (first_value (value_at key_order o.adj.desired) (announcements key_order o.adj) first id at (sym value)))

        space_is : beside id ≡ room_beside key.family limit out.attrs
        space_is = ap (room_by pool limit key.family) out_is

        pub announced_routed : (attrs : OutAttrs) → p ≡ record { made = made; says = Announced out b.keys.items; shared = b.packet } → (r : Option Routed) → IsPaired p (sayings.Announced attrs b.keys) r
            → IsRouted key made o (routes_due key (out_in pool o.adj)) r
        announced_routed attrs packet r paired =
            let is_due = announces key_total key_exact o.adj weight_of (room key.family limit) beside id none (sym value) in
            let is_built : (b.keys.items ≡ told_keys) × IfSome (value_of (held pool id)) (λ x. IsAnnouncement key.family limit told_keys x b.packet) = subst (λ (d : Due Key ℕ). IsBuilt pool limit key.family d (Some b)) is_due built in
            let is_said : IsAnnouncement key.family limit told_keys out b.packet = subst (λ (v : Option OutAttrs). IfSome v (λ x. IsAnnouncement key.family limit told_keys x b.packet)) out_is is_built.1 in
            let own = alike_all key_total key_exact o.adj (IsKeyOf key.family key.add_path) ready.keys in
            let least : 21 ≤ beside id = subst (λ (n : ℕ). 21 ≤ n) (sym space_is) (beside_least key.family limit out.attrs (limit_least key) sendable.short) in
            let first_run = run key.family key.add_path (alike key_order nat_eq o.adj) told_keys (beside id) first refl at light least own in
            let sent = sent_announced key made told_keys first_run.some (all_fit weight_of (IsKeyOf key.family key.add_path) (beside id) _ own) b.packet out is_said raw sendable.next_hop in
            let is_packet : p ≡ record { made = made; says = Announced out told_keys; shared = b.packet } = packet ∙ ap (λ keys. record { made = made; says = Announced out keys; shared = b.packet }) is_built.0 in
            subst (λ (d : Due Key OutAttrs). IsRouted key made o d r) (sym (due_same pool one key o.adj exact.desired_rows live ∙ ap (due_in pool) is_due ∙ ap (λ v. announced_by pool v told_keys) out_is)) (by r is_built.0 is_packet sent paired)
          where
            by : (r : Option Routed) → b.keys.items ≡ told_keys → p ≡ record { made = made; says = Announced out told_keys; shared = b.packet } → IsSent (session_of key) (record { made = made; says = Announced out told_keys; shared = b.packet })
                → IsPaired p (sayings.Announced attrs b.keys) r → IsRouted key made o (Announces out told_keys) r
            by None same packet sent paired = paired
            by (Some r) same packet sent paired = as_routed (Announced out told_keys) told_keys b.packet r b.keys.items same (paired.0 ∙ packet) (ap (λ l. l.items) paired.1) sent (told_alike (beside id))

    pub none_routed : slice_get (withdrawals key_order o.adj) 0 ≡ None → None ≡ value_of_first (value_at key_order o.adj.desired) (announcements key_order o.adj) → IsRouted key made o (routes_due key (out_in pool o.adj)) None
    none_routed none value =
        subst (λ (d : Due Key OutAttrs). IsRouted key made o d None)
        (sym (due_same pool one key o.adj exact.desired_rows live ∙ ap (due_in pool) (nothing key_total key_exact o.adj weight_of (room key.family limit) beside none value))) tt
