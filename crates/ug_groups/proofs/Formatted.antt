-- A packet is formatted: what is asked of it, the view, and what is kept.
use Rattle.std.proofs.Common.{◌≡◌, ℕ, ◌+◌, ◌<◌, ◌≤◌, Bool, true, false, List, [], ◌∷◌, ◌++◌, length, slice_get, Option, Some, None, refl, sym, ap, subst, ◌∙◌, arith, length-append}
use Rattle.std.specs.Prelude.{nat_le, ◌==◌, not, if◌then◌else◌}
use Rattle.std.specs.Option.{option_map}
use Rattle.std.proofs.lemmas.Bool.{eqb-true, eq-eqb}
use Rattle.std.proofs.lemmas.Bool.Decides.{nat_tests}
use Rattle.ug_types.specs.declared.key.Key.{Key}
use Rattle.ug_types.specs.declared.route.OutAttrs.{OutAttrs}
use Rattle.ug_outbound.specs.declared.key.GroupKey.{GroupKey}
use Rattle.ug_world.specs.World.{World}
use Rattle.ug_world.specs.Good.{IsGoodWorld}
use Rattle.ug_world.specs.Private.{wanted}
use Rattle.ug_world.specs.Sendable as world
use Rattle.ug_adjout.specs.Tables.{value_at}
use Rattle.ug_adjout.specs.Pending.{with_all_formatted, with_formatted}
use Rattle.ug_pack.specs.Ready.{key_order, IsSendable}
use Rattle.ug_queue.proofs.Rests.{rests}
use Rattle.ug_group_rules.specs.Packets.{Packet, Says, Withdrawn, Announced, EndOfRib, RefreshBegins, RefreshEnds, Out, same_out, wanted_rows}
use Rattle.ug_group_rules.specs.Machine as machine
use Rattle.ug_group_rules.specs.Machine.{System, Subgroup, Seat, owes, says_next, after_saying, formatted, given, reseated, with_subgroup, subgroup_at, format_of}
use Rattle.ug_group_rules.specs.Rules.{rest_due}
use Rattle.ug_groups.specs.Standings.{IsFit}
use Rattle.ug_groups.specs.Rows.{Row, Rows, row_at, any_at, HasRow, sub_of, with_row, formatted_row, is_full_row, may_format_row}
use Rattle.ug_groups.specs.declared.member.Member.{Member}
use Rattle.ug_groups.specs.Members.{rest_in, seat_in, member_of, members_from, system, is_queued}
use Rattle.ug_groups.specs.Kept.{IsKept, AreRows}
use Rattle.ug_groups.specs.Done.{IsAt}
use Rattle.ug_groups.proofs.Seats.{second-of, sits-there}
use Rattle.ug_groups.proofs.RowsAt.{any-some, row-here, row-there, subs-changed, sub-at}
use Rattle.ug_groups.proofs.MemberViews.{each-changed}
use Rattle.ug_groups.proofs.Keeping.{IsAlike, stands-with, inhabited-with, tabled-with, own-with}

-- ---- what formatting leaves of a subgroup

told-desired : (out : Out) (keys : List Key) → (with_all_formatted key_order same_out out keys).desired ≡ out.desired
told-desired out [] = refl
told-desired out (key ∷ keys) = told-desired (with_formatted key_order same_out out key) keys

key-after : (x : Subgroup) (says : Says) → (after_saying says x).key ≡ x.key
key-after x RefreshBegins = refl
key-after x (Withdrawn keys) = refl
key-after x (Announced o keys) = refl
key-after x EndOfRib = refl
key-after x RefreshEnds = refl

desired-after : (x : Subgroup) (says : Says) → (after_saying says x).out.desired ≡ x.out.desired
desired-after x RefreshBegins = refl
desired-after x (Withdrawn keys) = told-desired x.out keys
desired-after x (Announced o keys) = told-desired x.out keys
desired-after x EndOfRib = refl
desired-after x RefreshEnds = refl

formatted-alike : (made : ℕ) (r : Row) → IsAlike r (formatted_row made r)
formatted-alike made r = record { key = key-after r.sub (says_next r.sub); desired = desired-after r.sub (says_next r.sub); limit = refl }

-- ---- what is asked

-- what can be sent, and what the rows of a key are
abbrev pub SendableLaw : Type 0
SendableLaw = (w : World) (group : GroupKey) (key : Key) (o : OutAttrs) → IsGoodWorld w → wanted group w key ≡ Some o → world.IsSendable group.family o.attrs

abbrev pub RowsLaw : Type 0
RowsLaw = (group : GroupKey) (w : World) (q : Key) → value_at key_order (wanted_rows group w) q ≡ wanted group w q

sendable : (w : World) (group : GroupKey) (q : Key) (o : OutAttrs) → IsGoodWorld w → SendableLaw → RowsLaw
    → value_at key_order (wanted_rows group w) q ≡ Some o → IsSendable group.family o.attrs
sendable w group q o good law rows is =
    let it = law w group q o good (sym (rows group w q) ∙ is) in record { next_hop = it.next_hop; addresses = it.addresses; short = it.short }

-- some row may be formatted
pub record IsFormattable (g : ℕ) (rows : Rows) : Type 0 where
  pub room : HasRow g rows (λ r. length r.queue.packets < r.queue.limit)
  pub members : HasRow g rows (λ r. 0 < length r.queue.places)
  pub fit : HasRow g rows (λ r. IsFit r.sub)

pub formattable : (w : World) (closed : Bool) (made g : ℕ) (rows : Rows) (members : List Member) → IsKept w closed made rows members
    → SendableLaw → RowsLaw
    → any_at may_format_row (row_at g rows) ≡ true → IsFormattable g rows
formattable w closed made g rows members kept law wants may =
    let row = any-some may_format_row (row_at g rows) may in
    let r = row.0 in
    let open_ = second-of (owes r.sub) (not (is_full_row r)) row.2 in
    let tabled = kept.tabled g r row.1 in
    record {
      room = (r, row.1, less r.queue.limit (length r.queue.packets) open_);
      members = (r, row.1, kept.inhabited g r row.1);
      fit = (r, row.1, λ q o is. sendable w r.sub.key q o kept.good law wants (ap (λ l. value_at key_order l q) (sym tabled.desires) ∙ is));
    }
  where
    less : (limit n : ℕ) → not (nat_le limit n) ≡ true → n < limit
    less limit n e = grind (arith, nat_tests)

-- ---- the view, and what is kept

module _ (w : World) (made g : ℕ) (rows : Rows) (members : List Member) (kept : IsKept w false made rows members) (each : AreRows rows) (r : Row) (row : row_at g rows ≡ Some r) where
  abbrev s : System
  s = system w false made rows members

  abbrev packet : Packet
  packet = record { made = made; says = says_next r.sub }

  abbrev new : Rows
  new = with_row g (formatted_row made) rows

  row_now : row_at g new ≡ Some (formatted_row made r)
  row_now = row-here g (formatted_row made) rows ∙ ap (option_map (formatted_row made)) row

  seat-given : (p : ℕ) (m : Member) → slice_get members p ≡ Some m → (o : Option ℕ) → m.sub ≡ o → option_map (seat_in new p) o ≡ option_map (given g packet) (option_map (seat_in rows p) o)
  seat-given p m at None sub = refl
  seat-given p m at (Some h) sub = by (h == g) refl
    where
      by : (b : Bool) → (h == g) ≡ b → Some (seat_in new p h) ≡ Some (if b then record (seat_in rows p h) { rest = rest_in p (row_at h rows) ++ packet ∷ [] } else seat_in rows p h)
      by true e =
          let same = eqb-true h g e in
          let there_is = sits-there rows members p g m at (sub ∙ ap Some same) kept.seated in
          let it = each g there_is.0 there_is.1 in
          let one : there_is.0 ≡ r = some_row (sym there_is.1 ∙ row) in
          let stands = subst (λ (x : Row). is_queued p x ≡ true) one there_is.2 in
          let grown = rests.appended r.queue packet p stands ((each g r row).inside p) in
          ap (λ l. Some (record { sub = h; rest = l }))
          (ap (λ (k : ℕ). rest_in p (row_at k new)) same ∙ ap (rest_in p) row_now ∙ grown
          ∙ ap (λ (o : Option Row). rest_in p o ++ packet ∷ []) (sym row) ∙ ap (λ (k : ℕ). rest_in p (row_at k rows) ++ packet ∷ []) (sym same))
        where
          some_row : {a b : Row} → Some a ≡ Some b → a ≡ b
          some_row e = cc
      by false e = ap (λ l. Some (record { sub = h; rest = l })) (ap (rest_in p) (row-there g h (formatted_row made) rows (other e)))
        where
          other : (h == g) ≡ false → h ≡ g → ⊥
          other e same = absurd (let so = sym e ∙ eq-eqb h g same in cc)

  member-given : (p : ℕ) (m : Member) → slice_get members p ≡ Some m → member_of new p m ≡ reseated (given g packet) (member_of rows p m)
  member-given p m at = ap (λ (o : Option Seat). record { begun = m.begun; unlost = m.unlost.items; handed = m.handed; seat = o }) (seat-given p m at m.sub refl)

  same_option : (o : Option Member) → o ≡ option_map (λ (m : Member). m) o
  same_option None = refl
  same_option (Some m) = refl

  pub formatted-view : system w false (made + 1) new members ≡ format_of g (subgroup_at g s) s
  formatted-view =
      ap (λ (l : List (Option Subgroup)). record { world = w; closed = false; made = made + 1; subgroups = l; members = members_from new 0 members }) (subs-changed g (formatted_row made) formatted rows (λ x. refl))
      ∙ ap (λ (l : List machine.Member). record (with_subgroup g formatted (record s { made = made + 1 })) { members = l })
      (each-changed (reseated (given g packet)) rows new (λ p m. m) members members (λ p. same_option (slice_get members p)) member-given)
      ∙ sym (ap (λ (o : Option Subgroup). format_of g o s) (sub-at g rows ∙ ap (option_map sub_of) row))

  given-most : (p : ℕ) (m : Member) → slice_get members p ≡ Some m → m.handed + rest_due (member_of new p m).seat ≤ made + 1
  given-most p m at =
      let was = kept.counted p m at in
      let now = ap (λ (x : machine.Member). rest_due x.seat) (member-given p m at) in
      let more = by m.sub in omega (arith, was, now, more)
    where
      by : (o : Option ℕ) → rest_due (option_map (given g packet) (option_map (seat_in rows p) o)) ≤ rest_due (option_map (seat_in rows p) o) + 1
      by None = omega arith
      by (Some h) = one (h == g)
        where
          one : (b : Bool) → length (if b then record (seat_in rows p h) { rest = rest_in p (row_at h rows) ++ packet ∷ [] } else seat_in rows p h).rest ≤ length (rest_in p (row_at h rows)) + 1
          one true = let e = length-append (rest_in p (row_at h rows)) (packet ∷ []) in omega (arith, e)
          one false = omega arith

  pub formatted-kept : IsKept w false (made + 1) new members
  formatted-kept = record {
    good = kept.good;
    peers = kept.peers;
    all = kept.all;
    within = kept.within;
    seated = λ p h. stands-with g (formatted_row made) rows p h (λ x is. refl) ∙ kept.seated p h;
    inhabited = inhabited-with g (formatted_row made) rows (λ x is. kept.inhabited g x is) kept.inhabited;
    tabled = tabled-with g (formatted_row made) rows w (λ x is. formatted-alike made x) kept.tabled;
    own = own-with g (formatted_row made) rows w members (λ x is. formatted-alike made x) kept.own;
    room = kept.room;
    counted = given-most;
  }

pub formatted-done : (w : World) (made g : ℕ) (rows : Rows) (members : List Member) → IsKept w false made rows members → AreRows rows → any_at may_format_row (row_at g rows) ≡ true
    → IsAt (format_of g (subgroup_at g (system w false made rows members)) (system w false made rows members)) w false (made + 1) (with_row g (formatted_row made) rows) members
formatted-done w made g rows members kept each may =
    let row = any-some may_format_row (row_at g rows) may in
    record { state = formatted-view w made g rows members kept each row.0 row.1; kept = formatted-kept w made g rows members kept each row.0 row.1 }
