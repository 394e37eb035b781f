-- The loss of a session is noted.
use Rattle.std.proofs.Common.{◌≡◌, ℕ, zero, suc, ◌+◌, ◌≤◌, Bool, true, false, List, [], ◌∷◌, length, slice_get, Option, Some, None, refl, sym, ap, subst, ◌∙◌, arith}
use Rattle.std.specs.Prelude.{not, filter, ◌==◌, if◌then◌else◌}
use Rattle.std.specs.Option.{option_map}
use Rattle.ug_world.specs.World.{World}
use Rattle.ug_speaker.specs.Places.{change_at}
use Rattle.ug_speaker.specs.Counts.{sessions_at}
use Rattle.ug_group_rules.specs.Machine as machine
use Rattle.ug_group_rules.specs.Machine.{System, seat_at, with_loss, after_loss}
use Rattle.ug_group_rules.specs.Rules.{rest_due}
use Rattle.ug_groups.specs.Rows.{Rows, with_row, left_row}
use Rattle.ug_groups.specs.declared.member.Member.{Member}
use Rattle.ug_groups.specs.Members.{seat_in, member_of, members_from, system, sub_in, sub_at, is_sub}
use Rattle.ug_groups.specs.Kept.{AreSeated, HasRoom, IsKept, AreRows}
use Rattle.ug_groups.specs.Changes.{with_sub, unless_left, left_rows}
use Rattle.ug_groups.specs.Steps.{StaysKept, IsNoted, IsLost}
use Rattle.ug_groups.proofs.ListFacts.{end_is, get_none, length-changed}
use Rattle.ug_groups.proofs.MemberViews.{member-get, one-changed, sub-kept}
use Rattle.ug_groups.proofs.Keeping.{own-but, own-one, room-one, counted-one, room-moved, counted-moved}
use Rattle.ug_groups.proofs.Left.{unseated, left-seated, left-inhabited, left-tabled, left-own, left-rests, left-view}

fewer : (test : ℕ → Bool) (xs : List ℕ) → length (filter test xs) ≤ length xs
fewer test [] = omega arith
fewer test (x ∷ xs) = by (test x) (fewer test xs)
  where
    by : (b : Bool) → length (filter test xs) ≤ length xs → length (if b then x ∷ filter test xs else filter test xs) ≤ suc (length xs)
    by true le = omega arith
    by false le = omega arith

-- one member is noted
pub noted-by : (p n : ℕ) (members : List Member) (m m' : Member) → slice_get members p ≡ Some m → m'.begun ≡ m.begun → m'.unlost.items ≡ filter (λ (k : ℕ). not (k == n)) m.unlost.items → m.unlost.spare ≤ m'.unlost.spare
    → m'.handed ≡ m.handed → m'.sub ≡ m.sub → IsNoted p n members (change_at (λ (x : Member). m') p members)
noted-by p n members m m' here begun unlost spare handed sub = record {
  view = λ rows. one-changed (with_loss n) rows rows p members m m' here (then_is rows) (λ q k apart at. refl);
  subs = λ q. sub-kept p q members m m' here sub;
  kept = λ w rows closed made kept. record {
    good = kept.good;
    peers = kept.peers;
    all = λ open_. length-changed (λ (x : Member). m') p members ∙ kept.all open_;
    within = let same = length-changed (λ (x : Member). m') p members in let le = kept.within in omega arith;
    seated = λ q g. kept.seated q g ∙ ap (is_sub g) (sym (sub-kept p q members m m' here sub));
    inhabited = kept.inhabited;
    tabled = kept.tabled;
    own = own-one p members m m' here w rows (λ q. sub-kept p q members m m' here sub) kept.own;
    room = room-one p members m m' here w (room (sessions_at p w) (kept.room p m here)) kept.room;
    counted = counted-one p members m m' here made rows rows (few rows made (kept.counted p m here)) (λ q k apart at. refl) kept.counted;
  };
}
  where
    then_is : (rows : Rows) → member_of rows p m' ≡ with_loss n (member_of rows p m)
    then_is rows = λ i. record { begun = begun i; unlost = unlost i; handed = handed i; seat = option_map (seat_in rows p) (sub i) }

    room : (k : ℕ) → HasRoom k m → HasRoom k m'
    room k was = record {
      spare = let le = was.spare in omega (arith, le, begun, spare);
      few = let le = was.few in let less = fewer (λ (k : ℕ). not (k == n)) m.unlost.items in let same = ap (λ (l : List ℕ). length l) unlost in omega (arith, le, less, same, begun);
    }

    few : (rows : Rows) (made : ℕ) → m.handed + rest_due (member_of rows p m).seat ≤ made → m'.handed + rest_due (member_of rows p m').seat ≤ made
    few rows made le = let same : rest_due (member_of rows p m').seat ≡ rest_due (member_of rows p m).seat = ap (λ (o : Option ℕ). rest_due (option_map (seat_in rows p) o)) sub in omega (arith, le, same, handed)

-- ---- what is kept when a peer leaves

seatless : (rows : Rows) (p : ℕ) (m : Member) → rest_due (member_of rows p (with_sub None m)).seat ≡ 0
seatless rows p m = refl

least : (n : ℕ) → 0 ≤ n
least n = omega arith

pub left-keeps : (w : World) (p g : ℕ) (rows : Rows) (members : List Member) → AreRows rows → sub_at p members ≡ Some g → StaysKept w rows members (unless_left g (with_row g (left_row p) rows)) (change_at (with_sub None) p members)
left-keeps w p g rows members each sub closed made kept = record {
  good = kept.good;
  peers = kept.peers;
  all = λ open_. length-changed (with_sub None) p members ∙ kept.all open_;
  within = let same = length-changed (with_sub None) p members in let le = kept.within in omega arith;
  seated = left-seated p rows members kept.seated each g sub;
  inhabited = left-inhabited p rows members kept.seated each g sub kept.inhabited;
  tabled = left-tabled p rows members kept.seated each g sub w kept.tabled;
  own = left-own p rows members kept.seated each g sub w (own-but p w rows members kept.own);
  room = room-moved p None members w kept.room;
  counted = counted-moved p None members made rows (unless_left g (with_row g (left_row p) rows)) (λ m is. least (rest_due (member_of rows p m).seat)) (left-rests p rows members kept.seated each g sub) kept.counted;
}

module _ (w : World) (p n : ℕ) (rows : Rows) (members : List Member) (each : AreRows rows) (kept_so : (closed : Bool) × (made : ℕ) × IsKept w closed made rows members) (now : List Member) (noted : IsNoted p n members now) where
  abbrev first : (closed : Bool) (made : ℕ) → System
  first closed made = system w closed made rows now

  noted-view : (closed : Bool) (made : ℕ) → first closed made ≡ record (system w closed made rows members) { members = change_at (with_loss n) p (members_from rows 0 members) }
  noted-view closed made = ap (λ (l : List machine.Member). record (system w closed made rows members) { members = l }) (noted.view rows)

  abbrev after_by : Bool → System → System
  after_by b s = if b then machine.leave p (seat_at p s) s else s

  -- of an earlier session
  pub lost-earlier : (n == sessions_at p w) ≡ false → IsLost w p n rows members rows now
  lost-earlier earlier = record {
    state = λ closed made. noted-view closed made ∙ sym (ap (λ (b : Bool). after_by b (record (system w closed made rows members) { members = change_at (with_loss n) p (members_from rows 0 members) })) earlier);
    kept = noted.kept w rows;
  }

  -- of the present one
  pub lost-present : (n == sessions_at p w) ≡ true → IsLost w p n rows members (left_rows p (sub_at p now) rows) (change_at (with_sub None) p now)
  lost-present present = by (sub_at p now) refl
    where
      seats : AreSeated rows now
      seats q g = kept_so.2.seated q g ∙ ap (is_sub g) (sym (noted.subs q))

      whole : (closed : Bool) (made : ℕ) → machine.leave p (seat_at p (first closed made)) (first closed made) ≡ after_loss p n (system w closed made rows members)
      whole closed made =
          ap (λ (s : System). machine.leave p (seat_at p s) s) (noted-view closed made)
          ∙ sym (ap (λ (b : Bool). after_by b (record (system w closed made rows members) { members = change_at (with_loss n) p (members_from rows 0 members) })) present)

      none : (m : Option Member) → slice_get now p ≡ m → sub_at p now ≡ None → (closed : Bool) (made : ℕ) → seat_at p (first closed made) ≡ None
      none None is e closed made = ap machine.seat_of (member-get rows p now ∙ ap (option_map (member_of rows p)) is)
      none (Some m) is e closed made =
          ap machine.seat_of (member-get rows p now ∙ ap (option_map (member_of rows p)) is) ∙ ap (option_map (seat_in rows p)) (sym (ap sub_in is) ∙ e)

      by : (o : Option ℕ) → sub_at p now ≡ o → IsLost w p n rows members (left_rows p o rows) (change_at (with_sub None) p now)
      by None e = record {
        state = λ closed made.
            ap (λ (l : List Member). system w closed made rows l) (unseated p now e)
            ∙ sym (ap (λ (o : Option machine.Seat). machine.leave p o (first closed made)) (none (slice_get now p) refl e closed made)) ∙ whole closed made;
        kept = λ closed made kept. subst (λ (l : List Member). IsKept w closed made rows l) (sym (unseated p now e)) (noted.kept w rows closed made kept);
      }
      by (Some g) e = record {
        state = λ closed made. left-view p rows now seats each g e w closed made ∙ whole closed made;
        kept = λ closed made kept. left-keeps w p g rows now each e closed made (noted.kept w rows closed made kept);
      }

views : (rows : Rows) (k p : ℕ) (l : List Member) → length l ≤ p → length (members_from rows k l) ≤ p
views rows k p [] le = le
views rows k zero (m ∷ l) le = absurd (omega (arith, le))
views rows k (suc p) (m ∷ l) le = let rest = views rows (k + 1) p l (omega (arith, le)) in omega (arith, rest)

-- no such peer
pub lost-none : (w : World) (p n : ℕ) (rows : Rows) (members : List Member) → length members ≤ p → IsLost w p n rows members rows members
lost-none w p n rows members past = record {
  state = λ closed made. sym (by (n == sessions_at p w) closed made);
  kept = λ closed made kept. kept;
}
  where
    same : (closed : Bool) (made : ℕ) → change_at (with_loss n) p (members_from rows 0 members) ≡ members_from rows 0 members
    same closed made = end_is (with_loss n) (members_from rows 0 members) p (views rows 0 p members past)

    none : (closed : Bool) (made : ℕ) → seat_at p (system w closed made rows members) ≡ None
    none closed made = ap machine.seat_of (member-get rows p members ∙ ap (option_map (member_of rows p)) (get_none members p past))

    by : (b : Bool) (closed : Bool) (made : ℕ) → (let noted = record (system w closed made rows members) { members = change_at (with_loss n) p (members_from rows 0 members) } in if b then machine.leave p (seat_at p noted) noted else noted) ≡ system w closed made rows members
    by b closed made =
        ap (λ (l : List machine.Member). let noted = record (system w closed made rows members) { members = l } in if b then machine.leave p (seat_at p noted) noted else noted) (same closed made)
        ∙ last b
      where
        last : (b : Bool) → (if b then machine.leave p (seat_at p (system w closed made rows members)) (system w closed made rows members) else system w closed made rows members) ≡ system w closed made rows members
        last true = ap (λ (o : Option machine.Seat). machine.leave p o (system w closed made rows members)) (none closed made)
        last false = refl
