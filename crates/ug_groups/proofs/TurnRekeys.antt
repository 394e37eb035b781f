-- The turn of a peer that has another key, or asks for all routes again, in a subgroup of its own.
use Rattle.std.proofs.Common.{◌≡◌, ℕ, zero, suc, ◌+◌, ◌≤◌, inl, inr, Bool, true, false, List, [], ◌∷◌, slice_get, Option, Some, None, is_some, refl, sym, ap, subst, ◌∙◌}
use Rattle.std.specs.Prelude.{if◌then◌else◌}
use Rattle.std.specs.Option.{option_map}
use Rattle.ug_outbound.specs.declared.key.GroupKey.{GroupKey}
use Rattle.ug_world.specs.World.{World}
use Rattle.ug_speaker.specs.Places.{change_at}
use Rattle.ug_groups.specs.Sent.{session_of}
use Rattle.ug_group_rules.specs.declared.phase.Phase.TheVariants.{Owed}
use Rattle.ug_group_rules.specs.Packets.{all_forced, wanted_rows, same_group}
use Rattle.ug_group_rules.proofs.Groups.{group-same}
use Rattle.ug_group_rules.specs.Machine as machine
use Rattle.ug_group_rules.specs.Machine.{Subgroup, Seat, System, Asks, Rekeys, seat_at, with_own, rekey, rekeyed, ask, asked, apart}
use Rattle.ug_group_rules.specs.Rules.{rest_due}
use Rattle.ug_group_rules.specs.Touched.{IsKeptIn}
use Rattle.ug_group_rules.specs.Evaluations.{has_key, all_heeded}
use Rattle.ug_group_rules.proofs.Keys.{live-met}
use Rattle.ug_group_rules.proofs.NewTables.{same-rekeyed}
use Rattle.ug_groups.specs.Rows.{Row, Rows, row_at, HasRow, subs_of, sub_of, keys_in, with_row, with_sub}
use Rattle.ug_groups.specs.Entered.{asking, rekeyed_to}
use Rattle.ug_groups.specs.declared.member.Member.{Member}
use Rattle.ug_groups.specs.Members.{seat_in, member_of, members_from, system, sub_at}
use Rattle.ug_groups.specs.Kept.{IsTabled, AreRows, AreCounted}
use Rattle.ug_groups.specs.Turns.{IsBeside, IsTurned, IsAlone, IsSplit}
use Rattle.ug_groups.proofs.ListFacts.{some-same}
use Rattle.ug_groups.proofs.RowsAt.{row-here, changed-cases, subs-changed, sub-at}
use Rattle.ug_groups.proofs.MemberViews.{same-member, none-changed}
use Rattle.ug_groups.proofs.Keeping.{stands-with, inhabited-with, rest-with}
use Rattle.ug_groups.proofs.Seats.{sits-sub}
use Rattle.ug_groups.proofs.EvaluatedTurns.{key-asked}
use Rattle.ug_groups.proofs.TurnKept.{seat-view}

-- ---- one subgroup, of one peer alone, is changed

module _ (p g : ℕ) (change : Subgroup → Subgroup) (w : World) (rows : Rows) (members : List Member) where
  abbrev now : Rows
  now = with_row g (with_sub change) rows

  members-same : (q : ℕ) (m : Member) → member_of now q m ≡ member_of rows q m
  members-same q m = same-member rows now q m (λ k k_sub. rest-with g (with_sub change) rows q k (λ r is. refl))

  pub own-view : sub_at p members ≡ Some g → (closed : Bool) (made : ℕ) → system w closed made now members ≡ with_own change (seat_at p (system w closed made rows members)) (system w closed made rows members)
  own-view sits closed made =
      ap (λ (l : List (Option Subgroup)). record { world = w; closed = closed; made = made; subgroups = l; members = members_from now 0 members }) (subs-changed g (with_sub change) change rows (λ r. refl))
      ∙ ap (λ (l : List machine.Member). record { world = w; closed = closed; made = made; subgroups = change_at (option_map change) g (subs_of rows); members = l }) (none-changed rows now members (λ q m at. members-same q m))
      ∙ sym (ap (λ (o : Option Seat). with_own change o (system w closed made rows members)) (seat-view p w closed made rows members ∙ ap (option_map (seat_in rows p)) sits))

  pub own-beside : IsAlone p g members → ((r : Row) → row_at g rows ≡ Some r → IsTabled w r → IsTabled w (with_sub change r)) → IsBeside p w rows members → IsBeside p w now members
  own-beside alone tables beside = record {
    good = beside.good;
    peers = beside.peers;
    all = beside.all;
    seated = λ q h. stands-with g (with_sub change) rows q h (λ r is. refl) ∙ beside.seated q h;
    inhabited = inhabited-with g (with_sub change) rows (λ r is. beside.inhabited g r is) beside.inhabited;
    tabled = λ h r is. elim (changed-cases g h (with_sub change) rows r is) [
      | inl it ↦ subst (IsTabled w) (sym it.changed) (tables it.old it.there_is (beside.tabled g it.old it.there_is))
      | inr it ↦ beside.tabled h r it.there_is
    ];
    own = λ q h s r apart peer sits is. elim (changed-cases g h (with_sub change) rows r is) [
      | inl it ↦ absurd (apart (alone.others q (subst (λ (k : ℕ). sub_at q members ≡ Some k) it.number sits)))
      | inr it ↦ beside.own q h s r apart peer sits it.there_is
    ];
    room = beside.room;
  }

  pub own-counted : (made : ℕ) → AreCounted made rows members → AreCounted made now members
  own-counted made all q m at = subst (λ (x : machine.Member). m.handed + rest_due x.seat ≤ made) (sym (members-same q m)) (all q m at)

  -- the one subgroup of the peer
  pub own-row : sub_at p members ≡ Some g → (h : ℕ) (r : Row) → sub_at p members ≡ Some h → row_at h now ≡ Some r → (old : Row) × (row_at g rows ≡ Some old) × (r ≡ with_sub change old)
  own-row sits h r at is =
      let number : h ≡ g = some-same h g (sym at ∙ sits) in
      by (row_at g rows) refl (sym (row-here g (with_sub change) rows) ∙ subst (λ (k : ℕ). row_at k now ≡ Some r) number is)
    where
      by : (o : Option Row) → row_at g rows ≡ o → option_map (with_sub change) o ≡ Some r → (old : Row) × (row_at g rows ≡ Some old) × (r ≡ with_sub change old)
      by None there_is e = absurd cc
      by (Some old) there_is e = (old, there_is, sym (some-same (with_sub change old) r e))

-- ---- another key

rekeyed-tabled : (key : GroupKey) (w : World) (r : Row) → IsTabled w r → IsTabled w (rekeyed_to key w r)
rekeyed-tabled key w r was = record { desires = refl; limit = was.limit }

pub rekeyed-done : (p g own : ℕ) (key : GroupKey) (w : World) (rows : Rows) (members : List Member) (rows1 : Rows) (members1 : List Member) (rows2 : Rows) → IsSplit p g own w rows members rows1 members1
    → rows2 ≡ with_row own (rekeyed_to key w) rows1 → IsTurned Rekeys p key w rows members rows2 members1
rekeyed-done p g own key w rows members rows1 members1 rows2 split is =
    subst (λ (l : Rows). IsTurned Rekeys p key w rows members l members1) (sym is)
    (record {
      state = λ closed made. own-view p own (rekeyed key w) w rows1 members1 split.alone.sits closed made ∙ ap (λ (s : System). rekey p key s) (split.state closed made);
      beside = own-beside p own (rekeyed key w) w rows1 members1 split.alone (λ r there_is was. rekeyed-tabled key w r was) split.beside;
      own = λ h r at there_is. let found = own-row p own (rekeyed key w) w rows1 members1 split.alone.sits h r at there_is in ap (λ (x : Row). x.sub.key) found.2;
      remains = λ h at. tt;
      counted = λ made all. own-counted p own (rekeyed key w) w rows1 members1 made (split.counted made all);
    })

row-fixed : (g : ℕ) (change : Row → Row) (rows : Rows) (r : Row) → row_at g rows ≡ Some r → change r ≡ r → with_row g change rows ≡ rows
row-fixed g change [] r is same = refl
row-fixed zero change (None ∷ rows) r is same = refl
row-fixed zero change (Some x ∷ rows) r is same =
    let one : x ≡ r = cc in
    ap (λ (y : Row). Some y ∷ rows) (ap change one ∙ same ∙ sym one)
row-fixed (suc g) change (x ∷ rows) r is same = ap (λ (l : Rows). x ∷ l) (row-fixed g change rows r is same)

-- the row of its own
pub split-row : (p g own : ℕ) (w : World) (rows : Rows) (members : List Member) (rows1 : Rows) (members1 : List Member) → IsSplit p g own w rows members rows1 members1 → (r : Row) × (row_at own rows1 ≡ Some r)
split-row p g own w rows members rows1 members1 split = let found = sits-sub rows1 members1 p own split.alone.sits split.beside.seated in (found.0, found.1)

pub same-key : (own : ℕ) (key : GroupKey) (w : World) (rows1 : Rows) (r : Row) → row_at own rows1 ≡ Some r → r.sub.key ≡ key → IsKeptIn w r.sub → rows1 ≡ with_row own (rekeyed_to key w) rows1
same-key own key w rows1 r is same kept =
    sym (row-fixed own (rekeyed_to key w) rows1 r is
    (ap (λ (k : GroupKey). record { sub = rekeyed k w r.sub; queue = r.queue }) (sym same) ∙ ap (λ (x : Subgroup). record { sub = x; queue = r.queue }) (same-rekeyed w r.sub kept)))

-- a key that a subgroup has isn't asked
pub asking-had : (own : ℕ) (key : GroupKey) (w : World) (rows : Rows) (r : Row) → row_at own rows ≡ Some r → r.sub.key ≡ key → asking w rows key ≡ 0
asking-had own key w rows r is same =
    ap (λ (b : Bool). if b then 0 else all_heeded key.add_path w.routes)
    (subst (λ (k : GroupKey). has_key (keys_in rows) k ≡ true) same
    (live-met (system w false 0 rows []) own r.sub (by (slice_get (subs_of rows) own) (sub-at own rows ∙ ap (option_map sub_of) is))))
  where
    by : (o : Option (Option Subgroup)) → machine.there o ≡ Some r.sub → o ≡ Some (Some r.sub)
    by None e = absurd cc
    by (Some None) e = absurd cc
    by (Some (Some x)) e = cc

pub asking-split : (p g own : ℕ) (key : GroupKey) (w : World) (rows : Rows) (members : List Member) (rows1 : Rows) (members1 : List Member) → IsSplit p g own w rows members rows1 members1 → asking w rows1 key ≡ asking w rows key
asking-split p g own key w rows members rows1 members1 split = ap (λ (b : Bool). if b then 0 else all_heeded key.add_path w.routes) (split.keys key)

-- ---- all routes are to be told again

asked-desired : (x : Subgroup) → (asked x).out.desired ≡ x.out.desired
asked-desired x = by x.key.enhanced_refresh
  where
    by : (b : Bool) → (if b then record x { phase = Owed } else record x { out = all_forced x.out }).out.desired ≡ x.out.desired
    by true = refl
    by false = refl

asked-tabled : (w : World) (r : Row) → IsTabled w r → IsTabled w (with_sub asked r)
asked-tabled w r was = record { desires = asked-desired r.sub ∙ was.desires ∙ sym (ap (λ (k : GroupKey). wanted_rows k w) (key-asked r.sub)); limit = was.limit }

pub asked-done : (p own : ℕ) (key : GroupKey) (w : World) (rows : Rows) (members : List Member) (rows2 : Rows) (members1 : List Member) (rows3 : Rows) → IsTurned Rekeys p key w rows members rows2 members1 → IsAlone p own members1
    → rows3 ≡ with_row own (with_sub asked) rows2 → IsTurned Asks p key w rows members rows3 members1
asked-done p own key w rows members rows2 members1 rows3 turned alone is =
    subst (λ (l : Rows). IsTurned Asks p key w rows members l members1) (sym is)
    (record {
      state = λ closed made. own-view p own asked w rows2 members1 alone.sits closed made ∙ ap (λ (s : System). ask p s) (turned.state closed made);
      beside = own-beside p own asked w rows2 members1 alone (λ r there_is was. asked-tabled w r was) turned.beside;
      own = λ h r at there_is.
          let found = own-row p own asked w rows2 members1 alone.sits h r at there_is in
          ap (λ (x : Row). x.sub.key) found.2 ∙ key-asked found.0.sub ∙ turned.own own found.0 alone.sits found.1;
      remains = λ h at. tt;
      counted = λ made all. own-counted p own asked w rows2 members1 made (turned.counted made all);
    })

-- ---- as the steps of the code lead to it

key-at : (o : Option Row) (k : GroupKey) → option_map (λ (r : Row). r.sub.key) o ≡ Some k → (r : Row) × (o ≡ Some r) × (r.sub.key ≡ k)
key-at None k e = absurd cc
key-at (Some r) k e = (r, refl, (let same : r.sub.key ≡ k = cc in same))

module _ (p g own : ℕ) (key : GroupKey) (w : World) (rows : Rows) (members : List Member) (rows1 : Rows) (members1 : List Member) (split : IsSplit p g own w rows members rows1 members1) where
  -- its own subgroup has the key
  pub rekey-same : AreRows rows1 → (k : GroupKey) → option_map (λ (r : Row). r.sub.key) (row_at own rows1) ≡ Some k → same_group k key ≡ true → IsTurned Rekeys p key w rows members rows1 members1
  rekey-same each k at alike =
      let found = key-at (row_at own rows1) k at in
      let same = found.2 ∙ group-same k key alike in
      let row = each own found.0 found.1 in
      rekeyed-done p g own key w rows members rows1 members1 rows1 split
      (same-key own key w rows1 found.0 found.1 same (record { exact = row.exact; shown = row.shown; desires = (split.beside.tabled own found.0 found.1).desires }))

  pub rekey-none : (k : GroupKey) → option_map (λ (r : Row). r.sub.key) (row_at own rows1) ≡ Some k → same_group k key ≡ true → asking w rows key ≡ 0
  rekey-none k at alike =
      let found = key-at (row_at own rows1) k at in
      sym (asking-split p g own key w rows members rows1 members1 split) ∙ asking-had own key w rows1 found.0 found.1 (found.2 ∙ group-same k key alike)

  pub rekey-there : HasRow g rows (λ r. session_of key ≡ session_of r.sub.key) → HasRow own rows1 (λ r. session_of key ≡ session_of r.sub.key)
  rekey-there session =
      let row = split-row p g own w rows members rows1 members1 split in
      (row.0, row.1, session.2 ∙ sym (ap session_of (split.key session.0 row.0 session.1 row.1)))

  pub own-there : is_some (row_at own rows1) ≡ true
  own-there = let row = split-row p g own w rows members rows1 members1 split in ap is_some row.1
