-- What is drained stays drained, but for an event.
use Rattle.std.proofs.Common.{◌≡◌, ℕ, suc, zero, Bool, true, false, List, [], ◌∷◌, length, slice_get, Option, Some, None, refl, sym}
use Rattle.std.specs.Prelude.{◌&&◌, ◌==◌, not, nat_lt, nat_le, if◌then◌else◌}
use Rattle.std.proofs.lemmas.Bool.{eq-eqb}
use Rattle.ug_types.specs.Bytes.{is_empty}
use Rattle.ug_board.specs.declared.steps.LaneStep.{LaneStep}
use Rattle.ug_board.specs.declared.steps.LaneStep.TheVariants.{Next, Lost}
use Rattle.ug_board.specs.Rules.{says_more, counts}
use Rattle.ug_world.specs.declared.peer_state.PeerState.{PeerState}
use Rattle.ug_speaker.specs.Places.{change_at}
use Rattle.ug_speaker.specs.Counts.{sessions_at, sessions_had}
use Rattle.ug_speaker.proofs.Bools.{both_so, both, not_so}
use Rattle.ug_group_rules.specs.Machine.{Seat, Member, Subgroup, System, owes, is_pending, is_level, is_so, some_so, left_in, queued, is_full, is_parted, may_format, may_merge, must_part, is_ordered, is_settled, is_turn, is_seat_quiet, is_member_quiet, are_quiet, is_drained, seat_at, leave, seated, with_seat, without_subgroup, has_members, with_loss, after_loss, first_left, upshot_of}
use Rattle.ug_group_rules.specs.Packets.{Packet, same_group}
use Rattle.ug_group_rules.specs.Rules.{said_of, lane_reply, after_lane, group_rules}
use Rattle.ug_group_rules.proofs.Lawful.{rest_says}
use Rattle.ug_group_rules.proofs.Found.{none-so, none-of, found-so, so-found}

-- what drained says
pub record IsRested (s : System) : Type 0 where
  pub merges : some_so s (λ g x. some_so s (λ h y. may_merge s g h)) ≡ false
  pub parts : some_so s (λ g x. must_part s g) ≡ false
  pub owing : some_so s (λ g x. owes x) ≡ false
  pub quiet : are_quiet s.world.peers s.members ≡ true

pub rested : (s : System) → is_drained s ≡ true → IsRested s
rested s drained =
    let all = both_so (is_ordered s) (not (some_so s (λ g x. owes x)) && are_quiet s.world.peers s.members) drained in
    let ordered = both_so (not (some_so s (λ g x. some_so s (λ h y. may_merge s g h)))) (not (some_so s (λ g x. must_part s g))) all.0 in
    let rest = both_so (not (some_so s (λ g x. owes x))) (are_quiet s.world.peers s.members) all.1 in
    record {
      merges = not_so (some_so s (λ g x. some_so s (λ h y. may_merge s g h))) ordered.0;
      parts = not_so (some_so s (λ g x. must_part s g)) ordered.1;
      owing = not_so (some_so s (λ g x. owes x)) rest.0;
      quiet = rest.1;
    }

so_not : (b : Bool) → b ≡ false → not b ≡ true
so_not b e = rw e refl

pub drained-from : (s : System) → IsRested s → is_drained s ≡ true
drained-from s r =
    both (is_ordered s) (not (some_so s (λ g x. owes x)) && are_quiet s.world.peers s.members)
    (both (not (some_so s (λ g x. some_so s (λ h y. may_merge s g h)))) (not (some_so s (λ g x. must_part s g))) (so_not _ r.merges) (so_not _ r.parts))
    (both (not (some_so s (λ g x. owes x))) (are_quiet s.world.peers s.members) (so_not _ r.owing) r.quiet)

-- ---- what is drained is settled

pub drained-settled : (s : System) → is_drained s ≡ true → is_settled s ≡ true
drained-settled s drained =
    let all = both_so (is_ordered s) (not (some_so s (λ g x. owes x)) && are_quiet s.world.peers s.members) drained in
    let r = rested s drained in
    let none : some_so s (λ g x. owes x && not (is_full s g)) ≡ false = none-of s _ (λ g x is. no_owing (owes x) (is_full s g) (none-so s (λ g x. owes x) g x r.owing is)) in
    both (is_ordered s) (not (is_turn s.world.local.coalesce s.world.version && some_so s (λ g x. owes x && not (is_full s g)))) all.0
    (no_turn (is_turn s.world.local.coalesce s.world.version) (some_so s (λ g x. owes x && not (is_full s g))) none)
  where
    no_owing : (a b : Bool) → a ≡ false → (a && not b) ≡ false
    no_owing a b e = rw e refl

    no_turn : (a b : Bool) → b ≡ false → not (a && b) ≡ true
    no_turn true b e = rw e refl
    no_turn false b e = refl

-- ---- no job but an event, marks and the end may be done

pub formats-none : (s : System) (g : ℕ) → IsRested s → may_format s g ≡ true → ⊥
formats-none s g r may =
    let found = found-so s g owes (both_so (is_so s g owes) (not (is_full s g)) may).0 in
    let none = none-so s (λ g x. owes x) g found.subgroup r.owing found.is in
    let some = found.passes in absurd cc

pub merges-none : (s : System) (g h : ℕ) → IsRested s → may_merge s g h ≡ true → ⊥
merges-none s g h r may =
    let parts = both_so (not (g == h)) (is_so s g (λ x. is_level x && is_so s h (λ y. is_level y && same_group x.key y.key)) && (queued h s.members == 0)) may in
    let more = both_so (is_so s g (λ x. is_level x && is_so s h (λ y. is_level y && same_group x.key y.key))) (queued h s.members == 0) parts.1 in
    let one = found-so s g (λ x. is_level x && is_so s h (λ y. is_level y && same_group x.key y.key)) more.0 in
    let other = found-so s h (λ y. is_level y && same_group one.subgroup.key y.key) (both_so (is_level one.subgroup) (is_so s h (λ y. is_level y && same_group one.subgroup.key y.key)) one.passes).1 in
    let row = none-so s (λ g x. some_so s (λ h y. may_merge s g h)) g one.subgroup r.merges one.is in
    let none = none-so s (λ h y. may_merge s g h) h other.subgroup row other.is in absurd cc

pub parts-none : (s : System) (g : ℕ) → IsRested s → must_part s g ≡ true → ⊥
parts-none s g r may =
    let found = found-so s g (λ x. is_pending x && nat_le s.world.local.slow_after x.stuck) (both_so (is_so s g (λ x. is_pending x && nat_le s.world.local.slow_after x.stuck)) (is_full s g && is_parted s g) may).0 in
    let none = none-so s (λ g x. must_part s g) g found.subgroup r.parts found.is in absurd cc

-- ---- what a loss leaves

-- no subgroup has come
abbrev Fewer : System → System → Type 0
Fewer s t = (g : ℕ) (x : Subgroup) → slice_get t.subgroups g ≡ Some (Some x) → slice_get s.subgroups g ≡ Some (Some x)

no_rest : (g : ℕ) (o : Option Seat) → is_seat_quiet o ≡ true → left_in g o ≡ 0
no_rest g None quiet = refl
no_rest g (Some t) quiet = by (t.sub == g) t.rest quiet
  where
    by : (b : Bool) (rest : List Packet) → is_empty rest ≡ true → (if b then length rest else 0) ≡ 0
    by true [] e = refl
    by false [] e = refl
    by b (x ∷ rest) e = absurd cc

none_queued : (g : ℕ) (peers : List PeerState) (members : List Member) → are_quiet peers members ≡ true → queued g members ≡ 0
none_queued g peers [] quiet = refl
none_queued g [] (m ∷ members) quiet =
    let parts = both_so (is_member_quiet 0 m) (are_quiet [] members) quiet in
    let here = no_rest g m.seat (both_so (not (nat_lt m.begun 0)) (is_seat_quiet m.seat) parts.0).1 in
    let rest = none_queued g [] members parts.1 in rw (here, rest) refl
none_queued g (s ∷ peers) (m ∷ members) quiet =
    let parts = both_so (is_member_quiet s.sessions m) (are_quiet peers members) quiet in
    let here = no_rest g m.seat (both_so (not (nat_lt m.begun s.sessions)) (is_seat_quiet m.seat) parts.0).1 in
    let rest = none_queued g peers members parts.1 in rw (here, rest) refl

false_unless : (b : Bool) → (b ≡ true → ⊥) → b ≡ false
false_unless true h = absurd (h refl)
false_unless false h = refl

module _ (s t : System) (r : IsRested s) (fewer : Fewer s t) (quiet : are_quiet t.world.peers t.members ≡ true) where
  still_merges : (g h : ℕ) → may_merge t g h ≡ true → may_merge s g h ≡ true
  still_merges g h may =
      let parts = both_so (not (g == h)) (is_so t g (λ x. is_level x && is_so t h (λ y. is_level y && same_group x.key y.key)) && (queued h t.members == 0)) may in
      let more = both_so (is_so t g (λ x. is_level x && is_so t h (λ y. is_level y && same_group x.key y.key))) (queued h t.members == 0) parts.1 in
      let one = found-so t g (λ x. is_level x && is_so t h (λ y. is_level y && same_group x.key y.key)) more.0 in
      let tests = both_so (is_level one.subgroup) (is_so t h (λ y. is_level y && same_group one.subgroup.key y.key)) one.passes in
      let other = found-so t h (λ y. is_level y && same_group one.subgroup.key y.key) tests.1 in
      let other_so = so-found s h (λ y. is_level y && same_group one.subgroup.key y.key) other.subgroup (fewer h other.subgroup other.is) other.passes in
      let one_so = so-found s g (λ x. is_level x && is_so s h (λ y. is_level y && same_group x.key y.key)) one.subgroup (fewer g one.subgroup one.is) (both (is_level one.subgroup) _ tests.0 other_so) in
      let none : (queued h s.members == 0) ≡ true = eq-eqb (queued h s.members) 0 (none_queued h s.world.peers s.members r.quiet) in
      both (not (g == h)) _ parts.0 (both _ (queued h s.members == 0) one_so none)

  no_part : (g : ℕ) → must_part t g ≡ true → ⊥
  no_part g may =
      let found = found-so t g (λ x. is_pending x && nat_le t.world.local.slow_after x.stuck) (both_so (is_so t g (λ x. is_pending x && nat_le t.world.local.slow_after x.stuck)) (is_full t g && is_parted t g) may).0 in
      let none = none-so s (λ g x. owes x) g found.subgroup r.owing (fewer g found.subgroup found.is) in
      let some = (both_so (is_pending found.subgroup) (nat_le t.world.local.slow_after found.subgroup.stuck) found.passes).0 in
      let owing : owes found.subgroup ≡ true = rw some refl in absurd cc

  pub rested-fewer : IsRested t
  rested-fewer = record {
    merges = none-of t _ (λ g x is. none-of t _ (λ h y at. false_unless (may_merge t g h) (λ may. merges-none s g h r (still_merges g h may))));
    parts = none-of t _ (λ g x is. false_unless (must_part t g) (no_part g));
    owing = none-of t _ (λ g x is. none-so s (λ g x. owes x) g x r.owing (fewer g x is));
    quiet = quiet;
  }

none_there : (g h : ℕ) (xs : List (Option Subgroup)) (x : Subgroup) → slice_get (change_at (λ (o : Option Subgroup). None) g xs) h ≡ Some (Some x) → slice_get xs h ≡ Some (Some x)
none_there g h [] x is = is
none_there zero zero (o ∷ xs) x is = absurd cc
none_there zero (suc h) (o ∷ xs) x is = is
none_there (suc g) zero (o ∷ xs) x is = is
none_there (suc g) (suc h) (o ∷ xs) x is = none_there g h xs x is

leave_fewer : (p : ℕ) (o : Option Seat) (s : System) → Fewer s (leave p o s)
leave_fewer p None s = λ g x is. is
leave_fewer p (Some t) s = by (has_members t.sub (seated p None s).members)
  where
    by : (b : Bool) → Fewer s (if b then seated p None s else without_subgroup t.sub (seated p None s))
    by true = λ g x is. is
    by false = λ g x is. none_there t.sub g s.subgroups x is

quiet_changed :
    (change : Member → Member) (p : ℕ) (peers : List PeerState) (members : List Member) → ((n : ℕ) (m : Member) → is_member_quiet n m ≡ true → is_member_quiet n (change m) ≡ true)
    → are_quiet peers members ≡ true → are_quiet peers (change_at change p members) ≡ true
quiet_changed change p peers [] keeps quiet = refl
quiet_changed change zero [] (u ∷ members) keeps quiet =
    let parts = both_so (is_member_quiet 0 u) (are_quiet [] members) quiet in
    both (is_member_quiet 0 (change u)) (are_quiet [] members) (keeps 0 u parts.0) parts.1
quiet_changed change zero (s ∷ peers) (u ∷ members) keeps quiet =
    let parts = both_so (is_member_quiet s.sessions u) (are_quiet peers members) quiet in
    both (is_member_quiet s.sessions (change u)) (are_quiet peers members) (keeps s.sessions u parts.0) parts.1
quiet_changed change (suc p) [] (u ∷ members) keeps quiet =
    let parts = both_so (is_member_quiet 0 u) (are_quiet [] members) quiet in
    both (is_member_quiet 0 u) (are_quiet [] (change_at change p members)) parts.0 (quiet_changed change p [] members keeps parts.1)
quiet_changed change (suc p) (s ∷ peers) (u ∷ members) keeps quiet =
    let parts = both_so (is_member_quiet s.sessions u) (are_quiet peers members) quiet in
    both (is_member_quiet s.sessions u) (are_quiet peers (change_at change p members)) parts.0 (quiet_changed change p peers members keeps parts.1)

loss_quiet : (k n : ℕ) (m : Member) → is_member_quiet n m ≡ true → is_member_quiet n (with_loss k m) ≡ true
loss_quiet k n m quiet = quiet

gone_quiet : (n : ℕ) (m : Member) → is_member_quiet n m ≡ true → is_member_quiet n (with_seat None m) ≡ true
gone_quiet n m quiet = both (not (nat_lt m.begun n)) true (both_so (not (nat_lt m.begun n)) (is_seat_quiet m.seat) quiet).0 refl

leave_quiet : (p : ℕ) (o : Option Seat) (s : System) → are_quiet s.world.peers s.members ≡ true → are_quiet (leave p o s).world.peers (leave p o s).members ≡ true
leave_quiet p None s quiet = quiet
leave_quiet p (Some t) s quiet = by (has_members t.sub (seated p None s).members)
  where
    by : (b : Bool) → are_quiet (if b then seated p None s else without_subgroup t.sub (seated p None s)).world.peers (if b then seated p None s else without_subgroup t.sub (seated p None s)).members ≡ true
    by true = quiet_changed (with_seat None) p s.world.peers s.members gone_quiet quiet
    by false = quiet_changed (with_seat None) p s.world.peers s.members gone_quiet quiet

rested_loss : (p n : ℕ) (s : System) → IsRested s → IsRested (after_loss p n s)
rested_loss p n s r = by (n == sessions_at p s.world)
  where
    noted : System
    noted = record s { members = change_at (with_loss n) p s.members }

    noted_quiet : are_quiet noted.world.peers noted.members ≡ true
    noted_quiet = quiet_changed (with_loss n) p s.world.peers s.members (loss_quiet n) r.quiet

    by : (b : Bool) → IsRested (if b then leave p (seat_at p noted) noted else noted)
    by true = rested-fewer s (leave p (seat_at p noted) noted) r (leave_fewer p (seat_at p noted) noted) (leave_quiet p (seat_at p noted) noted noted_quiet)
    by false = rested-fewer s noted r (λ g x is. is) noted_quiet

-- ---- a lane has nothing to do in a drained state

pub quiet-at : (p : ℕ) (peers : List PeerState) (members : List Member) (m : Member) → are_quiet peers members ≡ true → slice_get members p ≡ Some m → is_member_quiet (sessions_had (slice_get peers p)) m ≡ true
quiet-at p peers [] m quiet is = absurd cc
quiet-at zero [] (u ∷ members) m quiet is = let same : u ≡ m = cc in rw (sym same) (both_so (is_member_quiet 0 u) (are_quiet [] members) quiet).0
quiet-at zero (s ∷ peers) (u ∷ members) m quiet is = let same : u ≡ m = cc in rw (sym same) (both_so (is_member_quiet s.sessions u) (are_quiet peers members) quiet).0
quiet-at (suc p) [] (u ∷ members) m quiet is = quiet-at p [] members m (both_so (is_member_quiet 0 u) (are_quiet [] members) quiet).1 is
quiet-at (suc p) (s ∷ peers) (u ∷ members) m quiet is = quiet-at p peers members m (both_so (is_member_quiet s.sessions u) (are_quiet peers members) quiet).1 is

none_left : (o : Option Seat) → is_seat_quiet o ≡ true → first_left o ≡ None
none_left None quiet = refl
none_left (Some t) quiet = by t.rest quiet
  where
    by : (rest : List Packet) → is_empty rest ≡ true → slice_get rest 0 ≡ None
    by [] e = refl
    by (x ∷ rest) e = absurd cc

quiet_says : (n : ℕ) (closed : Bool) (peer : Option PeerState) (m : Member) → is_member_quiet n m ≡ true → says_more (said_of closed peer (upshot_of n (Some m))) ≡ false
quiet_says n closed peer m quiet =
    let parts = both_so (not (nat_lt m.begun n)) (is_seat_quiet m.seat) quiet in
    let now = not_so (nat_lt m.begun n) parts.0 in
    let none = none_left m.seat parts.1 in rw (now, none) (rest_says closed)

pub drained-rests : (p : ℕ) (s : System) → is_drained s ≡ true → says_more (lane_reply (Next p) s) ≡ false
drained-rests p s drained = by (slice_get s.members p) refl
  where
    r : IsRested s
    r = rested s drained

    by : (o : Option Member) → slice_get s.members p ≡ o → says_more (said_of s.closed (slice_get s.world.peers p) (upshot_of (sessions_at p s.world) o)) ≡ false
    by None is = rest_says s.closed
    by (Some m) is = quiet_says (sessions_at p s.world) s.closed (slice_get s.world.peers p) m (quiet-at p s.world.peers s.members m r.quiet is)

pub drained-after_lane : (step : LaneStep) (s : System) → counts group_rules step s ≡ true → is_drained s ≡ true → is_drained (after_lane step s) ≡ true
drained-after_lane (Next p) s more drained = let none = drained-rests p s drained in absurd cc
drained-after_lane (Lost p n) s may drained = drained-from (after_loss p n s) (rested_loss p n s (rested s drained))
