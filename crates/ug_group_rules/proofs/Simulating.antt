-- In each course a subgroup stands for each of its members, and before an event nothing is put off.
use Rattle.std.proofs.Common.{◌≡◌, ℕ, Bool, true, false, List, ◌++◌, slice_get, Option, Some, None, refl, sym, ◌∙◌, ap}
use Rattle.std.specs.Prelude.{◌&&◌, not, nat_lt, is_some, is_none}
use Rattle.ug_board.specs.History.{replay}
use Rattle.ug_events.specs.Events.{Happening}
use Rattle.ug_world.specs.declared.peer_state.PeerState.{PeerState}
use Rattle.ug_world.specs.World.{World}
use Rattle.ug_world.specs.Verdicts.{verdict}
use Rattle.ug_speaker.specs.Told.{worlds_of, told, is_live as is_live_in}
use Rattle.ug_speaker.specs.Owes.{IsCourse}
use Rattle.ug_speaker.proofs.Bools.{both_so, not_so}
use Rattle.ug_group_rules.specs.Machine.{Subgroup, Seat, Member, System, seat_of, seat_at, subgroup_at, there, owes, is_full, some_so, may_merge, must_part, is_ordered, is_settled, is_turn, Take, legal}
use Rattle.ug_group_rules.specs.Rules.{group_rules, group_speech}
use Rattle.ug_group_rules.specs.Simulates.{Simulates, rest_to}
use Rattle.ug_group_rules.proofs.Found.{none-so}
use Rattle.ug_group_rules.proofs.MemberStreams.{IsKept}
use Rattle.ug_group_rules.proofs.Seated.{is_live}
use Rattle.ug_group_rules.proofs.Histories.{GroupEntry}
use Rattle.ug_group_rules.proofs.Courses.{IsMemberAt, member-at, live-here, system}

module _ (opening : World) (h : List GroupEntry) (p : ℕ) (s : PeerState) (course : IsCourse group_rules group_speech opening h) (is : slice_get (replay group_rules opening h).world.peers p ≡ Some s) where
  abbrev here : System
  here = replay group_rules opening h

  m : IsMemberAt opening h course p s
  m = member-at opening h course p s is

  abbrev IsStoodFor : Seat → Type 0
  IsStoodFor t =
      (x : Subgroup) × (subgroup_at t.sub here ≡ Some x)
      × Simulates p s (worlds_of group_rules group_speech opening h) here.world x (told group_rules group_speech p s.sessions opening h ++ rest_to s t.rest)

  pub stood-for : (t : Seat) → seat_at p here ≡ Some t → IsStoodFor t
  stood-for t seat =
      let sat = m.placed.sat t (sym (ap seat_of m.at) ∙ seat) in
      let kept : IsKept here.world sat.subgroup = (system opening h course).kept t.sub sat.subgroup sat.there in (
        sat.subgroup,
        ap there sat.there,
        record {
          key = sat.key_is;
          desired = kept.desired;
          table = sat.stream.has;
          fresh = kept.nothing;
          untold = sat.untold;
          never_back = sat.stream.right.never_back;
          one_end = sat.stream.one;
          whole = sat.stream.right.whole;
          in_turn = sat.stream.right.in_turn;
          no_marks = sat.stream.right.no_marks;
          not_due = sat.stream.after;
          stale = λ k dropped. (sat.stream.stale k dropped).0;
          rests = sat.stream.rests;
          begun = sat.stream.begun;
        },
      )

  -- who is live sits somewhere, and nobody else
  pub seated-live : is_live_in group_rules group_speech p s opening h ≡ is_some (seat_at p here)
  seated-live = live-here opening h course p s m ∙ by m.member.seat refl ∙ sym (ap (λ (o : Option Member). is_some (seat_of o)) m.at)
    where
      by : (o : Option Seat) → m.member.seat ≡ o → is_live s m.member ≡ is_some o
      by None at = m.placed.empty at
      by (Some t) at = (m.placed.sat t at).live

-- ---- before an event

after_turn : (a b : Bool) → (a && b) ≡ false → a ≡ true → b ≡ false
after_turn true b e f = e
after_turn false b e f = absurd cc

full_if : (a b : Bool) → (a && not b) ≡ false → a ≡ true → b ≡ true
full_if true true e f = refl
full_if true false e f = absurd cc
full_if false b e f = absurd cc

module _ (e : Happening) (s : System) (legal_now : legal (Take e) s ≡ true) where
  settled : is_settled s ≡ true
  settled =
      let one = both_so (is_none (verdict s.world e)) (nat_lt s.world.version 4294967295 && (is_settled s && not s.closed)) legal_now in
      let two = both_so (nat_lt s.world.version 4294967295) (is_settled s && not s.closed) one.1 in (both_so (is_settled s) (not s.closed) two.1).0

  parts : (is_ordered s ≡ true) × (not (is_turn s.world.local.coalesce s.world.version && some_so s (λ g x. owes x && not (is_full s g))) ≡ true)
  parts = both_so (is_ordered s) (not (is_turn s.world.local.coalesce s.world.version && some_so s (λ g x. owes x && not (is_full s g)))) settled

  ordered : (not (some_so s (λ g x. some_so s (λ h y. may_merge s g h))) ≡ true) × (not (some_so s (λ g x. must_part s g)) ≡ true)
  ordered = both_so (not (some_so s (λ g x. some_so s (λ h y. may_merge s g h)))) (not (some_so s (λ g x. must_part s g))) parts.0

  pub merged-before : (g h : ℕ) (x y : Subgroup) → slice_get s.subgroups g ≡ Some (Some x) → slice_get s.subgroups h ≡ Some (Some y) → may_merge s g h ≡ false
  merged-before g h x y is at =
      none-so s (λ k z. may_merge s g k) h y (none-so s (λ k z. some_so s (λ j v. may_merge s k j)) g x (not_so (some_so s (λ k z. some_so s (λ j v. may_merge s k j))) ordered.0) is) at

  pub parted-before : (g : ℕ) (x : Subgroup) → slice_get s.subgroups g ≡ Some (Some x) → must_part s g ≡ false
  parted-before g x is = none-so s (λ k z. must_part s k) g x (not_so (some_so s (λ k z. must_part s k)) ordered.1) is

  pub formatted-before : (g : ℕ) (x : Subgroup) → slice_get s.subgroups g ≡ Some (Some x) → is_turn s.world.local.coalesce s.world.version ≡ true → owes x ≡ true → is_full s g ≡ true
  formatted-before g x is turn owing =
      let none = after_turn (is_turn s.world.local.coalesce s.world.version) (some_so s (λ k z. owes z && not (is_full s k))) (not_so _ parts.1) turn in
      full_if (owes x) (is_full s g) (none-so s (λ k z. owes z && not (is_full s k)) g x none is) owing
