-- Along each course each subgroup that is there has a member.
use Rattle.std.proofs.Common.{◌≡◌, ℕ, inl, inr, Bool, true, false, List, [], ◌∷◌, ◌++◌, length, map, slice_get, Option, Some, None, refl, sym, ◌∙◌, ap, subst}
use Rattle.std.specs.Prelude.{◌==◌, ◌&&◌, not, nat_le, if◌then◌else◌}
use Rattle.std.specs.List.{list_any}
use Rattle.std.specs.Option.{option_map}
use Rattle.std.proofs.lemmas.Bool.{cases_eq, eqb-true}
use Rattle.std.proofs.lemmas.Option.{slice_get-map}
use Rattle.ug_types.specs.Messages.{Message}
use Rattle.ug_board.specs.declared.steps.BoardStep.{BoardStep}
use Rattle.ug_board.specs.declared.steps.BoardStep.TheVariants.{Job as DoJob, Lane as LaneTakes}
use Rattle.ug_board.specs.declared.steps.BoardSaid.{BoardSaid}
use Rattle.ug_board.specs.declared.steps.BoardSaid.TheVariants.{Job as JobSaid, Lane as LaneGot}
use Rattle.ug_board.specs.declared.steps.LaneStep.TheVariants.{Next, Lost}
use Rattle.ug_board.specs.History.{IsLegalStep, IsLegalFrom, after_step, replay_from, replay}
use Rattle.ug_board.specs.Deeds.{Deed}
use Rattle.ug_world.specs.World.{World}
use Rattle.ug_speaker.specs.Told.{worlds_through, events_in}
use Rattle.ug_speaker.specs.Owes.{IsCourse}
use Rattle.ug_speaker.specs.Places.{change_at}
use Rattle.ug_speaker.specs.Counts.{sessions_at}
use Rattle.ug_speaker.proofs.Bools.{both_so, not_so}
use Rattle.ug_speaker.proofs.Places.{changed-here, changed-there}
use Rattle.ug_group_rules.specs.Machine.{Subgroup, Seat, Member, System, stands_first, stands_behind, queued, is_so, is_full, is_parted, must_part, is_pending, subgroup_at, reseated, unstuck, says_next, formatted, given, format_of, moved, merge, parted, slow_of, seat_at, leave, start, Job, Said, Take, Format, Merge, Slow, Sync, Close, Upshot, Begins, Hands, Rests, upshot, rest_behind, after_upshot, after_next, with_loss, after_loss}
use Rattle.ug_group_rules.specs.Rules.{group_rules, group_speech}
use Rattle.ug_group_rules.proofs.Seated.{IsSystem}
use Rattle.ug_group_rules.proofs.Parting.{changed-length}
use Rattle.ug_group_rules.proofs.Histories.{GroupEntry, AreFine, deeds_then, step-any, first-among, system-first}
use Rattle.ug_group_rules.proofs.SendableRoutes.{are-down}
use Rattle.ug_group_rules.proofs.Courses.{fine}
use Rattle.ug_group_rules.proofs.SubgroupMembers.{Sits, AreHeld, met, new-at, there-changed, none-there, sits-as}
use Rattle.ug_group_rules.proofs.SubgroupMembersTurns.{held-left, held-event}

-- ---- jobs

module _ (g : ℕ) (s : System) (held : AreHeld s) where
  held_formatted : (o : Option Subgroup) → AreHeld (format_of g o s)
  held_formatted None = held
  held_formatted (Some x) = λ k y there.
      let found = there-changed formatted g k s.subgroups y there in
      sits-as (given g (record { made = s.made; says = says_next x })) k k s.members (λ t here. by t (t.sub == g) ∙ here) (held k found.0 found.1)
    where
      by : (t : Seat) (b : Bool) → (if b then record t { rest = t.rest ++ record { made = s.made; says = says_next x } ∷ [] } else t).sub ≡ t.sub
      by t true = refl
      by t false = refl

  held_merged : (h : ℕ) → AreHeld (merge g h s)
  held_merged h k x there = elim (cases_eq k h) [
    | inl same ↦ absurd (none-there h s.subgroups x (subst (λ (j : ℕ). slice_get (change_at (λ (y : Option Subgroup). None) h s.subgroups) j ≡ Some (Some x)) same there))
    | inr other ↦
        sits-as (moved h g) k k s.members (λ t here. stays other t here (t.sub == h) refl)
        (held k x (sym (changed-there (λ (y : Option Subgroup). None) h k s.subgroups other) ∙ there))
  ]
    where
      stays : (k ≡ h → ⊥) → (t : Seat) → t.sub ≡ k → (b : Bool) → (t.sub == h) ≡ b → (if b then record t { sub = g } else t).sub ≡ k
      stays other t here true e = absurd (other (sym here ∙ eqb-true t.sub h e))
      stays other t here false e = here

  -- ---- slow peers

  module _ (must : is_parted s g ≡ true) where
    abbrev size : ℕ
    size = queued g s.members

    abbrev to : ℕ
    to = length s.subgroups

    abbrev moved_members : List Member
    moved_members = map (reseated (parted g size to)) s.members

    sides : (list_any (λ (m : Member). stands_first g size m.seat) s.members ≡ true) × (list_any (λ (m : Member). stands_behind g size m.seat) s.members ≡ true)
    sides = both_so (list_any (λ (m : Member). stands_first g size m.seat) s.members) (list_any (λ (m : Member). stands_behind g size m.seat) s.members) must

    sits_then : (h p : ℕ) (m : Member) (t : Seat) → slice_get s.members p ≡ Some m → m.seat ≡ Some t → (parted g size to t).sub ≡ h → Sits h moved_members
    sits_then h p m t is at there = record {
      place = p;
      member = reseated (parted g size to) m;
      seat = parted g size to t;
      is = slice_get-map (reseated (parted g size to)) s.members p ∙ ap (option_map (reseated (parted g size to))) is;
      at = ap (option_map (parted g size to)) at;
      there = there;
    }

    first_goes : Sits to moved_members
    first_goes = let found = met (λ (m : Member). stands_first g size m.seat) s.members sides.0 in by found.place found.member found.is found.member.seat refl found.passes
      where
        by : (p : ℕ) (m : Member) → slice_get s.members p ≡ Some m → (o : Option Seat) → m.seat ≡ o → stands_first g size o ≡ true → Sits to moved_members
        by p m is None at e = absurd cc
        by p m is (Some t) at e = sits_then to p m t is at (ap (λ (b : Bool). (if b then record t { sub = to } else t).sub) e)

    behind_stays : Sits g moved_members
    behind_stays = let found = met (λ (m : Member). stands_behind g size m.seat) s.members sides.1 in by found.place found.member found.is found.member.seat refl found.passes
      where
        by : (p : ℕ) (m : Member) → slice_get s.members p ≡ Some m → (o : Option Seat) → m.seat ≡ o → stands_behind g size o ≡ true → Sits g moved_members
        by p m is None at e = absurd cc
        by p m is (Some t) at e =
            let tests = both_so (t.sub == g) (not (length t.rest == size)) e in
            let here = tests.0 in
            let long = not_so (length t.rest == size) tests.1 in
            let not_first : stands_first g size (Some t) ≡ false = rw (here, long) refl in
            sits_then g p m t is at (ap (λ (b : Bool). (if b then record t { sub = to } else t).sub) not_first ∙ eqb-true t.sub g here)

    other_stays : (k : ℕ) → (k ≡ g → ⊥) → (t : Seat) → t.sub ≡ k → (parted g size to t).sub ≡ k
    other_stays k other t here = by (t.sub == g) refl
      where
        by : (b : Bool) → (t.sub == g) ≡ b → (if b && (length t.rest == size) then record t { sub = to } else t).sub ≡ k
        by true e = absurd (other (sym here ∙ eqb-true t.sub g e))
        by false e = here

    held_parted : (x : Subgroup) → AreHeld (slow_of g (Some x) s)
    held_parted x k y there = elim (new-at (change_at (option_map unstuck) g s.subgroups) (Some (unstuck x)) y k there) [
      | inl old ↦ elim (cases_eq k g) [
        | inl same ↦ subst (λ (j : ℕ). Sits j moved_members) (sym same) behind_stays
        | inr other ↦
            let found = there-changed unstuck g k s.subgroups y old in
            sits-as (parted g size to) k k s.members (λ t here. other_stays k other t here) (held k found.0 found.1)
      ]
      | inr new ↦ subst (λ (j : ℕ). Sits j moved_members) (sym (new ∙ changed-length (option_map unstuck) g s.subgroups)) first_goes
    ]

    held_slow : (o : Option Subgroup) → AreHeld (slow_of g o s)
    held_slow None = held
    held_slow (Some x) = held_parted x

  part_of : must_part s g ≡ true → is_parted s g ≡ true
  part_of must =
      let two = both_so (is_so s g (λ (x : Subgroup). is_pending x && nat_le s.world.local.slow_after x.stuck)) (is_full s g && is_parted s g) must in
      (both_so (is_full s g) (is_parted s g) two.1).1

-- ---- lanes

-- the change of a member that keeps its subgroup
sits_through : (change : Member → Member) → ((m : Member) (t : Seat) → m.seat ≡ Some t → (u : Seat) × ((change m).seat ≡ Some u) × (u.sub ≡ t.sub)) → (q g : ℕ) (members : List Member) → Sits g members
    → Sits g (change_at change q members)
sits_through change keeps q g members sat = elim (cases_eq sat.place q) [
  | inl same ↦
      let kept = keeps sat.member sat.seat sat.at in
      record {
        place = q;
        member = change sat.member;
        seat = kept.0;
        is = changed-here change q members ∙ ap (option_map change) (ap (slice_get members) (sym same) ∙ sat.is);
        at = kept.1;
        there = kept.2 ∙ sat.there;
      }
  | inr other ↦ record { place = sat.place; member = sat.member; seat = sat.seat; is = changed-there change q sat.place members other ∙ sat.is; at = sat.at; there = sat.there }
]

keeps_upshot : (u : Upshot) (m : Member) (t : Seat) → m.seat ≡ Some t → (v : Seat) × ((after_upshot u m).seat ≡ Some v) × (v.sub ≡ t.sub)
keeps_upshot (Begins n) m t at = (t, at, refl)
keeps_upshot (Hands n packet) m t at = (record t { rest = rest_behind t.rest }, ap (option_map (λ (v : Seat). record v { rest = rest_behind v.rest })) at, refl)
keeps_upshot Rests m t at = (t, at, refl)

held_next : (q : ℕ) (s : System) → AreHeld s → AreHeld (after_next q s)
held_next q s held g x there = sits_through (after_upshot (upshot q s)) (keeps_upshot (upshot q s)) q g s.members (held g x there)

held_lost : (q n : ℕ) (s : System) → AreHeld s → AreHeld (after_loss q n s)
held_lost q n s held = by (n == sessions_at q s.world)
  where
    noted : System
    noted = record s { members = change_at (with_loss n) q s.members }

    held_noted : AreHeld noted
    held_noted g x there = sits_through (with_loss n) (λ m t at. (t, at, refl)) q g s.members (held g x there)

    by : (b : Bool) → AreHeld (if b then leave q (seat_at q noted) noted else noted)
    by true = held-left q noted held_noted
    by false = held_noted

-- ---- a history

held_step : (worlds : List World) (deeds_at : ℕ → List (Deed Message)) (s : System) → IsSystem worlds deeds_at s → (step : BoardStep Job) (said : BoardSaid Said) → IsLegalStep group_rules step said s → AreHeld s → AreHeld (after_step group_rules step s)
held_step worlds deeds_at s system (DoJob (Take e)) (JobSaid said) legal held = held-event e worlds deeds_at s system held
held_step worlds deeds_at s system (DoJob (Format g)) (JobSaid said) legal held = held_formatted g s held (subgroup_at g s)
held_step worlds deeds_at s system (DoJob (Merge g h)) (JobSaid said) legal held = held_merged g s held h
held_step worlds deeds_at s system (DoJob (Slow g)) (JobSaid said) legal held = held_slow g s held (part_of g s held (both_so (must_part s g) (not s.closed) legal.0).0) (subgroup_at g s)
held_step worlds deeds_at s system (DoJob Sync) (JobSaid said) legal held = held
held_step worlds deeds_at s system (DoJob Close) (JobSaid said) legal held = held
held_step worlds deeds_at s system (LaneTakes (Next q)) (LaneGot said) legal held = held_next q s held
held_step worlds deeds_at s system (LaneTakes (Lost q n)) (LaneGot said) legal held = held_lost q n s held
held_step worlds deeds_at s system (DoJob job) (LaneGot said) legal held = absurd legal
held_step worlds deeds_at s system (LaneTakes lane) (JobSaid said) legal held = absurd legal

held_along : (h : List GroupEntry) (front : List World) (deeds_at : ℕ → List (Deed Message)) (s : System) → IsSystem (front ++ s.world ∷ []) deeds_at s → IsLegalFrom group_rules s h
    → AreFine (front ++ worlds_through s.world (events_in group_rules group_speech h)) → AreHeld s → AreHeld (replay_from group_rules s h)
held_along [] front deeds_at s system legal are_fine held = held
held_along (entry ∷ h) front deeds_at s system legal are_fine held =
    let one = step-any front deeds_at s system entry.step entry.said legal.0 (are_fine s.world (first-among s.world (events_in group_rules group_speech (entry ∷ h)) front)) in
    held_along h one.front_then (deeds_then deeds_at entry.step entry.said s) (after_step group_rules entry.step s) one.system legal.1
    (subst (λ (ws : List World). AreFine ws) (one.worlds (events_in group_rules group_speech h)) are_fine) (held_step (front ++ s.world ∷ []) deeds_at s system entry.step entry.said legal.0 held)

pub are-held : (opening : World) (h : List GroupEntry) → IsCourse group_rules group_speech opening h → AreHeld (replay group_rules opening h)
are-held opening h course = held_along h [] (λ p. []) (start opening) (system-first opening (are-down opening course.opens)) course.legal (fine opening h course) (λ g x there. absurd cc)
