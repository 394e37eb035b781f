-- The turn of each peer in an event.
use Rattle.std.proofs.Common.{◌≡◌, ℕ, ◌+◌, inl, inr, suc, Bool, true, false, List, [], ◌∷◌, length, slice_get, Option, Some, None, refl, sym, ◌∙◌, ap, subst, arith}
use Rattle.std.specs.Prelude.{◌&&◌, if◌then◌else◌}
use Rattle.std.specs.Option.{option_map}
use Rattle.std.proofs.lemmas.Bool.{cases_eq}
use Rattle.ug_types.specs.Messages.{Message}
use Rattle.ug_board.specs.Deeds.{Deed}
use Rattle.ug_outbound.specs.declared.key.GroupKey.{GroupKey}
use Rattle.ug_outbound.specs.Keys.{ends_of}
use Rattle.ug_world.specs.declared.peer_state.PeerState.{PeerState}
use Rattle.ug_world.specs.World.{World}
use Rattle.ug_speaker.specs.Places.{change_at}
use Rattle.ug_speaker.proofs.Bools.{both_so}
use Rattle.ug_speaker.proofs.Places.{changed-here, changed-there}
use Rattle.ug_speaker.proofs.Peers.{IsNextOf}
use Rattle.ug_group_rules.specs.Packets.{same_group, wanted_rows}
use Rattle.ug_group_rules.specs.Machine.{Subgroup, Seat, Member, System, seat_of, seat_at, with_seat, seated, with_new, leave, join, first_joinable, is_joinable, at_end, fresh_subgroup, apart, rekey, rekeyed, ask, asked}
use Rattle.ug_group_rules.proofs.Tables.{fresh-exact, wanted-sorted}
use Rattle.ug_group_rules.proofs.Groups.{group-same}
use Rattle.ug_group_rules.proofs.MemberStreams.{IsKept}
use Rattle.ug_group_rules.proofs.Seated.{is_live, IsSat, IsPlaced}
use Rattle.ug_group_rules.proofs.Others.{leave-world, leave-members, leave-there, leave-kept, leave-here}
use Rattle.ug_group_rules.proofs.Parting.{get-front, get-end, get-new}
use Rattle.ug_group_rules.proofs.Company.{IsApart}
use Rattle.ug_group_rules.proofs.SetApart.{set-apart}
use Rattle.ug_group_rules.proofs.OwnSubgroups.{IsOwn, own-apart, own-changed}
use Rattle.ug_group_rules.proofs.OwnSubgroupsTurned.{IsGood, good-then, good-itself, good-rekeyed, good-asked, key-asked}
use Rattle.ug_group_rules.proofs.Again.{IsCovered, covered-asked}
use Rattle.ug_group_rules.proofs.PeerTurns.{IsTurned, IsCarried, placed-nowhere, placed-starts, placed-stays, sat_old}

-- ---- a subgroup that a session may join

found_first : (key : GroupKey) (g k : ℕ) (xs : List (Option Subgroup)) → first_joinable key g xs ≡ Some k → (j : ℕ) × (x : Subgroup) × (k ≡ g + j) × (slice_get xs j ≡ Some (Some x)) × (is_joinable key x ≡ true)
found_first key g k [] e = absurd cc
found_first key g k (None ∷ xs) e = let rest = found_first key (g + 1) k xs e in let number = rest.2 in (suc rest.0, rest.1, omega arith, rest.3, rest.4)
found_first key g k (Some x ∷ xs) e = by (is_joinable key x) refl e (λ rest. found_first key (g + 1) k xs rest)
  where
    by : (b : Bool) → is_joinable key x ≡ b → (if b then Some g else first_joinable key (g + 1) xs) ≡ Some k
        → (first_joinable key (g + 1) xs ≡ Some k → (j : ℕ) × (y : Subgroup) × (k ≡ g + 1 + j) × (slice_get xs j ≡ Some (Some y)) × (is_joinable key y ≡ true))
        → (j : ℕ) × (y : Subgroup) × (k ≡ g + j) × (slice_get (Some x ∷ xs) j ≡ Some (Some y)) × (is_joinable key y ≡ true)
    by true joins e rest = let same : g ≡ k = cc in (0, x, omega arith, refl, joins)
    by false joins e rest = let more = rest e in let number = more.2 in (suc more.0, more.1, omega arith, more.3, more.4)

pub kept-fresh : (key : GroupKey) (w : World) → IsKept w (fresh_subgroup key w)
kept-fresh key w = record { exact = fresh-exact (wanted_rows key w) (wanted-sorted key w); desired = refl; nothing = λ e. refl; closed = λ e o. absurd cc; due = λ e. refl; marked = inl refl }

-- ---- one turn

-- the peer has had its turn
pub record IsDone (asks : Bool) (q : ℕ) (worlds : List World) (deeds : List (Deed Message)) (s s' : PeerState) (m : Member) (key : GroupKey) (old new : System) : Type 0 where
  pub turned : IsTurned old.world q old new
  pub member : Member
  pub is : slice_get new.members q ≡ Some member
  pub placed : IsPlaced q worlds deeds s' member new.subgroups key
  pub carried : s'.sessions ≡ s.sessions → (u : Seat) → member.seat ≡ Some u → IsCarried asks (ends_of s.peer) old new m u

module _ (q : ℕ) (worlds : List World) (deeds : List (Deed Message)) (s s' : PeerState) (m : Member) (old_key key : GroupKey) (state : System) (placed : IsPlaced q worlds deeds s m state.subgroups old_key)
    (is : slice_get state.members q ≡ Some m) (kept : (g : ℕ) (x : Subgroup) → slice_get state.subgroups g ≡ Some (Some x) → IsKept state.world x) (next : IsNextOf s s') (ends : ends_of s'.peer ≡ ends_of s.peer) where
  abbrev Done : Bool → System → Type 0
  Done asks new = IsDone asks q worlds deeds s s' m key state new

  seat_is : seat_at q state ≡ m.seat
  seat_is = ap seat_of is

  -- ---- it leaves

  abbrev gone : System
  gone = leave q (seat_at q state) state

  gone_member : slice_get gone.members q ≡ Some (with_seat None m)
  gone_member = leave-here q (seat_at q state) state m is (sym seat_is)

  pub done-leaves : (asks : Bool) → is_live s' m ≡ false → Done asks gone
  done-leaves asks dead = record {
    turned = record {
      world = leave-world q (seat_at q state) state;
      members = λ p apart. leave-members q p apart (seat_at q state) state;
      others = λ p n u z apart member sits there. leave-there q p apart state n member (seat_at q state) u sits ∙ there;
      kept = λ k z there. kept k z (leave-kept q (seat_at q state) state k z there);
    };
    member = with_seat None m;
    is = gone_member;
    placed = placed-nowhere q worlds deeds s s' m state.subgroups old_key placed next ends dead gone.subgroups key;
    carried = λ same u at. absurd cc;
  }

  -- ---- it starts a session

  module _ (asks : Bool) (up : s'.up ≡ true) (more : s'.sessions ≡ s.sessions + 1) where
    another : s'.sessions ≡ s.sessions → ⊥
    another same = absurd (omega (arith, more, same))

    seated_member : (g : ℕ) → slice_get (change_at (with_seat (at_end g)) q gone.members) q ≡ Some (with_seat (at_end g) m)
    seated_member g = changed-here (with_seat (at_end g)) q gone.members ∙ ap (option_map (with_seat (at_end g))) gone_member

    joins_members : (g p : ℕ) → (p ≡ q → ⊥) → slice_get (change_at (with_seat (at_end g)) q gone.members) p ≡ slice_get state.members p
    joins_members g p apart = changed-there (with_seat (at_end g)) q p gone.members apart ∙ leave-members q p apart (seat_at q state) state

    joins_found : (g : ℕ) → first_joinable key 0 gone.subgroups ≡ Some g → Done asks (seated q (at_end g) gone)
    joins_found g e =
        let found = found_first key 0 g gone.subgroups e in
        let number = found.2 in
        let at : g ≡ found.0 = omega arith in
        let there : slice_get gone.subgroups g ≡ Some (Some found.1) = ap (slice_get gone.subgroups) at ∙ found.3 in
        let tests = both_so (same_group found.1.key key) (found.1.fresh && found.1.ending) found.4 in
        let flags = both_so found.1.fresh found.1.ending tests.1 in
        record {
          turned = record {
            world = leave-world q (seat_at q state) state;
            members = λ p apart. joins_members g p apart;
            others = λ p n u z apart member sits there. leave-there q p apart state n member (seat_at q state) u sits ∙ there;
            kept = λ k z there. kept k z (leave-kept q (seat_at q state) state k z there);
          };
          member = with_seat (at_end g) m;
          is = seated_member g;
          placed =
              placed-starts q worlds deeds s s' m state.subgroups old_key placed next ends up more gone.subgroups key g found.1 there (group-same found.1.key key tests.0)
              (state.world, kept g found.1 (leave-kept q (seat_at q state) state g found.1 there)) flags.0 flags.1;
          carried = λ same u at. absurd (another same);
        }

    abbrev added : System
    added = with_new (Some (fresh_subgroup key gone.world)) (seated q (at_end (length gone.subgroups)) gone)

    joins_new : Done asks added
    joins_new = record {
      turned = record {
        world = leave-world q (seat_at q state) state;
        members = λ p apart. joins_members (length gone.subgroups) p apart;
        others = λ p n u z apart member sits there. get-front gone.subgroups (Some (fresh_subgroup key gone.world) ∷ []) u.sub (Some z) (leave-there q p apart state n member (seat_at q state) u sits ∙ there);
        kept = λ k z there. elim (get-new gone.subgroups (Some (fresh_subgroup key gone.world)) (Some z) k there) [
          | inl old ↦ kept k z (leave-kept q (seat_at q state) state k z old)
          | inr new ↦ let same : fresh_subgroup key gone.world ≡ z = cc in
              subst (λ (y : Subgroup). IsKept state.world y) same (subst (λ (w : World). IsKept w (fresh_subgroup key gone.world)) (leave-world q (seat_at q state) state) (kept-fresh key gone.world))
        ];
      };
      member = with_seat (at_end (length gone.subgroups)) m;
      is = seated_member (length gone.subgroups);
      placed =
          placed-starts q worlds deeds s s' m state.subgroups old_key placed next ends up more added.subgroups key (length gone.subgroups) (fresh_subgroup key gone.world) (get-end gone.subgroups (Some (fresh_subgroup key gone.world))) refl
          (gone.world, kept-fresh key gone.world) refl refl;
      carried = λ same u at. absurd (another same);
    }

    pub done-starts : Done asks (join q key (first_joinable key 0 gone.subgroups) gone)
    done-starts = by (first_joinable key 0 gone.subgroups) refl
      where
        by : (o : Option ℕ) → first_joinable key 0 gone.subgroups ≡ o → Done asks (join q key o gone)
        by (Some g) e = joins_found g e
        by None e = joins_new

  -- ---- it stays in its session

  module _ (up : s'.up ≡ s.up) (stays : s'.sessions ≡ s.sessions) (t : Seat) (at : m.seat ≡ Some t) (marked : key.enhanced_refresh ≡ old_key.enhanced_refresh) where
    abbrev sat : IsSat q worlds deeds s m state.subgroups old_key t
    sat = sat_old q worlds deeds s s' m state.subgroups old_key placed next ends up stays t at

    abbrev x : Subgroup
    x = sat.subgroup

    kept_x : IsKept state.world x
    kept_x = kept t.sub x sat.there

    -- with the same key and no request nothing changes
    pub done-stays : old_key ≡ key → Done false state
    done-stays same = record {
      turned = record { world = refl; members = λ p apart. refl; others = λ p n u z apart member sits there. there; kept = kept };
      member = with_seat (Some t) m;
      is = is ∙ ap (λ (o : Option Seat). Some (record m { seat = o })) at;
      placed =
          placed-stays q worlds deeds s s' m state.subgroups old_key placed next ends up stays t at state.world (record x { stuck = x.stuck }) (good-itself (ends_of s.peer) state.world x x.stuck kept_x) state.subgroups key
          (sat.key_is ∙ same) t refl sat.there;
      carried = λ stayed u sits. record {
        seat = u;
        sits = at ∙ sits;
        rest = refl;
        before = x;
        after = record x { stuck = x.stuck };
        was = there_at u sits;
        is = there_at u sits;
        good = good-itself (ends_of s.peer) state.world x x.stuck kept_x;
        covered = λ asks. absurd cc;
      };
    }
      where
        there_at : (u : Seat) → Some t ≡ Some u → slice_get state.subgroups u.sub ≡ Some (Some x)
        there_at u sits = let same : t ≡ u = cc in subst (λ (v : Seat). slice_get state.subgroups v.sub ≡ Some (Some x)) same sat.there

    set : IsApart q state (apart q state) t x m
    set = set-apart q state m t x is at sat.there

    abbrev one : Subgroup
    one = record x { stuck = set.count }

    own_one : IsOwn state.world q state (apart q state) t.rest one m
    own_one = own-apart state.world q state (apart q state) t x m kept set

    abbrev two : Subgroup
    two = rekeyed key (apart q state).world one

    own_two : IsOwn state.world q state (rekey q key (apart q state)) t.rest two m
    own_two = own-changed state.world q state (apart q state) t.rest one m own_one (rekeyed key (apart q state).world)

    good_one : IsGood (ends_of s.peer) state.world x one
    good_one = good-itself (ends_of s.peer) state.world x set.count kept_x

    good_two : IsGood (ends_of s.peer) (apart q state).world x two
    good_two = good-then (ends_of s.peer) state.world (apart q state).world x one two good_one (good-rekeyed (ends_of s.peer) state.world (apart q state).world key one (marked ∙ ap (λ (k : GroupKey). k.enhanced_refresh) (sym sat.key_is)) good_one.kept)

    good_now : (y : Subgroup) → IsGood (ends_of s.peer) (apart q state).world x y → IsGood (ends_of s.peer) state.world x y
    good_now y good = record { kept = subst (λ (w : World). IsKept w y) set.world good.kept; change = good.change; ending = good.ending; fresh = good.fresh }

    -- who has its own subgroup is done, where that is as good as the old one
    done_own : (asks : Bool) (new : System) (y : Subgroup) → IsOwn state.world q state new t.rest y m → IsGood (ends_of s.peer) state.world x y → y.key ≡ key → (asks ≡ true → IsCovered y) → Done asks new
    done_own asks new y own good same covered = record {
      turned = record {
        world = own.world;
        members = own.members;
        others = λ p n u z apart member sits there. (own.others p n u z apart member sits there).0;
        kept = λ k z there. elim (cases_eq k own.seat.sub) [
          | inl here ↦
              let both_are : Some (Some y) ≡ Some (Some z) = sym own.there ∙ ap (slice_get new.subgroups) (sym here) ∙ there in
              let same : y ≡ z = cc in subst (λ (v : Subgroup). IsKept state.world v) same good.kept
          | inr other ↦ own.kept k z there other
        ];
      };
      member = with_seat (Some own.seat) m;
      is = own.member;
      placed = placed-stays q worlds deeds s s' m state.subgroups old_key placed next ends up stays t at state.world y good new.subgroups key same own.seat own.rest_is own.there;
      carried = λ stayed u sits. let here : own.seat ≡ u = cc in
          subst (λ (v : Seat). IsCarried asks (ends_of s.peer) state new m v) here (record { seat = t; sits = at; rest = own.rest_is; before = x; after = y; was = sat.there; is = own.there; good = good; covered = covered });
    }

    pub done-rekeys : Done false (rekey q key (apart q state))
    done-rekeys = done_own false (rekey q key (apart q state)) two own_two (good_now two good_two) refl (λ asks. absurd cc)

    pub done-asks : (asks : Bool) → Done asks (ask q (rekey q key (apart q state)))
    done-asks asks =
        done_own asks (ask q (rekey q key (apart q state))) (asked two) (own-changed state.world q state (rekey q key (apart q state)) t.rest two m own_two asked)
        (good_now (asked two) (good-then (ends_of s.peer) (apart q state).world (apart q state).world x two (asked two) good_two (good-asked (ends_of s.peer) (apart q state).world two good_two.kept))) (key-asked two) (λ so. covered-asked two)
