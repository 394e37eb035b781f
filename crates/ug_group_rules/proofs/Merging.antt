-- Merges keep what is so of the system.
use Rattle.std.proofs.Common.{◌≡◌, ℕ, zero, suc, Bool, true, false, List, [], ◌∷◌, ◌++◌, slice_get, Option, Some, None, refl, sym, ◌∙◌, ap, subst}
use Rattle.std.specs.Prelude.{◌==◌, ◌&&◌, ◌||◌, not, if◌then◌else◌}
use Rattle.std.specs.Option.{option_map}
use Rattle.std.proofs.lemmas.Bool.{eqb-true, eq-eqb}
use Rattle.std.proofs.lemmas.Option.{slice_get-map}
use Rattle.ug_types.specs.declared.key.Key.{Key}
use Rattle.ug_types.specs.Bytes.{is_empty}
use Rattle.ug_types.specs.Messages.{Message}
use Rattle.ug_board.specs.Deeds.{Deed}
use Rattle.ug_outbound.specs.declared.key.GroupKey.{GroupKey}
use Rattle.ug_outbound.specs.Keys.{ends_of}
use Rattle.ug_message.specs.NextHops.{told_to}
use Rattle.ug_world.specs.declared.peer_state.PeerState.{PeerState}
use Rattle.ug_world.specs.World.{World, key_in}
use Rattle.ug_pack.specs.Ready.{key_order}
use Rattle.ug_adjout.specs.Tables.{has}
use Rattle.ug_speaker.specs.Places.{change_at}
use Rattle.ug_speaker.specs.Counts.{is_lost_at}
use Rattle.ug_speaker.proofs.Bools.{both_so, not_so}
use Rattle.ug_speaker.proofs.Places.{changed-there}
use Rattle.ug_group_rules.specs.declared.phase.Phase.{Phase}
use Rattle.ug_group_rules.specs.declared.phase.Phase.TheVariants.{Quiet, Owed, Open}
use Rattle.ug_group_rules.specs.Packets.{Rows, same_group, wanted_rows}
use Rattle.ug_group_rules.specs.Machine.{Subgroup, Seat, Member, System, is_quiet, owes, is_level, is_so, queued, may_merge, reseated, moved, merge}
use Rattle.ug_group_rules.proofs.Found.{IsFound, found-so}
use Rattle.ug_group_rules.proofs.Streams.{IsStream}
use Rattle.ug_group_rules.proofs.StreamsInWorlds.{IsAs, stream-as}
use Rattle.ug_group_rules.proofs.Tables.{row_at, is_forced}
use Rattle.ug_group_rules.proofs.WantedTables.{table_in}
use Rattle.ug_group_rules.proofs.MemberStreams.{level-rows}
use Rattle.ug_group_rules.proofs.Groups.{group-same}
use Rattle.ug_group_rules.proofs.Seated.{counts_of, stream_of, IsSat, IsPlacedAt, IsSystem}
use Rattle.ug_group_rules.proofs.Formatting.{up-of, session-of}

-- what a level subgroup is
pub record IsLevelled (x : Subgroup) : Type 0 where
  pub pending : x.out.pending ≡ []
  pub forced : x.out.forced ≡ []
  pub ending : x.ending ≡ false
  pub phase : x.phase ≡ Quiet

pub empty-is : {T : Type 0} (xs : List T) → is_empty xs ≡ true → xs ≡ []
empty-is [] e = refl
empty-is (x ∷ xs) e = absurd cc

quiet_is : (phase : Phase) → is_quiet phase ≡ true → phase ≡ Quiet
quiet_is Quiet e = refl
quiet_is Owed e = absurd cc
quiet_is Open e = absurd cc

none_owed : (a b c : Bool) → not (not a || (b || not c)) ≡ true → (a ≡ true) × (b ≡ false) × (c ≡ true)
none_owed true false true e = (refl, refl, refl)
none_owed true false false e = absurd cc
none_owed true true c e = absurd cc
none_owed false b c e = absurd cc

pub levelled : (x : Subgroup) → is_level x ≡ true → IsLevelled x
levelled x e =
    let parts = both_so (not (owes x)) (is_empty x.out.forced) e in
    let owed = none_owed (is_empty x.out.pending) x.ending (is_quiet x.phase) parts.0 in
    record { pending = empty-is x.out.pending owed.0; forced = empty-is x.out.forced parts.1; ending = owed.1; phase = quiet_is x.phase owed.2 }

-- a subgroup that owes nothing
pub record IsRestedAt (x : Subgroup) : Type 0 where
  pub pending : x.out.pending ≡ []
  pub ending : x.ending ≡ false
  pub phase : x.phase ≡ Quiet

pub rested-at : (x : Subgroup) → owes x ≡ false → IsRestedAt x
rested-at x e =
    let owed = none_owed (is_empty x.out.pending) x.ending (is_quiet x.phase) (ap not e) in
    record { pending = empty-is x.out.pending owed.0; ending = owed.1; phase = quiet_is x.phase owed.2 }

module _ (front : List World) (state : System) (deeds_at : ℕ → List (Deed Message)) (system : IsSystem (front ++ state.world ∷ []) deeds_at state) (g h : ℕ) (may : may_merge state g h ≡ true) where
  abbrev worlds : List World
  worlds = front ++ state.world ∷ []

  abbrev next : System
  next = merge g h state

  parts : (not (g == h) ≡ true) × ((is_so state g (λ x. is_level x && is_so state h (λ y. is_level y && same_group x.key y.key)) && (queued h state.members == 0)) ≡ true)
  parts = both_so (not (g == h)) (is_so state g (λ x. is_level x && is_so state h (λ y. is_level y && same_group x.key y.key)) && (queued h state.members == 0)) may

  apart : (g == h) ≡ false
  apart = not_so (g == h) parts.0

  pub one : IsFound state g (λ x. is_level x && is_so state h (λ y. is_level y && same_group x.key y.key))
  one = found-so state g (λ x. is_level x && is_so state h (λ y. is_level y && same_group x.key y.key)) (both_so (is_so state g (λ x. is_level x && is_so state h (λ y. is_level y && same_group x.key y.key))) (queued h state.members == 0) parts.1).0

  one_tests : (is_level one.subgroup ≡ true) × (is_so state h (λ y. is_level y && same_group one.subgroup.key y.key) ≡ true)
  one_tests = both_so (is_level one.subgroup) (is_so state h (λ y. is_level y && same_group one.subgroup.key y.key)) one.passes

  pub other : IsFound state h (λ y. is_level y && same_group one.subgroup.key y.key)
  other = found-so state h (λ y. is_level y && same_group one.subgroup.key y.key) one_tests.1

  other_tests : (is_level other.subgroup ≡ true) × (same_group one.subgroup.key other.subgroup.key ≡ true)
  other_tests = both_so (is_level other.subgroup) (same_group one.subgroup.key other.subgroup.key) other.passes

  same_key : one.subgroup.key ≡ other.subgroup.key
  same_key = group-same one.subgroup.key other.subgroup.key other_tests.1

  level_one : IsLevelled one.subgroup
  level_one = levelled one.subgroup one_tests.0

  level_other : IsLevelled other.subgroup
  level_other = levelled other.subgroup other_tests.0

  pub there-next : (k : ℕ) → (k == h) ≡ false → slice_get next.subgroups k ≡ slice_get state.subgroups k
  there-next k e = changed-there (λ (o : Option Subgroup). None) h k state.subgroups (λ same. let so = eq-eqb k h same in absurd cc)

  pub one-there : slice_get next.subgroups g ≡ Some (Some one.subgroup)
  one-there = there-next g apart ∙ one.is

  gone-there : (k l : ℕ) (xs : List (Option Subgroup)) (x : Subgroup) → slice_get (change_at (λ (o : Option Subgroup). None) k xs) l ≡ Some (Some x) → slice_get xs l ≡ Some (Some x)
  gone-there k l [] x e = e
  gone-there zero zero (y ∷ xs) x e = absurd cc
  gone-there zero (suc l) (y ∷ xs) x e = e
  gone-there (suc k) zero (y ∷ xs) x e = e
  gone-there (suc k) (suc l) (y ∷ xs) x e = gone-there k l xs x e

  module _ (p : ℕ) (s : PeerState) (m : Member) (t : Seat) (is : slice_get state.world.peers p ≡ Some s) (sat : IsSat p worlds (deeds_at p) s m state.subgroups (key_in state.world s) t) where
    up : s.up ≡ true
    up = up-of s (not (is_lost_at (counts_of m) s.sessions)) sat.live

    stays : (t.sub == h) ≡ false → IsSat p worlds (deeds_at p) s (reseated (moved h g) m) next.subgroups (key_in state.world s) t
    stays e = record { live = sat.live; subgroup = sat.subgroup; there = there-next t.sub e ∙ sat.there; key_is = sat.key_is; stream = sat.stream; tellable = sat.tellable; fitting = sat.fitting; untold = sat.untold }

    module _ (here : (t.sub == h) ≡ true) where
      same_sub : sat.subgroup ≡ other.subgroup
      same_sub = let at : t.sub ≡ h = eqb-true t.sub h here in let both_are : Some (Some sat.subgroup) ≡ Some (Some other.subgroup) = sym sat.there ∙ ap (slice_get state.subgroups) at ∙ other.is in cc

      key_other : other.subgroup.key ≡ key_in state.world s
      key_other = ap (λ (y : Subgroup). y.key) (sym same_sub) ∙ sat.key_is

      rows_other : (q : Key) → row_at other.subgroup.out.formatted q ≡ row_at other.subgroup.out.desired q
      rows_other q = level-rows p front state.world s is up (session-of p state.world s is up) other.subgroup (system.kept h other.subgroup other.is) key_other level_other.pending q

      rows_one : (q : Key) → row_at one.subgroup.out.formatted q ≡ row_at one.subgroup.out.desired q
      rows_one q = level-rows p front state.world s is up (session-of p state.world s is up) one.subgroup (system.kept g one.subgroup one.is) (same_key ∙ key_other) level_one.pending q

      same_desired : other.subgroup.out.desired ≡ one.subgroup.out.desired
      same_desired = (system.kept h other.subgroup other.is).desired ∙ ap (λ (k : GroupKey). wanted_rows k state.world) (sym same_key) ∙ sym (system.kept g one.subgroup one.is).desired

      same_tables : (q : Key) → table_in (ends_of s.peer) other.subgroup.out.formatted q ≡ table_in (ends_of s.peer) one.subgroup.out.formatted q
      same_tables q = ap (option_map (told_to (ends_of s.peer))) (rows_other q ∙ ap (λ (rows : Rows). row_at rows q) same_desired ∙ sym (rows_one q))

      pub merged-as : IsAs (table_in (ends_of s.peer) other.subgroup.out.formatted) (table_in (ends_of s.peer) one.subgroup.out.formatted) (is_forced other.subgroup.out) (is_forced one.subgroup.out) other.subgroup.phase one.subgroup.phase
      merged-as = record {
        same = same_tables;
        forces = λ q forced there. let none : is_forced other.subgroup.out q ≡ false = ap (λ (keys : List Key). has key_order keys q) level_other.forced in absurd cc;
        rests = λ e. level_other.phase;
        begun = λ e. let phase = level_one.phase in let opened : Quiet ≡ Open = sym phase ∙ e in absurd cc;
      }

      stream_other : IsStream p s.sessions s.peer worlds (table_in (ends_of s.peer) other.subgroup.out.formatted) (is_forced other.subgroup.out) other.subgroup.ending other.subgroup.phase (stream_of s (deeds_at p) t.rest)
      stream_other = subst (λ (y : Subgroup). IsStream p s.sessions s.peer worlds (table_in (ends_of s.peer) y.out.formatted) (is_forced y.out) y.ending y.phase (stream_of s (deeds_at p) t.rest)) same_sub sat.stream

      stream_one : IsStream p s.sessions s.peer worlds (table_in (ends_of s.peer) one.subgroup.out.formatted) (is_forced one.subgroup.out) one.subgroup.ending one.subgroup.phase (stream_of s (deeds_at p) t.rest)
      stream_one =
          stream-as p s.sessions s.peer worlds (table_in (ends_of s.peer) other.subgroup.out.formatted) (table_in (ends_of s.peer) one.subgroup.out.formatted) (is_forced other.subgroup.out) (is_forced one.subgroup.out) one.subgroup.ending
          other.subgroup.phase one.subgroup.phase (stream_of s (deeds_at p) t.rest) merged-as
          (subst (λ (b : Bool). IsStream p s.sessions s.peer worlds (table_in (ends_of s.peer) other.subgroup.out.formatted) (is_forced other.subgroup.out) b other.subgroup.phase (stream_of s (deeds_at p) t.rest)) (level_other.ending ∙ sym level_one.ending) stream_other)

      moves : IsSat p worlds (deeds_at p) s (reseated (moved h g) m) next.subgroups (key_in state.world s) (record t { sub = g })
      moves = record {
        live = sat.live;
        subgroup = one.subgroup;
        there = one-there;
        key_is = same_key ∙ key_other;
        stream = stream_one;
        tellable = λ q a e. sat.tellable q a (ap (λ (y : Subgroup). table_in (ends_of s.peer) y.out.formatted q) same_sub ∙ same_tables q ∙ e);
        fitting = sat.fitting;
        untold = λ e. let due = (system.kept g one.subgroup one.is).due e in let none = level_one.ending in absurd cc;
      }

    sat_next : (u : Seat) → moved h g t ≡ u → IsSat p worlds (deeds_at p) s (reseated (moved h g) m) next.subgroups (key_in state.world s) u
    sat_next u is' = subst (λ (v : Seat). IsSat p worlds (deeds_at p) s (reseated (moved h g) m) next.subgroups (key_in state.world s) v) is' (by (t.sub == h) refl)
      where
        by : (b : Bool) → (t.sub == h) ≡ b → IsSat p worlds (deeds_at p) s (reseated (moved h g) m) next.subgroups (key_in state.world s) (if b then record t { sub = g } else t)
        by true e = moves e
        by false e = stays e

  placed_by : (p : ℕ) (o : Option PeerState) (u : Option Member) → slice_get state.world.peers p ≡ o → IsPlacedAt p worlds (deeds_at p) state.world state.subgroups o u
      → IsPlacedAt p worlds (deeds_at p) state.world next.subgroups o (option_map (reseated (moved h g)) u)
  placed_by p None None is placed = tt
  placed_by p (Some s) None is placed = absurd placed
  placed_by p None (Some m) is placed = absurd placed
  placed_by p (Some s) (Some m) is placed = record {
    counted = placed.counted;
    told = placed.told;
    sat = λ u at. sat_of m.seat refl u at;
    empty = λ none. placed.empty (empty_of m.seat none);
  }
    where
      empty_of : (o : Option Seat) → option_map (moved h g) o ≡ None → o ≡ None
      empty_of None e = refl
      empty_of (Some t) e = absurd cc

      sat_of : (o : Option Seat) → m.seat ≡ o → (u : Seat) → option_map (moved h g) o ≡ Some u → IsSat p worlds (deeds_at p) s (reseated (moved h g) m) next.subgroups (key_in state.world s) u
      sat_of None at u e = absurd cc
      sat_of (Some t) at u e = let same : moved h g t ≡ u = cc in sat_next p s m t is (placed.sat t at) u same

  pub system-merged : IsSystem worlds deeds_at next
  system-merged = record {
    kept = λ k x is. system.kept k x (gone-there h k state.subgroups x is);
    placed = λ p.
        subst (λ (u : Option Member). IsPlacedAt p worlds (deeds_at p) state.world next.subgroups (slice_get state.world.peers p) u) (sym (slice_get-map (reseated (moved h g)) state.members p))
        (placed_by p (slice_get state.world.peers p) (slice_get state.members p) refl (system.placed p));
  }
