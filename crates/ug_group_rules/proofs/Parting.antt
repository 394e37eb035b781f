-- Slow peers that are moved keep what is so of the system; and what a further subgroup is.
use Rattle.std.proofs.Common.{◌≡◌, ℕ, zero, suc, ◌⊎◌, inl, inr, Bool, true, false, List, [], ◌∷◌, ◌++◌, length, slice_get, Option, Some, None, refl, sym, ◌∙◌, ap, subst}
use Rattle.std.specs.Prelude.{◌==◌, ◌&&◌, if◌then◌else◌}
use Rattle.std.specs.Option.{option_map}
use Rattle.std.proofs.lemmas.Bool.{eqb-true}
use Rattle.std.proofs.lemmas.Option.{slice_get-map}
use Rattle.ug_types.specs.Messages.{Message}
use Rattle.ug_board.specs.Deeds.{Deed}
use Rattle.ug_outbound.specs.Keys.{ends_of}
use Rattle.ug_world.specs.declared.peer_state.PeerState.{PeerState}
use Rattle.ug_world.specs.World.{World, key_in}
use Rattle.ug_speaker.specs.Places.{change_at}
use Rattle.ug_group_rules.specs.Packets.{Packet}
use Rattle.ug_group_rules.specs.Machine.{Subgroup, Seat, Member, System, queued, reseated, parted, unstuck, slow_of}
use Rattle.ug_group_rules.proofs.Streams.{IsStream}
use Rattle.ug_group_rules.proofs.Tables.{is_forced}
use Rattle.ug_group_rules.proofs.WantedTables.{table_in}
use Rattle.ug_group_rules.proofs.MemberStreams.{IsKept}
use Rattle.ug_group_rules.proofs.Seated.{stream_of, AreFitting, IsSat, IsPlacedAt, IsSystem, at-same}

-- ---- lists with something more at the end

pub get-front : {T : Type 0} (xs ys : List T) (k : ℕ) (z : T) → slice_get xs k ≡ Some z → slice_get (xs ++ ys) k ≡ Some z
get-front [] ys k z e = absurd cc
get-front (x ∷ xs) ys zero z e = e
get-front (x ∷ xs) ys (suc k) z e = get-front xs ys k z e

pub get-end : {T : Type 0} (xs : List T) (y : T) → slice_get (xs ++ y ∷ []) (length xs) ≡ Some y
get-end [] y = refl
get-end (x ∷ xs) y = get-end xs y

pub get-new : {T : Type 0} (xs : List T) (y z : T) (k : ℕ) → slice_get (xs ++ y ∷ []) k ≡ Some z → (slice_get xs k ≡ Some z) ⊎ (y ≡ z)
get-new [] y z zero e = inr cc
get-new [] y z (suc k) e = absurd cc
get-new (x ∷ xs) y z zero e = inl e
get-new (x ∷ xs) y z (suc k) e = get-new xs y z k e

pub changed-length : {T : Type 0} (change : T → T) (k : ℕ) (xs : List T) → length (change_at change k xs) ≡ length xs
changed-length change k [] = refl
changed-length change zero (x ∷ xs) = refl
changed-length change (suc k) (x ∷ xs) = ap suc (changed-length change k xs)

-- a subgroup keeps what is so of it where its count alone changes
pub kept-count : (w : World) (x : Subgroup) (n : ℕ) → IsKept w x → IsKept w (record x { stuck = n })
kept-count w x n kept = record { exact = kept.exact; desired = kept.desired; nothing = kept.nothing; closed = kept.closed; due = kept.due; marked = kept.marked }

module _ (worlds : List World) (state : System) (deeds_at : ℕ → List (Deed Message)) (system : IsSystem worlds deeds_at state) (g : ℕ) (x : Subgroup) (there : slice_get state.subgroups g ≡ Some (Some x)) where
  abbrev next : System
  next = slow_of g (Some x) state

  abbrev size : ℕ
  size = queued g state.members

  abbrev to : ℕ
  to = length state.subgroups

  abbrev olds : List (Option Subgroup)
  olds = change_at (option_map unstuck) g state.subgroups

  pub old-at : (k : ℕ) (b : Bool) → (k == g) ≡ b → slice_get olds k ≡ (if b then Some (Some (unstuck x)) else slice_get state.subgroups k)
  old-at k b e = at-same (option_map unstuck) g k state.subgroups (Some x) there b e

  old_kept : (k : ℕ) (y : Subgroup) → slice_get olds k ≡ Some (Some y) → IsKept state.world y
  old_kept k y is = by (k == g) refl
    where
      by : (b : Bool) → (k == g) ≡ b → IsKept state.world y
      by true e =
          let both_are : Some (Some (unstuck x)) ≡ Some (Some y) = sym (old-at k true e) ∙ is in
          let same : unstuck x ≡ y = cc in subst (λ (z : Subgroup). IsKept state.world z) same (kept-count state.world x 0 (system.kept g x there))
      by false e = system.kept k y (sym (old-at k false e) ∙ is)

  next_kept : (k : ℕ) (y : Subgroup) → slice_get next.subgroups k ≡ Some (Some y) → IsKept state.world y
  next_kept k y is =
      elim (get-new olds (Some (unstuck x)) (Some y) k is) [
        | inl old ↦ old_kept k y old
        | inr new ↦ let same : unstuck x ≡ y = cc in subst (λ (z : Subgroup). IsKept state.world z) same (kept-count state.world x 0 (system.kept g x there))
      ]

  pub new-there : slice_get next.subgroups to ≡ Some (Some (unstuck x))
  new-there = subst (λ (k : ℕ). slice_get next.subgroups k ≡ Some (Some (unstuck x))) (changed-length (option_map unstuck) g state.subgroups) (get-end olds (Some (unstuck x)))

  module _ (p : ℕ) (s : PeerState) (m : Member) (t : Seat) (sat : IsSat p worlds (deeds_at p) s m state.subgroups (key_in state.world s) t) where
    abbrev Then : Seat → Type 0
    Then u = IsSat p worlds (deeds_at p) s (reseated (parted g size to) m) next.subgroups (key_in state.world s) u

    -- with the same subgroup but for its count
    same_as : (u : Seat) (y : Subgroup) → u.rest ≡ t.rest → slice_get next.subgroups u.sub ≡ Some (Some (unstuck y)) → sat.subgroup ≡ y → Then u
    same_as u y rest is same =
        let sat' : IsSat p worlds (deeds_at p) s m state.subgroups (key_in state.world s) t = sat in
        record {
          live = sat'.live;
          subgroup = unstuck sat'.subgroup;
          there = is ∙ ap (λ (z : Subgroup). Some (Some (unstuck z))) (sym same);
          key_is = sat'.key_is;
          stream = subst (λ (packets : List Packet). IsStream p s.sessions s.peer worlds (table_in (ends_of s.peer) sat'.subgroup.out.formatted) (is_forced sat'.subgroup.out) sat'.subgroup.ending sat'.subgroup.phase (stream_of s (deeds_at p) packets)) (sym rest) sat'.stream;
          tellable = sat'.tellable;
          fitting = subst (λ (packets : List Packet). AreFitting s packets) (sym rest) sat'.fitting;
          untold = λ e. ap (stream_of s (deeds_at p)) rest ∙ sat'.untold e;
        }

    -- it stays where it is
    elsewhere : (t.sub == g) ≡ false → Then t
    elsewhere e = record {
      live = sat.live;
      subgroup = sat.subgroup;
      there = get-front olds (Some (unstuck x) ∷ []) t.sub (Some sat.subgroup) (old-at t.sub false e ∙ sat.there);
      key_is = sat.key_is;
      stream = sat.stream;
      tellable = sat.tellable;
      fitting = sat.fitting;
      untold = sat.untold;
    }

    same_sub : (t.sub == g) ≡ true → sat.subgroup ≡ x
    same_sub e = let at : t.sub ≡ g = eqb-true t.sub g e in let both_are : Some (Some sat.subgroup) ≡ Some (Some x) = sym sat.there ∙ ap (slice_get state.subgroups) at ∙ there in cc

    behind : (t.sub == g) ≡ true → Then t
    behind e = same_as t x refl (get-front olds (Some (unstuck x) ∷ []) t.sub (Some (unstuck x)) (old-at t.sub true e)) (same_sub e)

    first : (t.sub == g) ≡ true → Then (record t { sub = to })
    first e = same_as (record t { sub = to }) x refl new-there (same_sub e)

    sat_next : (u : Seat) → parted g size to t ≡ u → Then u
    sat_next u is = subst Then is (by (t.sub == g) (length t.rest == size) refl)
      where
        by : (b c : Bool) → (t.sub == g) ≡ b → Then (if b && c then record t { sub = to } else t)
        by true true e = first e
        by true false e = behind e
        by false c e = elsewhere e

  placed_by : (p : ℕ) (o : Option PeerState) (u : Option Member) → IsPlacedAt p worlds (deeds_at p) state.world state.subgroups o u
      → IsPlacedAt p worlds (deeds_at p) state.world next.subgroups o (option_map (reseated (parted g size to)) u)
  placed_by p None None placed = tt
  placed_by p (Some s) None placed = absurd placed
  placed_by p None (Some m) placed = absurd placed
  placed_by p (Some s) (Some m) placed = record {
    counted = placed.counted;
    told = placed.told;
    sat = λ u at. sat_of m.seat refl u at;
    empty = λ none. placed.empty (empty_of m.seat none);
  }
    where
      empty_of : (o : Option Seat) → option_map (parted g size to) o ≡ None → o ≡ None
      empty_of None e = refl
      empty_of (Some t) e = absurd cc

      sat_of : (o : Option Seat) → m.seat ≡ o → (u : Seat) → option_map (parted g size to) o ≡ Some u → IsSat p worlds (deeds_at p) s (reseated (parted g size to) m) next.subgroups (key_in state.world s) u
      sat_of None at u e = absurd cc
      sat_of (Some t) at u e = let same : parted g size to t ≡ u = cc in sat_next p s m t (placed.sat t at) u same

  pub system-parted : IsSystem worlds deeds_at next
  system-parted = record {
    kept = next_kept;
    placed = λ p.
        subst (λ (u : Option Member). IsPlacedAt p worlds (deeds_at p) state.world next.subgroups (slice_get state.world.peers p) u) (sym (slice_get-map (reseated (parted g size to)) state.members p))
        (placed_by p (slice_get state.world.peers p) (slice_get state.members p) (system.placed p));
  }
