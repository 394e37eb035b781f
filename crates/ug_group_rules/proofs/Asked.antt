-- Jobs that aren't events keep what a peer was announced since its request.
use Rattle.std.proofs.Common.{◌≡◌, ℕ, ◌≤◌, Bool, true, false, List, [], ◌∷◌, ◌++◌, length, map, slice_get, Option, Some, None, refl, sym, ◌∙◌, ap, subst, append_assoc}
use Rattle.std.specs.Prelude.{◌==◌, ◌&&◌, if◌then◌else◌}
use Rattle.std.specs.Option.{option_map}
use Rattle.std.proofs.lemmas.Bool.{eqb-true}
use Rattle.std.proofs.lemmas.List.{append-nil, map-append}
use Rattle.std.proofs.lemmas.Option.{slice_get-map}
use Rattle.ug_types.specs.declared.route.PeerEnds.{PeerEnds}
use Rattle.ug_types.specs.Messages.{Message}
use Rattle.ug_board.specs.Deeds.{Deed}
use Rattle.ug_board.specs.Sessions.{sessions_of}
use Rattle.ug_outbound.specs.Keys.{ends_of}
use Rattle.ug_world.specs.declared.peer_state.PeerState.{PeerState}
use Rattle.ug_world.specs.World.{World, key_in}
use Rattle.ug_speaker.specs.Told.{handed_in}
use Rattle.ug_group_rules.specs.Packets.{Packet, message_to}
use Rattle.ug_group_rules.specs.Machine.{Subgroup, Seat, Member, System, owes, queued, may_merge, reseated, says_next, formatted, given, with_packet, moved, merge, unstuck, parted, slow_of}
use Rattle.ug_group_rules.proofs.Again.{IsAgain, GoesTo, again-goes, goes-as, goes-formatted}
use Rattle.ug_group_rules.proofs.Seated.{told_by, stream_of, IsSat, IsPlaced, IsSystem, IsFine, placed-of}
use Rattle.ug_group_rules.proofs.Formatting.{next-at, due-here}
use Rattle.ug_group_rules.proofs.Merging.{one, other, there-next, one-there, merged-as}
use Rattle.ug_group_rules.proofs.Parting.{get-front, old-at, new-there}

-- in the subgroup at this seat, of what was told in the session and what is still to be taken
pub record IsAgainAt (asks : Bool) (handed : ℕ) (s : PeerState) (deeds : List (Deed Message)) (xs : List (Option Subgroup)) (t : Seat) : Type 0 where
  pub subgroup : Subgroup
  pub there : slice_get xs t.sub ≡ Some (Some subgroup)
  pub again : IsAgain asks handed s.peer.enhanced_refresh subgroup (stream_of s deeds t.rest)

-- Where the peer asked in the session of that number, after so many messages, and is still in it. The world is given
-- beside the state, since in an event peers stand as before until their turn.
pub record IsAsked (asks : Bool) (p n handed : ℕ) (deeds : List (Deed Message)) (w : World) (state : System) : Type 0 where
  pub peer : PeerState
  pub member : Member
  pub is : slice_get w.peers p ≡ Some peer
  pub at : slice_get state.members p ≡ Some member
  pub rises : n ≤ peer.sessions
  pub again : peer.sessions ≡ n → (t : Seat) → member.seat ≡ Some t → IsAgainAt asks handed peer deeds state.subgroups t

-- ---- seats that change

-- the same stream, at the same subgroup
pub again-same : (asks : Bool) (handed : ℕ) (s : PeerState) (deeds later : List (Deed Message)) (xs : List (Option Subgroup)) (t u : Seat) → u.sub ≡ t.sub → stream_of s later u.rest ≡ stream_of s deeds t.rest
    → IsAgainAt asks handed s deeds xs t → IsAgainAt asks handed s later xs u
again-same asks handed s deeds later xs t u sub same found = record {
  subgroup = found.subgroup;
  there = ap (slice_get xs) sub ∙ found.there;
  again = subst (λ (ms : List Message). IsAgain asks handed s.peer.enhanced_refresh found.subgroup ms) (sym same) found.again;
}

stream_more : (s : PeerState) (deeds : List (Deed Message)) (rest more : List Packet) → stream_of s deeds (rest ++ more) ≡ stream_of s deeds rest ++ told_by s more
stream_more s deeds rest more =
    ap (λ (ms : List Message). handed_in s.sessions (sessions_of deeds) ++ ms) (map-append (λ (k : Packet). message_to (ends_of s.peer) k.says) rest more)
    ∙ sym (append_assoc (handed_in s.sessions (sessions_of deeds)) (told_by s rest) (told_by s more))

-- One seat becomes another, with these packets more to take.
pub record IsMoved (s : PeerState) (ys : List (Option Subgroup)) (x : Subgroup) (t u : Seat) : Type 0 where
  pub after : Subgroup
  pub there : slice_get ys u.sub ≡ Some (Some after)
  pub more : List Packet
  pub rest : u.rest ≡ t.rest ++ more
  pub goes : GoesTo x after (told_by s more)

pub again-moved : (asks : Bool) (handed : ℕ) (s : PeerState) (deeds : List (Deed Message)) (xs ys : List (Option Subgroup)) (t u : Seat) → (found : IsAgainAt asks handed s deeds xs t) → IsMoved s ys found.subgroup t u → IsAgainAt asks handed s deeds ys u
again-moved asks handed s deeds xs ys t u found moved = record {
  subgroup = moved.after;
  there = moved.there;
  again =
      subst (λ (ms : List Message). IsAgain asks handed s.peer.enhanced_refresh moved.after ms) (sym (ap (stream_of s deeds) moved.rest ∙ stream_more s deeds t.rest moved.more))
      (again-goes asks handed s.peer.enhanced_refresh found.subgroup moved.after (stream_of s deeds t.rest) (told_by s moved.more) found.again moved.goes);
}

-- with the same rest
pub moved-same : (s : PeerState) (ys : List (Option Subgroup)) (x y : Subgroup) (t u : Seat) → slice_get ys u.sub ≡ Some (Some y) → u.rest ≡ t.rest → GoesTo x y [] → IsMoved s ys x t u
moved-same s ys x y t u there rest goes = record { after = y; there = there; more = []; rest = rest ∙ sym (append-nil t.rest); goes = goes }

-- the subgroup stays as it is, but for its count
pub goes-itself : (ends : PeerEnds) (x : Subgroup) (n : ℕ) → GoesTo x (record x { stuck = n }) []
goes-itself ends x n = goes-as ends x (record x { stuck = n }) (record { same = λ q. refl; forces = λ q forced there. forced; rests = λ e. e; begun = λ e. e })

module _ (asks : Bool) (p n handed : ℕ) (deeds : List (Deed Message)) (w : World) (state : System) (asked : IsAsked asks p n handed deeds w state) where
  -- each seat changes, and each peer stays
  asked_reseated : (change : Seat → Seat) (next : System) → next.members ≡ map (reseated change) state.members
      → ((t : Seat) (x : Subgroup) → asked.member.seat ≡ Some t → slice_get state.subgroups t.sub ≡ Some (Some x) → IsMoved asked.peer next.subgroups x t (change t)) → IsAsked asks p n handed deeds w next
  asked_reseated change next members moves = record {
    peer = asked.peer;
    member = reseated change asked.member;
    is = asked.is;
    at = ap (λ (ms : List Member). slice_get ms p) members ∙ slice_get-map (reseated change) state.members p ∙ ap (option_map (reseated change)) asked.at;
    rises = asked.rises;
    again = λ same u sits. by same asked.member.seat refl u sits;
  }
    where
      by : asked.peer.sessions ≡ n → (o : Option Seat) → asked.member.seat ≡ o → (u : Seat) → option_map change o ≡ Some u → IsAgainAt asks handed asked.peer deeds next.subgroups u
      by same None at u sits = absurd cc
      by same (Some t) at u sits =
          let here : change t ≡ u = cc in
          let found = asked.again same t at in
          subst (λ (v : Seat). IsAgainAt asks handed asked.peer deeds next.subgroups v) here (again-moved asks handed asked.peer deeds state.subgroups next.subgroups t (change t) found (moves t found.subgroup at found.there))

-- ---- a packet is formatted

module _ (front : List World) (state : System) (deeds_at : ℕ → List (Deed Message)) (system : IsSystem (front ++ state.world ∷ []) deeds_at state) (asks : Bool) (p n handed : ℕ) (asked : IsAsked asks p n handed (deeds_at p) state.world state) where
  abbrev worlds : List World
  worlds = front ++ state.world ∷ []

  placed : IsPlaced p worlds (deeds_at p) asked.peer asked.member state.subgroups (key_in state.world asked.peer)
  placed = placed-of p worlds (deeds_at p) state asked.peer asked.member asked.is asked.at (system.placed p)

  sat : (t : Seat) → asked.member.seat ≡ Some t → IsSat p worlds (deeds_at p) asked.peer asked.member state.subgroups (key_in state.world asked.peer) t
  sat t at = placed.sat t at

  module _ (fine : IsFine state.world) (g : ℕ) (x : Subgroup) (there : slice_get state.subgroups g ≡ Some (Some x)) (owing : owes x ≡ true) where
    abbrev packet : Packet
    packet = record { made = state.made; says = says_next x }

    abbrev next : System
    next = with_packet g x state

    moves_given : (t : Seat) (y : Subgroup) → asked.member.seat ≡ Some t → slice_get state.subgroups t.sub ≡ Some (Some y) → IsMoved asked.peer next.subgroups y t (given g packet t)
    moves_given t y at is = by (t.sub == g) refl
      where
        by : (b : Bool) → (t.sub == g) ≡ b → IsMoved asked.peer next.subgroups y t (if b then record t { rest = t.rest ++ packet ∷ [] } else t)
        by true e =
            let here : t.sub ≡ g = eqb-true t.sub g e in
            let same : x ≡ y = (let both : Some (Some x) ≡ Some (Some y) = sym there ∙ ap (slice_get state.subgroups) (sym here) ∙ is in cc) in
            subst (λ (z : Subgroup). IsMoved asked.peer next.subgroups z t (record t { rest = t.rest ++ packet ∷ [] })) same (record {
              after = formatted x;
              there = next-at front state deeds_at system fine g x there owing t.sub true e;
              more = packet ∷ [];
              rest = refl;
              goes = goes-formatted (ends_of asked.peer.peer) x (system.kept g x there).exact (due-here front state deeds_at system fine g x there owing p asked.peer asked.member t asked.is (sat t at) e);
            })
        by false e = moved-same asked.peer next.subgroups y y t t (next-at front state deeds_at system fine g x there owing t.sub false e ∙ is) refl (goes-itself (ends_of asked.peer.peer) y y.stuck)

    pub asked-formatted : IsAsked asks p n handed (deeds_at p) state.world next
    asked-formatted = asked_reseated asks p n handed (deeds_at p) state.world state asked (given g packet) next refl moves_given

  -- ---- two subgroups are merged

  module _ (g h : ℕ) (may : may_merge state g h ≡ true) where
    abbrev one_group : Subgroup
    one_group = (one front state deeds_at system g h may).subgroup

    abbrev other_group : Subgroup
    other_group = (other front state deeds_at system g h may).subgroup

    moves_over : (t : Seat) (y : Subgroup) → asked.member.seat ≡ Some t → slice_get state.subgroups t.sub ≡ Some (Some y) → IsMoved asked.peer (merge g h state).subgroups y t (moved h g t)
    moves_over t y at is = by (t.sub == h) refl
      where
        by : (b : Bool) → (t.sub == h) ≡ b → IsMoved asked.peer (merge g h state).subgroups y t (if b then record t { sub = g } else t)
        by true e =
            let here : t.sub ≡ h = eqb-true t.sub h e in
            let same : other_group ≡ y = (let both : Some (Some other_group) ≡ Some (Some y) = sym (other front state deeds_at system g h may).is ∙ ap (slice_get state.subgroups) (sym here) ∙ is in cc) in
            subst (λ (z : Subgroup). IsMoved asked.peer (merge g h state).subgroups z t (record t { sub = g })) same
            (moved-same asked.peer (merge g h state).subgroups other_group one_group t (record t { sub = g }) (one-there front state deeds_at system g h may) refl
            (goes-as (ends_of asked.peer.peer) other_group one_group (merged-as front state deeds_at system g h may p asked.peer asked.member t asked.is (sat t at) e)))
        by false e = moved-same asked.peer (merge g h state).subgroups y y t t (there-next front state deeds_at system g h may t.sub e ∙ is) refl (goes-itself (ends_of asked.peer.peer) y y.stuck)

    pub asked-merged : IsAsked asks p n handed (deeds_at p) state.world (merge g h state)
    asked-merged = asked_reseated asks p n handed (deeds_at p) state.world state asked (moved h g) (merge g h state) refl moves_over

  -- ---- slow peers are moved

  module _ (g : ℕ) (x : Subgroup) (there : slice_get state.subgroups g ≡ Some (Some x)) where
    abbrev left : System
    left = slow_of g (Some x) state

    abbrev to : ℕ
    to = length state.subgroups

    moves_apart : (t : Seat) (y : Subgroup) → asked.member.seat ≡ Some t → slice_get state.subgroups t.sub ≡ Some (Some y) → IsMoved asked.peer left.subgroups y t (parted g (queued g state.members) to t)
    moves_apart t y at is = by (t.sub == g) (length t.rest == queued g state.members) refl
      where
        goes : GoesTo y (unstuck y) []
        goes = goes-itself (ends_of asked.peer.peer) y 0

        copy_of : (t.sub == g) ≡ true → unstuck x ≡ unstuck y
        copy_of e =
            let here : t.sub ≡ g = eqb-true t.sub g e in
            let both : Some (Some x) ≡ Some (Some y) = sym there ∙ ap (slice_get state.subgroups) (sym here) ∙ is in
            let same : x ≡ y = cc in ap unstuck same

        by : (b c : Bool) → (t.sub == g) ≡ b → IsMoved asked.peer left.subgroups y t (if b && c then record t { sub = to } else t)
        by true true e =
            moved-same asked.peer left.subgroups y (unstuck y) t (record t { sub = to }) (new-there worlds state deeds_at system g x there ∙ ap (λ (z : Subgroup). Some (Some z)) (copy_of e)) refl goes
        by true false e =
            moved-same asked.peer left.subgroups y (unstuck y) t t
            (get-front _ (Some (unstuck x) ∷ []) t.sub (Some (unstuck x)) (old-at worlds state deeds_at system g x there t.sub true e) ∙ ap (λ (z : Subgroup). Some (Some z)) (copy_of e)) refl goes
        by false c e =
            moved-same asked.peer left.subgroups y y t t (get-front _ (Some (unstuck x) ∷ []) t.sub (Some y) (old-at worlds state deeds_at system g x there t.sub false e ∙ is)) refl (goes-itself (ends_of asked.peer.peer) y y.stuck)

    pub asked-parted : IsAsked asks p n handed (deeds_at p) state.world left
    asked-parted = asked_reseated asks p n handed (deeds_at p) state.world state asked (parted g (queued g state.members) to) left refl moves_apart
