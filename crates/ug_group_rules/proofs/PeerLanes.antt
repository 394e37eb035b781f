-- What a lane does keeps what is so of the system.
use Rattle.std.proofs.Common.{◌≡◌, ℕ, ◌+◌, ◌<◌, inl, inr, Bool, true, false, List, [], ◌∷◌, ◌++◌, slice_get, Option, Some, None, refl, sym, ◌∙◌, ap, subst, append_assoc}
use Rattle.std.specs.Prelude.{◌==◌, ◌&&◌, ◌||◌, not}
use Rattle.std.specs.Option.{option_map}
use Rattle.std.proofs.lemmas.Bool.{cases_eq}
use Rattle.ug_types.specs.Messages.{Message}
use Rattle.ug_board.specs.Deeds.{Deed, Begins as BeginsDeed, Hands as HandsDeed, Loses}
use Rattle.ug_board.specs.Sessions.{Session, hand_last, sessions_of}
use Rattle.ug_board.proofs.Folding.{sessions_of-append}
use Rattle.ug_outbound.specs.declared.key.GroupKey.{GroupKey}
use Rattle.ug_outbound.specs.Keys.{ends_of}
use Rattle.ug_world.specs.declared.peer_state.PeerState.{PeerState}
use Rattle.ug_world.specs.World.{World}
use Rattle.ug_speaker.specs.Told.{handed_in}
use Rattle.ug_speaker.specs.Right.{IsToldRight}
use Rattle.ug_speaker.specs.Counts.{has, is_lost_at}
use Rattle.ug_speaker.proofs.ToldRight.{right-front}
use Rattle.ug_speaker.proofs.Counts.{IsCounted, begins-nothing, handed-last, handed-other, counted-begins, counted-hands, begins-lost, lost-now, counted-loses}
use Rattle.ug_group_rules.specs.Packets.{Packet, message_to}
use Rattle.ug_group_rules.specs.Machine.{Subgroup, Seat, Member, with_session, with_handed, with_loss, rest_behind}
use Rattle.ug_group_rules.proofs.Streams.{IsStream}
use Rattle.ug_group_rules.proofs.Tables.{is_forced}
use Rattle.ug_group_rules.proofs.WantedTables.{table_in}
use Rattle.ug_group_rules.proofs.Seated.{counts_of, is_live, told_by, stream_of, AreFitting, IsSat, IsPlaced}

-- another member and other deeds, with the same stream
pub sat-as : (p : ℕ) (worlds : List World) (deeds later : List (Deed Message)) (s : PeerState) (m next : Member) (xs : List (Option Subgroup)) (key : GroupKey) (t u : Seat)
    → is_live s next ≡ true → u.sub ≡ t.sub → stream_of s later u.rest ≡ stream_of s deeds t.rest → AreFitting s u.rest → IsSat p worlds deeds s m xs key t → IsSat p worlds later s next xs key u
sat-as p worlds deeds later s m next xs key t u live sub same fit sat = record {
  live = live;
  subgroup = sat.subgroup;
  there = ap (slice_get xs) sub ∙ sat.there;
  key_is = sat.key_is;
  stream = subst (λ (ms : List Message). IsStream p s.sessions s.peer worlds (table_in (ends_of s.peer) sat.subgroup.out.formatted) (is_forced sat.subgroup.out) sat.subgroup.ending sat.subgroup.phase ms) (sym same) sat.stream;
  tellable = sat.tellable;
  fitting = fit;
  untold = λ e. same ∙ sat.untold e;
}

module _ (p : ℕ) (worlds : List World) (deeds : List (Deed Message)) (s : PeerState) (m : Member) (xs : List (Option Subgroup)) (key : GroupKey) (placed : IsPlaced p worlds deeds s m xs key) where
  -- ---- a session begins

  pub begins-alike : (n : ℕ) → handed_in n (sessions_of (deeds ++ BeginsDeed (m.begun + 1) ∷ [])) ≡ handed_in n (sessions_of deeds)
  begins-alike n = ap (λ (found : List (Session Message)). handed_in n found) (sessions_of-append deeds (BeginsDeed (m.begun + 1) ∷ [])) ∙ begins-nothing n (m.begun + 1) (sessions_of deeds)

  begins_live : is_live s (with_session m) ≡ is_live s m
  begins_live = ap (λ (b : Bool). s.up && not b) (begins-lost deeds s (counts_of m) placed.counted s.sessions)

  pub placed-begins : m.begun < s.sessions → IsPlaced p worlds (deeds ++ BeginsDeed (m.begun + 1) ∷ []) s (with_session m) xs key
  placed-begins less = record {
    counted = counted-begins deeds s (counts_of m) placed.counted less;
    told = λ n. subst (λ (ms : List Message). IsToldRight p n s.peer worlds ms) (sym (begins-alike n)) (placed.told n);
    sat = λ t at. let sat = placed.sat t at in
        sat-as p worlds deeds (deeds ++ BeginsDeed (m.begun + 1) ∷ []) s m (with_session m) xs key t t (begins_live ∙ sat.live) refl (ap (λ (ms : List Message). ms ++ told_by s t.rest) (begins-alike s.sessions)) sat.fitting sat;
    empty = λ none. begins_live ∙ placed.empty none;
  }

  -- ---- a packet is handed out

  module _ (t : Seat) (at : m.seat ≡ Some t) (packet : Packet) (rest : List Packet) (first : t.rest ≡ packet ∷ rest) (all : m.begun ≡ s.sessions) (some : 0 < m.begun) where
    abbrev message : Message
    message = message_to (ends_of s.peer) packet.says

    abbrev then_deeds : List (Deed Message)
    then_deeds = deeds ++ HandsDeed m.begun message ∷ []

    made : sessions_of then_deeds ≡ hand_last m.begun message (sessions_of deeds)
    made = sessions_of-append deeds (HandsDeed m.begun message ∷ [])

    handed_here : handed_in s.sessions (sessions_of then_deeds) ≡ handed_in s.sessions (sessions_of deeds) ++ message ∷ []
    handed_here =
        ap (handed_in s.sessions) made
        ∙ subst (λ (k : ℕ). handed_in k (hand_last m.begun message (sessions_of deeds)) ≡ handed_in k (sessions_of deeds) ++ message ∷ []) all (handed-last message 0 m.begun (sessions_of deeds) placed.counted.numbers some)

    handed_elsewhere : (n : ℕ) → (n ≡ s.sessions → ⊥) → handed_in n (sessions_of then_deeds) ≡ handed_in n (sessions_of deeds)
    handed_elsewhere n apart = ap (handed_in n) made ∙ handed-other n m.begun message (sessions_of deeds) (λ e. apart (e ∙ all))

    pub goes-on : stream_of s then_deeds rest ≡ stream_of s deeds t.rest
    goes-on =
        ap (λ (ms : List Message). ms ++ told_by s rest) handed_here
        ∙ append_assoc (handed_in s.sessions (sessions_of deeds)) (message ∷ []) (told_by s rest)
        ∙ ap (λ (packets : List Packet). handed_in s.sessions (sessions_of deeds) ++ told_by s packets) (sym first)

    sat_now : IsSat p worlds deeds s m xs key t
    sat_now = placed.sat t at

    told_here : IsToldRight p s.sessions s.peer worlds (handed_in s.sessions (sessions_of then_deeds))
    told_here =
        right-front p s.sessions s.peer worlds (handed_in s.sessions (sessions_of then_deeds)) (told_by s rest)
        (subst (λ (ms : List Message). IsToldRight p s.sessions s.peer worlds ms) (sym goes-on) sat_now.stream.right)

    told_then : (n : ℕ) → IsToldRight p n s.peer worlds (handed_in n (sessions_of then_deeds))
    told_then n =
        elim (cases_eq n s.sessions) [
          | inl here ↦ subst (λ (k : ℕ). IsToldRight p k s.peer worlds (handed_in k (sessions_of then_deeds))) (sym here) told_here
          | inr apart ↦ subst (λ (ms : List Message). IsToldRight p n s.peer worlds ms) (sym (handed_elsewhere n apart)) (placed.told n)
        ]

    pub seat-then : (with_handed m).seat ≡ Some (record t { rest = rest })
    seat-then = ap (option_map (λ (u : Seat). record u { rest = rest_behind u.rest })) at ∙ ap (λ (packets : List Packet). Some (record t { rest = rest_behind packets })) first

    pub placed-hands : IsPlaced p worlds then_deeds s (with_handed m) xs key
    placed-hands = record {
      counted = counted-hands deeds s (counts_of m) placed.counted message some;
      told = told_then;
      sat = λ u at'.
          let same : record t { rest = rest } ≡ u = (let both : Some (record t { rest = rest }) ≡ Some u = sym seat-then ∙ at' in cc) in
          subst (λ (v : Seat). IsSat p worlds then_deeds s (with_handed m) xs key v) same (sat-as p worlds deeds then_deeds s m (with_handed m) xs key t (record t { rest = rest }) sat_now.live refl goes-on (subst (λ (packets : List Packet). AreFitting s packets) first sat_now.fitting).1 sat_now);
      empty = λ none. let some : Some (record t { rest = rest }) ≡ None = sym seat-then ∙ none in absurd cc;
    }

  -- ---- a session is lost

  module _ (n : ℕ) (there : has m.unlost n ≡ true) where
    lost_deeds : sessions_of (deeds ++ Loses n ∷ []) ≡ sessions_of deeds
    lost_deeds = sessions_of-append deeds (Loses n ∷ [])

    told_lost : (k : ℕ) → IsToldRight p k s.peer worlds (handed_in k (sessions_of (deeds ++ Loses n ∷ [])))
    told_lost k = subst (λ (found : List (Session Message)). IsToldRight p k s.peer worlds (handed_in k found)) (sym lost_deeds) (placed.told k)

    counted_lost : IsCounted (deeds ++ Loses n ∷ []) s (counts_of (with_loss n m))
    counted_lost = counted-loses deeds s (counts_of m) placed.counted n there

    or_true : (a b : Bool) → b ≡ true → (a || (b || false)) ≡ true
    or_true true b e = refl
    or_true false b e = rw e refl

    or_false : (a b : Bool) → b ≡ false → (a || (b || false)) ≡ a
    or_false true b e = refl
    or_false false b e = rw e refl

    not_live : (up b : Bool) → b ≡ true → (up && not b) ≡ false
    not_live true b e = rw e refl
    not_live false b e = refl

    lost_is : is_lost_at (counts_of (with_loss n m)) s.sessions ≡ (is_lost_at (counts_of m) s.sessions || ((n == s.sessions) || false))
    lost_is = sym (lost-now deeds s (counts_of m) placed.counted n there s.sessions)

    -- in the present one the peer is live no more
    pub lost-dead : (n == s.sessions) ≡ true → is_live s (with_loss n m) ≡ false
    lost-dead e = not_live s.up (is_lost_at (counts_of (with_loss n m)) s.sessions) (lost_is ∙ or_true (is_lost_at (counts_of m) s.sessions) (n == s.sessions) e)

    lost_alike : (n == s.sessions) ≡ false → is_live s (with_loss n m) ≡ is_live s m
    lost_alike e = ap (λ (b : Bool). s.up && not b) (lost_is ∙ or_false (is_lost_at (counts_of m) s.sessions) (n == s.sessions) e)

    pub placed-loses : (n == s.sessions) ≡ false → IsPlaced p worlds (deeds ++ Loses n ∷ []) s (with_loss n m) xs key
    placed-loses e = record {
      counted = counted_lost;
      told = told_lost;
      sat = λ t at. let sat = placed.sat t at in
          sat-as p worlds deeds (deeds ++ Loses n ∷ []) s m (with_loss n m) xs key t t (lost_alike e ∙ sat.live) refl (ap (λ (found : List (Session Message)). handed_in s.sessions found ++ told_by s t.rest) lost_deeds) sat.fitting sat;
      empty = λ none. lost_alike e ∙ placed.empty none;
    }

    -- and it sits nowhere
    pub placed-gone : (next : Member) → next ≡ record (with_loss n m) { seat = None } → (n == s.sessions) ≡ true → (ys : List (Option Subgroup)) → IsPlaced p worlds (deeds ++ Loses n ∷ []) s next ys key
    placed-gone next is e ys = subst (λ (k : Member). IsPlaced p worlds (deeds ++ Loses n ∷ []) s k ys key) (sym is) (record {
      counted = counted_lost;
      told = told_lost;
      sat = λ t at. absurd cc;
      empty = λ none. lost-dead e;
    })
