-- A formatted packet keeps what is so of the system.
use Rattle.std.proofs.Common.{◌≡◌, ℕ, ◌≤◌, ◌⊎◌, inl, inr, Bool, true, false, List, [], ◌∷◌, ◌++◌, slice_get, Option, Some, None, refl, sym, ◌∙◌, ap, subst, append_assoc}
use Rattle.std.specs.Prelude.{◌==◌, ◌&&◌, ◌||◌, not, is_some, sum_by, if◌then◌else◌}
use Rattle.std.specs.Option.{option_map, option_eq}
use Rattle.std.proofs.lemmas.Bool.{eqb-true, eq-eqb}
use Rattle.std.proofs.lemmas.List.{map-append}
use Rattle.std.proofs.lemmas.Option.{slice_get-map}
use Rattle.ug_types.specs.declared.key.Key.{Key}
use Rattle.ug_types.specs.declared.route.OutAttrs.{OutAttrs}
use Rattle.ug_types.specs.Attributes.{Attributes}
use Rattle.ug_types.specs.Keys.{weight_of}
use Rattle.ug_types.specs.Messages.{Message}
use Rattle.ug_board.specs.Deeds.{Deed}
use Rattle.ug_board.specs.Sessions.{sessions_of}
use Rattle.ug_outbound.specs.declared.key.GroupKey.{GroupKey}
use Rattle.ug_outbound.specs.Keys.{ends_of, limit_of}
use Rattle.ug_message.specs.NextHops.{told_to}
use Rattle.ug_world.specs.declared.peer_state.PeerState.{PeerState}
use Rattle.ug_world.specs.World.{World, key_in}
use Rattle.ug_world.specs.Worlds.{is_up_in, in_session}
use Rattle.ug_world.specs.Private.{private_table}
use Rattle.ug_adjout.specs.Tables.{has}
use Rattle.ug_adjout.specs.Formatting.{Due}
use Rattle.ug_adjout.specs.Formatting.Due.{Withdraws, Announces}
use Rattle.ug_pack.specs.Rooms.{room, room_beside}
use Rattle.ug_pack.specs.Ready.{key_order}
use Rattle.ug_message.specs.Fitting.{fits}
use Rattle.ug_speaker.specs.Speech.{capabilities_of}
use Rattle.ug_speaker.specs.Told.{handed_in}
use Rattle.ug_speaker.specs.Counts.{is_lost_at}
use Rattle.ug_speaker.proofs.Bools.{both_so, both}
use Rattle.ug_speaker.proofs.Each.{each-append}
use Rattle.ug_message.proofs.Fitting.{marks-fit, end-fits}
use Rattle.ug_group_rules.specs.Packets.{Rows, Packet, Says, Withdrawn, Announced, same_out, routes_due, message_to}
use Rattle.ug_group_rules.specs.Machine.{Subgroup, Seat, Member, System, owes, reseated, says_next, formatted, given, with_packet}
use Rattle.ug_group_rules.proofs.Fitting.{CanBeSent, IsKeyTo, withdrawn-fit, announced-fit}
use Rattle.ug_group_rules.proofs.Formats.{IsDueOf, HasRoom, each-has, some-has, due-is, due-room}
use Rattle.ug_group_rules.proofs.Streams.{IsStream}
use Rattle.ug_group_rules.proofs.Tables.{row_at, is_forced}
use Rattle.ug_group_rules.proofs.WantedTables.{table_in}
use Rattle.ug_group_rules.proofs.MemberStreams.{IsKept, format-goes, desired-private}
use Rattle.ug_group_rules.proofs.NextPackets.{so-next}
use Rattle.ug_group_rules.proofs.Seated.{counts_of, told_by, stream_of, AreFitting, IsSat, IsPlacedAt, IsSystem, IsFine, kept-formatted, key-formatted, rows-formatted, at-same}

-- what is live is up, in its session
pub up-of : (s : PeerState) (b : Bool) → (s.up && b) ≡ true → s.up ≡ true
up-of s b e = (both_so s.up b e).0

pub session-of : (p : ℕ) (w : World) (s : PeerState) → slice_get w.peers p ≡ Some s → s.up ≡ true → in_session p s.sessions w ≡ true
session-of p w s is up = ap (is_up_in s.sessions) is ∙ both s.up (s.sessions == s.sessions) up (eq-eqb s.sessions s.sessions refl)

-- a pending key is in one of the tables
some_there : (f d : Option OutAttrs) (h : Bool) → (not (option_eq same_out f d) || (h && is_some d)) ≡ true → ((v : OutAttrs) × (f ≡ Some v)) ⊎ ((v : OutAttrs) × (d ≡ Some v))
some_there None None h e = absurd (let z = sym e ∙ none h in cc)
  where
    none : (b : Bool) → (false || (b && false)) ≡ false
    none true = refl
    none false = refl
some_there None (Some d) h e = inr (d, refl)
some_there (Some f) d h e = inl (f, refl)

module _ (front : List World) (state : System) (deeds_at : ℕ → List (Deed Message)) (system : IsSystem (front ++ state.world ∷ []) deeds_at state) (fine : IsFine state.world) (g : ℕ) (x : Subgroup)
    (there : slice_get state.subgroups g ≡ Some (Some x)) (owing : owes x ≡ true) where
  abbrev worlds : List World
  worlds = front ++ state.world ∷ []

  abbrev packet : Packet
  packet = record { made = state.made; says = says_next x }

  abbrev next : System
  next = with_packet g x state

  kept_x : IsKept state.world x
  kept_x = system.kept g x there

  pub next-at : (h : ℕ) (b : Bool) → (h == g) ≡ b → slice_get next.subgroups h ≡ (if b then Some (Some (formatted x)) else slice_get state.subgroups h)
  next-at h b e = at-same (option_map formatted) g h state.subgroups (Some x) there b e

  next_kept : (h : ℕ) (y : Subgroup) → slice_get next.subgroups h ≡ Some (Some y) → IsKept state.world y
  next_kept h y is = by (h == g) refl
    where
      by : (b : Bool) → (h == g) ≡ b → IsKept state.world y
      by true e = let both_are : Some (Some (formatted x)) ≡ Some (Some y) = sym (next-at h true e) ∙ is in let same : formatted x ≡ y = cc in subst (λ (z : Subgroup). IsKept state.world z) same (kept-formatted state.world x kept_x)
      by false e = system.kept h y (sym (next-at h false e) ∙ is)

  -- ---- a member of the subgroup

  module _ (p : ℕ) (s : PeerState) (m : Member) (t : Seat) (is : slice_get state.world.peers p ≡ Some s) (sat : IsSat p worlds (deeds_at p) s m state.subgroups (key_in state.world s) t) where
    up : s.up ≡ true
    up = up-of s (not (is_lost_at (counts_of m) s.sessions)) sat.live

    in_its_session : in_session p s.sessions state.world ≡ true
    in_its_session = session-of p state.world s is up

    -- elsewhere nothing changes
    pub sat-elsewhere : (t.sub == g) ≡ false → IsSat p worlds (deeds_at p) s m next.subgroups (key_in state.world s) t
    sat-elsewhere e = record {
      live = sat.live;
      subgroup = sat.subgroup;
      there = next-at t.sub false e ∙ sat.there;
      key_is = sat.key_is;
      stream = sat.stream;
      tellable = sat.tellable;
      fitting = sat.fitting;
      untold = sat.untold;
    }

    module _ (here : (t.sub == g) ≡ true) where
      same_sub : sat.subgroup ≡ x
      same_sub = let at : t.sub ≡ g = eqb-true t.sub g here in let both_are : Some (Some sat.subgroup) ≡ Some (Some x) = sym sat.there ∙ ap (slice_get state.subgroups) at ∙ there in cc

      key_x : x.key ≡ key_in state.world s
      key_x = ap (λ (y : Subgroup). y.key) (sym same_sub) ∙ sat.key_is

      stream_x : IsStream p s.sessions s.peer worlds (table_in (ends_of s.peer) x.out.formatted) (is_forced x.out) x.ending x.phase (stream_of s (deeds_at p) t.rest)
      stream_x = subst (λ (y : Subgroup). IsStream p s.sessions s.peer worlds (table_in (ends_of s.peer) y.out.formatted) (is_forced y.out) y.ending y.phase (stream_of s (deeds_at p) t.rest)) same_sub sat.stream

      tellable_x : (q : Key) (a : Attributes) → table_in (ends_of s.peer) x.out.formatted q ≡ Some a → CanBeSent (capabilities_of s.peer) q a
      tellable_x = subst (λ (y : Subgroup). (q : Key) (a : Attributes) → table_in (ends_of s.peer) y.out.formatted q ≡ Some a → CanBeSent (capabilities_of s.peer) q a) same_sub sat.tellable

      private : (q : Key) → table_in (ends_of s.peer) x.out.desired q ≡ private_table p state.world q
      private q = desired-private p front state.world s is up in_its_session x kept_x key_x q

      desired_tellable : (q : Key) (a : Attributes) → table_in (ends_of s.peer) x.out.desired q ≡ Some a → CanBeSent (capabilities_of s.peer) q a
      desired_tellable q a e = fine.spelled p s q a is (sym (private q) ∙ e)

      desired_sent : (q : Key) (o : OutAttrs) → row_at x.out.desired q ≡ Some o → CanBeSent (capabilities_of s.peer) q (told_to (ends_of s.peer) o)
      desired_sent q o e = desired_tellable q (told_to (ends_of s.peer) o) (ap (option_map (told_to (ends_of s.peer))) e)

      pending_sent : (q : Key) → has key_order x.out.pending q ≡ true → IsKeyTo (capabilities_of s.peer) q
      pending_sent q pending =
          elim (some_there (row_at x.out.formatted q) (row_at x.out.desired q) (is_forced x.out q) (sym (kept_x.exact.all q) ∙ pending)) [
            | inl found ↦ (told_to (ends_of s.peer) found.0, tellable_x q (told_to (ends_of s.peer) found.0) (ap (option_map (told_to (ends_of s.peer))) found.1))
            | inr found ↦ (told_to (ends_of s.peer) found.0, desired_sent q found.0 found.1)
          ]

      light : (q : Key) → has key_order x.out.pending q ≡ true → weight_of q ≤ 21
      light q pending = let sent = pending_sent q pending in fine.light (capabilities_of s.peer) q sent.0 sent.1

      beside : (q : Key) (o : OutAttrs) → row_at x.out.desired q ≡ Some o → 21 ≤ room_beside x.key.family (limit_of x.key) o.attrs
      beside q o e = fine.beside x.key q o (ap (λ (rows : Rows). row_at rows q) (sym kept_x.desired) ∙ e)

      pub due-here : IsDueOf x.out (routes_due x.key x.out)
      due-here = due-is x.key x.out light (fine.wide x.key) beside

      -- the packet fits

      abbrev Fits : Says → Type 0
      Fits says = fits (capabilities_of s.peer) (message_to (ends_of s.peer) says) ≡ true

      gone_fits : (keys : List Key) → IsDueOf x.out (Withdraws keys) → HasRoom x.key x.out (Withdraws keys) → Fits (Withdrawn keys)
      gone_fits keys is space =
          withdrawn-fit (capabilities_of s.peer) keys is.0 (each-has (IsKeyTo (capabilities_of s.peer)) keys (λ q at. pending_sent q (space.0 q at)))
          (subst (λ (k : GroupKey). sum_by weight_of keys ≤ room k.family (limit_of k)) key_x space.1)

      new_fits : (o : OutAttrs) (keys : List Key) → IsDueOf x.out (Announces o keys) → HasRoom x.key x.out (Announces o keys) → Fits (Announced o keys)
      new_fits o keys is space =
          let first = some-has keys is.0 in
          let row = is.1 first.0 first.1 in
          announced-fit (capabilities_of s.peer) keys is.0 (each-has (IsKeyTo (capabilities_of s.peer)) keys (λ q at. (told_to (ends_of s.peer) o, desired_sent q o (is.1 q at))))
          (ends_of s.peer) o (desired_sent first.0 o row).told.attributes_are
          (subst (λ (k : GroupKey). 21 ≤ room_beside k.family (limit_of k) o.attrs) key_x (beside first.0 o row))
          (subst (λ (k : GroupKey). sum_by weight_of keys ≤ room_beside k.family (limit_of k) o.attrs) key_x space)

      abbrev IsDueHere : Due Key OutAttrs → Type 0
      IsDueHere d = IsDueOf x.out d × HasRoom x.key x.out d

      due_fits : IsDueHere (routes_due x.key x.out)
      due_fits = (due-here, due-room x.key x.out light (fine.wide x.key) beside)

      fits_next : Fits (says_next x)
      fits_next =
          so-next x Fits (record {
            begins = λ owed not_due. (marks-fit (capabilities_of s.peer)).0;
            withdraws = λ keys due. let is = subst (λ (d : Due Key OutAttrs). IsDueHere d) due due_fits in gone_fits keys is.0 is.1;
            announces = λ o keys due. let is = subst (λ (d : Due Key OutAttrs). IsDueHere d) due due_fits in new_fits o keys is.0 is.1;
            end_of_rib = λ none due. end-fits (capabilities_of s.peer);
            ends = λ none not_owed not_due. (marks-fit (capabilities_of s.peer)).1;
          })

      fitting_next : AreFitting s (t.rest ++ packet ∷ [])
      fitting_next = each-append (λ (k : Packet). fits (capabilities_of s.peer) (message_to (ends_of s.peer) k.says) ≡ true) t.rest (packet ∷ []) sat.fitting (fits_next, tt)

      stream_next : IsStream p s.sessions s.peer worlds (table_in (ends_of s.peer) (formatted x).out.formatted) (is_forced (formatted x).out) (formatted x).ending (formatted x).phase
          (stream_of s (deeds_at p) t.rest ++ message_to (ends_of s.peer) (says_next x) ∷ [])
      stream_next =
          format-goes p front state.world s is up in_its_session x kept_x key_x (stream_of s (deeds_at p) t.rest) stream_x light (fine.wide x.key) beside owing

      longer : stream_of s (deeds_at p) (t.rest ++ packet ∷ []) ≡ stream_of s (deeds_at p) t.rest ++ message_to (ends_of s.peer) (says_next x) ∷ []
      longer =
          ap (λ (ms : List Message). handed_in s.sessions (sessions_of (deeds_at p)) ++ ms) (map-append (λ (k : Packet). message_to (ends_of s.peer) k.says) t.rest (packet ∷ []))
          ∙ sym (append_assoc (handed_in s.sessions (sessions_of (deeds_at p))) (told_by s t.rest) (message_to (ends_of s.peer) (says_next x) ∷ []))

      tellable_next : (q : Key) (a : Attributes) → table_in (ends_of s.peer) (formatted x).out.formatted q ≡ Some a → CanBeSent (capabilities_of s.peer) q a
      tellable_next q a e =
          elim (rows-formatted state.world x kept_x q) [
            | inl old ↦ tellable_x q a (sym (ap (option_map (told_to (ends_of s.peer))) old) ∙ e)
            | inr new ↦ desired_tellable q a (sym (ap (option_map (told_to (ends_of s.peer))) new) ∙ e)
          ]

      pub sat-here : IsSat p worlds (deeds_at p) s (reseated (given g packet) m) next.subgroups (key_in state.world s) (record t { rest = t.rest ++ packet ∷ [] })
      sat-here = record {
        live = sat.live;
        subgroup = formatted x;
        there = next-at t.sub true here;
        key_is = key-formatted state.world x kept_x ∙ key_x;
        stream = subst (λ (ms : List Message). IsStream p s.sessions s.peer worlds (table_in (ends_of s.peer) (formatted x).out.formatted) (is_forced (formatted x).out) (formatted x).ending (formatted x).phase ms) (sym longer) stream_next;
        tellable = tellable_next;
        fitting = fitting_next;
        untold = λ e. absurd cc;
      }

    -- wherever it sits
    pub sat-next : (u : Seat) → given g packet t ≡ u → IsSat p worlds (deeds_at p) s (reseated (given g packet) m) next.subgroups (key_in state.world s) u
    sat-next u is' = subst (λ (v : Seat). IsSat p worlds (deeds_at p) s (reseated (given g packet) m) next.subgroups (key_in state.world s) v) is' (by (t.sub == g) refl)
      where
        elsewhere : (t.sub == g) ≡ false → IsSat p worlds (deeds_at p) s (reseated (given g packet) m) next.subgroups (key_in state.world s) t
        elsewhere e = let same = sat-elsewhere e in record { live = same.live; subgroup = same.subgroup; there = same.there; key_is = same.key_is; stream = same.stream; tellable = same.tellable; fitting = same.fitting; untold = same.untold }

        by : (b : Bool) → (t.sub == g) ≡ b → IsSat p worlds (deeds_at p) s (reseated (given g packet) m) next.subgroups (key_in state.world s) (if b then record t { rest = t.rest ++ packet ∷ [] } else t)
        by true e = sat-here e
        by false e = elsewhere e

  placed_by : (p : ℕ) (o : Option PeerState) (u : Option Member) → slice_get state.world.peers p ≡ o → IsPlacedAt p worlds (deeds_at p) state.world state.subgroups o u
      → IsPlacedAt p worlds (deeds_at p) state.world next.subgroups o (option_map (reseated (given g packet)) u)
  placed_by p None None is placed = tt
  placed_by p (Some s) None is placed = absurd placed
  placed_by p None (Some m) is placed = absurd placed
  placed_by p (Some s) (Some m) is placed = record {
    counted = placed.counted;
    told = placed.told;
    sat = λ u at. sat_of m.seat refl u at;
    empty = λ none. placed.empty (empty_of m.seat none);
  }
    where
      empty_of : (o : Option Seat) → option_map (given g packet) o ≡ None → o ≡ None
      empty_of None e = refl
      empty_of (Some t) e = absurd cc

      sat_of : (o : Option Seat) → m.seat ≡ o → (u : Seat) → option_map (given g packet) o ≡ Some u → IsSat p worlds (deeds_at p) s (reseated (given g packet) m) next.subgroups (key_in state.world s) u
      sat_of None at u e = absurd cc
      sat_of (Some t) at u e = let same : given g packet t ≡ u = cc in sat-next p s m t is (placed.sat t at) u same

  pub system-formatted : IsSystem worlds deeds_at next
  system-formatted = record {
    kept = next_kept;
    placed = λ p.
        subst (λ (u : Option Member). IsPlacedAt p worlds (deeds_at p) state.world next.subgroups (slice_get state.world.peers p) u) (sym (slice_get-map (reseated (given g packet)) state.members p))
        (placed_by p (slice_get state.world.peers p) (slice_get state.members p) refl (system.placed p));
  }
