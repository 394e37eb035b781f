-- What is so of each peer and of each subgroup together, and that a formatted packet keeps it.
use Rattle.std.proofs.Common.{◌≡◌, ℕ, ◌≤◌, ◌⊎◌, inl, inr, Bool, true, false, List, [], ◌++◌, map, slice_get, Option, Some, None, refl, ◌∙◌, ap, subst}
use Rattle.std.specs.Prelude.{◌==◌, ◌&&◌, not, if◌then◌else◌}
use Rattle.std.specs.Option.{option_map}
use Rattle.std.proofs.lemmas.Bool.{eqb-true, eq-eqb}
use Rattle.ug_types.specs.declared.key.Key.{Key}
use Rattle.ug_types.specs.declared.route.OutAttrs.{OutAttrs}
use Rattle.ug_types.specs.Attributes.{Attributes}
use Rattle.ug_types.specs.Keys.{weight_of}
use Rattle.ug_types.specs.Messages.{Message}
use Rattle.ug_board.specs.Deeds.{Deed, Each}
use Rattle.ug_board.specs.Sessions.{sessions_of}
use Rattle.ug_outbound.specs.declared.key.GroupKey.{GroupKey}
use Rattle.ug_outbound.specs.Keys.{ends_of, limit_of}
use Rattle.ug_world.specs.declared.peer_state.PeerState.{PeerState}
use Rattle.ug_world.specs.World.{World, key_in}
use Rattle.ug_world.specs.Private.{private_table}
use Rattle.ug_adjout.specs.Tables.{has}
use Rattle.ug_pack.specs.Rooms.{room, room_beside}
use Rattle.ug_pack.specs.Ready.{key_order}
use Rattle.ug_message.specs.Fitting.{fits}
use Rattle.ug_speaker.specs.Speech.{capabilities_of}
use Rattle.ug_speaker.specs.Told.{handed_in}
use Rattle.ug_speaker.specs.Right.{IsToldRight}
use Rattle.ug_speaker.specs.Places.{change_at}
use Rattle.ug_speaker.specs.Counts.{Counts, is_lost_at}
use Rattle.ug_speaker.proofs.Places.{changed-here, changed-there}
use Rattle.ug_speaker.proofs.Counts.{IsCounted}
use Rattle.ug_group_rules.specs.declared.phase.Phase.{Phase}
use Rattle.ug_group_rules.specs.declared.phase.Phase.TheVariants.{Quiet, Open}
use Rattle.ug_group_rules.specs.Packets.{Packet, Says, Withdrawn, Announced, EndOfRib, RefreshBegins, RefreshEnds, wanted_rows, with_told, message_to}
use Rattle.ug_group_rules.specs.Machine.{Subgroup, Seat, Member, System, is_owed, says_next, after_saying, formatted}
use Rattle.ug_group_rules.proofs.Fitting.{CanBeSent}
use Rattle.ug_group_rules.proofs.Streams.{IsStream}
use Rattle.ug_group_rules.proofs.Tables.{row_at, is_forced, IsOut, told-desired, told-exact, told-formatted, forced-exact}
use Rattle.ug_group_rules.proofs.WantedTables.{table_in}
use Rattle.ug_group_rules.proofs.MemberStreams.{IsKept}
use Rattle.ug_group_rules.proofs.NextPackets.{so-next}

-- what is counted of a member's sessions
abbrev pub counts_of : Member → Counts
counts_of m = record { begun = m.begun; unlost = m.unlost; handed = m.handed }

abbrev pub is_live : PeerState → Member → Bool
is_live s m = s.up && not (is_lost_at (counts_of m) s.sessions)

-- what a peer is told by packets
abbrev pub told_by : PeerState → List Packet → List Message
told_by s packets = map (λ (packet : Packet). message_to (ends_of s.peer) packet.says) packets

-- the stream of its present session: what was handed out, and what it has still to take
abbrev pub stream_of : PeerState → List (Deed Message) → List Packet → List Message
stream_of s deeds rest = handed_in s.sessions (sessions_of deeds) ++ told_by s rest

-- each packet has a text in the sessions of the peer
abbrev pub AreFitting : PeerState → List Packet → Type 0
AreFitting s packets = Each (λ (packet : Packet). fits (capabilities_of s.peer) (message_to (ends_of s.peer) packet.says) ≡ true) packets

-- A live peer sits in a subgroup of its key. Its stream is right, and leads to what was formatted there; what it has
-- still to take fits its sessions. In a fresh subgroup its stream is empty.
pub record IsSat (p : ℕ) (worlds : List World) (deeds : List (Deed Message)) (s : PeerState) (m : Member) (xs : List (Option Subgroup)) (key : GroupKey) (t : Seat) : Type 0 where
  pub live : is_live s m ≡ true
  pub subgroup : Subgroup
  pub there : slice_get xs t.sub ≡ Some (Some subgroup)
  pub key_is : subgroup.key ≡ key
  pub stream : IsStream p s.sessions s.peer worlds (table_in (ends_of s.peer) subgroup.out.formatted) (is_forced subgroup.out) subgroup.ending subgroup.phase (stream_of s deeds t.rest)
  pub tellable : (q : Key) (a : Attributes) → table_in (ends_of s.peer) subgroup.out.formatted q ≡ Some a → CanBeSent (capabilities_of s.peer) q a
  pub fitting : AreFitting s t.rest
  pub untold : subgroup.fresh ≡ true → stream_of s deeds t.rest ≡ []

-- A peer's counts are those of what was told, each session was told right, and it sits somewhere exactly where it is live.
pub record IsPlaced (p : ℕ) (worlds : List World) (deeds : List (Deed Message)) (s : PeerState) (m : Member) (xs : List (Option Subgroup)) (key : GroupKey) : Type 0 where
  pub counted : IsCounted deeds s (counts_of m)
  pub told : (n : ℕ) → IsToldRight p n s.peer worlds (handed_in n (sessions_of deeds))
  pub sat : (t : Seat) → m.seat ≡ Some t → IsSat p worlds deeds s m xs key t
  pub empty : m.seat ≡ None → is_live s m ≡ false

abbrev pub IsPlacedAt : ℕ → List World → List (Deed Message) → World → List (Option Subgroup) → Option PeerState → Option Member → Type 0
IsPlacedAt p worlds deeds w xs None None = Unit {0}
IsPlacedAt p worlds deeds w xs (Some s) (Some m) = IsPlaced p worlds deeds s m xs (key_in w s)
IsPlacedAt p worlds deeds w xs (Some s) None = ⊥
IsPlacedAt p worlds deeds w xs None (Some m) = ⊥

pub record IsSystem (worlds : List World) (deeds_at : ℕ → List (Deed Message)) (state : System) : Type 0 where
  pub kept : (g : ℕ) (x : Subgroup) → slice_get state.subgroups g ≡ Some (Some x) → IsKept state.world x
  pub placed : (p : ℕ) → IsPlacedAt p worlds (deeds_at p) state.world state.subgroups (slice_get state.world.peers p) (slice_get state.members p)

-- so it is of each peer, with its member
pub placed-of : (p : ℕ) (worlds : List World) (deeds : List (Deed Message)) (state : System) (s : PeerState) (m : Member) → slice_get state.world.peers p ≡ Some s → slice_get state.members p ≡ Some m
    → IsPlacedAt p worlds deeds state.world state.subgroups (slice_get state.world.peers p) (slice_get state.members p) → IsPlaced p worlds deeds s m state.subgroups (key_in state.world s)
placed-of p worlds deeds state s m is at placed =
    subst (λ (u : Option Member). IsPlacedAt p worlds deeds state.world state.subgroups (Some s) u) at
    (subst (λ (o : Option PeerState). IsPlacedAt p worlds deeds state.world state.subgroups o (slice_get state.members p)) is placed)

pub member-of : (p : ℕ) (worlds : List World) (deeds : List (Deed Message)) (state : System) (s : PeerState) → slice_get state.world.peers p ≡ Some s
    → IsPlacedAt p worlds deeds state.world state.subgroups (slice_get state.world.peers p) (slice_get state.members p)
    → (m : Member) × (slice_get state.members p ≡ Some m) × IsPlaced p worlds deeds s m state.subgroups (key_in state.world s)
member-of p worlds deeds state s is placed = by (slice_get state.members p) refl (subst (λ (o : Option PeerState). IsPlacedAt p worlds deeds state.world state.subgroups o (slice_get state.members p)) is placed)
  where
    by : (u : Option Member) → slice_get state.members p ≡ u → IsPlacedAt p worlds deeds state.world state.subgroups (Some s) u
        → (m : Member) × (slice_get state.members p ≡ Some m) × IsPlaced p worlds deeds s m state.subgroups (key_in state.world s)
    by None at placed = absurd placed
    by (Some m) at placed = (m, at, placed)

-- What is so of the routes of a peer in a world: they can be sent, and their attributes are short.
pub record IsFine (w : World) : Type 0 where
  pub spelled : (p : ℕ) (s : PeerState) (q : Key) (a : Attributes) → slice_get w.peers p ≡ Some s → private_table p w q ≡ Some a → CanBeSent (capabilities_of s.peer) q a
  pub light : (c : _) (q : Key) (a : Attributes) → CanBeSent c q a → weight_of q ≤ 21
  pub beside : (group : GroupKey) (q : Key) (o : OutAttrs) → row_at (wanted_rows group w) q ≡ Some o → 21 ≤ room_beside group.family (limit_of group) o.attrs
  pub wide : (group : GroupKey) → 21 ≤ room group.family (limit_of group)

-- ---- a formatted subgroup is kept

abbrev IsNextKept : World → Subgroup → Type 0
IsNextKept w y = IsOut y.out × (y.out.desired ≡ wanted_rows y.key w) × ((y.phase ≡ Quiet) ⊎ (y.key.enhanced_refresh ≡ true))

owed_other : (phase : Phase) → is_owed phase ≡ true → phase ≡ Quiet → ⊥
owed_other phase e quiet = let none : is_owed phase ≡ false = ap is_owed quiet in absurd cc

module _ (w : World) (x : Subgroup) (kept : IsKept w x) where
  marked_open : is_owed x.phase ≡ true → (Open ≡ Quiet) ⊎ (x.key.enhanced_refresh ≡ true)
  marked_open owed = elim kept.marked [ inl quiet ↦ absurd (owed_other x.phase owed quiet) | inr marked ↦ inr marked ]

  next_kept : IsNextKept w (after_saying (says_next x) x)
  next_kept =
      so-next x (λ says. IsNextKept w (after_saying says x)) (record {
        begins = λ owed not_due. (forced-exact x.out kept.exact, kept.desired, marked_open owed);
        withdraws = λ keys due. (told-exact keys x.out kept.exact, told-desired keys x.out ∙ kept.desired, kept.marked);
        announces = λ o keys due. (told-exact keys x.out kept.exact, told-desired keys x.out ∙ kept.desired, kept.marked);
        end_of_rib = λ none due. (kept.exact, kept.desired, kept.marked);
        ends = λ none not_owed not_due. (kept.exact, kept.desired, inl refl);
      })

  pub kept-formatted : IsKept w (formatted x)
  kept-formatted = let next = next_kept in record { exact = next.0; desired = next.1; nothing = λ e. absurd cc; closed = λ e f. absurd cc; due = λ e. absurd cc; marked = next.2 }

  -- its key stays
  key_after : (says : Says) → (after_saying says x).key ≡ x.key
  key_after RefreshBegins = refl
  key_after (Withdrawn keys) = refl
  key_after (Announced o keys) = refl
  key_after EndOfRib = refl
  key_after RefreshEnds = refl

  pub key-formatted : (formatted x).key ≡ x.key
  key-formatted = key_after (says_next x)

  -- a row of what is formatted then was formatted before, or is desired
  abbrev FromRows : Subgroup → Type 0
  FromRows y = (q : Key) → (row_at y.out.formatted q ≡ row_at x.out.formatted q) ⊎ (row_at y.out.formatted q ≡ row_at x.out.desired q)

  from_told : (keys : List Key) (q : Key) → (row_at (with_told keys x.out).formatted q ≡ row_at x.out.formatted q) ⊎ (row_at (with_told keys x.out).formatted q ≡ row_at x.out.desired q)
  from_told keys q = by (has key_order keys q) (told-formatted keys x.out q kept.exact.formatted_rows)
    where
      by : (b : Bool) → row_at (with_told keys x.out).formatted q ≡ (if b then row_at x.out.desired q else row_at x.out.formatted q)
          → (row_at (with_told keys x.out).formatted q ≡ row_at x.out.formatted q) ⊎ (row_at (with_told keys x.out).formatted q ≡ row_at x.out.desired q)
      by true e = inr e
      by false e = inl e

  rows_after : (says : Says) → FromRows (after_saying says x)
  rows_after RefreshBegins = λ q. inl refl
  rows_after (Withdrawn keys) = λ q. from_told keys q
  rows_after (Announced o keys) = λ q. from_told keys q
  rows_after EndOfRib = λ q. inl refl
  rows_after RefreshEnds = λ q. inl refl

  pub rows-formatted : FromRows (after_saying (says_next x) x)
  rows-formatted = rows_after (says_next x)

-- ---- at a place of a list that changes

pub at-same : {T : Type 0} (change : T → T) (g h : ℕ) (xs : List T) (x : T) → slice_get xs g ≡ Some x → (b : Bool) → (h == g) ≡ b → slice_get (change_at change g xs) h ≡ (if b then Some (change x) else slice_get xs h)
at-same change g h xs x is true e = let here : h ≡ g = eqb-true h g e in ap (slice_get (change_at change g xs)) here ∙ changed-here change g xs ∙ ap (option_map change) is
at-same change g h xs x is false e = changed-there change g h xs (λ same. let so = eq-eqb h g same in absurd cc)
