-- What an auditor asks of a run's files, with nothing but these in hand: the lines of events, what the lines of the report
-- tell, and the bytes of each session.
use Rattle.std.specs.Prelude.{◌≡◌, ℕ, ◌<◌, ◌≤◌, ◌⊎◌, ◌==◌, ◌&&◌, Bool, true, false, List, [], ◌∷◌, ◌++◌, length, take, slice_get, filter, Option, Some, None, if◌then◌else◌}
use Rattle.std.specs.Option.{option_map}
use Rattle.std.specs.List.{list_any}
use Rattle.ug_types.specs.declared.mark.Mark.{Mark}
use Rattle.ug_types.specs.declared.capabilities.Capabilities.{Capabilities}
use Rattle.ug_types.specs.Messages.{Message}
use Rattle.ug_message.specs.Received.{IsStream}
use Rattle.ug_message.specs.Tables.{Table, table_of, tables_after}
use Rattle.ug_message.specs.Climbing.{NeverBack}
use Rattle.ug_outbound.specs.declared.peer.Peer.{Peer}
use Rattle.ug_events.specs.Events.{Saying}
use Rattle.ug_events.specs.Reads.{Reads}
use Rattle.ug_world.specs.declared.peer_state.PeerState.{PeerState}
use Rattle.ug_world.specs.World.{World}
use Rattle.ug_world.specs.Private.{private_table}
use Rattle.ug_world.specs.Worlds.{worlds, last_world, past}
use Rattle.ug_hearing.specs.declared.breach.Ending.{Ending}
use Rattle.ug_hearing.specs.declared.breach.Breach.{Breach}
use Rattle.ug_hearing.specs.Breaches as breaches
use Rattle.ug_hearing.specs.Breaches.{AreAlike, IsOneOf}
use Rattle.ug_audit_rules.specs.declared.entry.Entry.{Entry}
use Rattle.ug_audit_rules.specs.declared.entry.Entry.TheVariants.{Passes, Sync, Lost, Unclear}

-- what the sessions of this peer are opened with
abbrev pub opened_with : Peer → Capabilities
opened_with p = record { family = p.family; add_path = p.add_path; extended = p.extended }

-- the line tells of the loss of session `n` of the peer at a place
abbrev pub is_loss_of : ℕ → ℕ → Entry → Bool
is_loss_of p n Passes = false
is_loss_of p n (Sync m) = false
is_loss_of p n (Lost peer session) = (peer == p) && (session == n)
is_loss_of p n Unclear = false

abbrev pub is_lost_in : List Entry → ℕ → ℕ → Bool
is_lost_in told p n = list_any (is_loss_of p n) told

abbrev pub mark_in : Entry → List Mark
mark_in Passes = []
mark_in (Sync m) = m ∷ []
mark_in (Lost peer session) = []
mark_in Unclear = []

-- the marks of `sync` that the lines tell, in their order
abbrev pub marks_in : List Entry → List Mark
marks_in [] = []
marks_in (e ∷ told) = mark_in e ++ marks_in told

-- After the first M messages the table is the private one of version V.
pub record IsWholeAt (ws : List World) (p version handed : ℕ) (messages : List Message) : Type 0 where
  pub within : handed ≤ length messages
  pub world : World
  pub of_version : slice_get ws version ≡ Some world
  pub whole : AreAlike (table_of (take handed messages)) (private_table p world)

-- So it is at a mark of `sync`, but for a lost session that has fewer messages.
abbrev pub IsSynced : List World → List Message → Bool → Mark → Type 0
IsSynced ws messages lost m = IsWholeAt ws m.peer m.version m.handed messages ⊎ ((length messages < m.handed) × (lost ≡ true))

-- What is asked of the bytes of session `n` of the peer at a place. They are a stream of messages, with a rest only where
-- the session was lost; after each message every route stands as the private table held it at some version of the session,
-- never going back; at each mark of `sync`, and at the end of a session that is still open, the whole table is the private
-- one.
pub record IsSound (ws : List World) (last : World) (p n : ℕ) (s : PeerState) (syncs : List Mark) (lost : Bool) (bytes : List ℕ) : Type 0 where
  pub messages : List Message
  pub rest : List ℕ
  pub read : IsStream (opened_with s.peer) bytes messages rest
  pub cut : lost ≡ false → rest ≡ []
  pub never_back : NeverBack (past p n ws) (tables_after messages)
  pub synced : (m : Mark) → IsOneOf m syncs → m.peer ≡ p → m.session ≡ n → IsSynced ws messages lost m
  pub end : s.up ≡ true → s.sessions ≡ n → lost ≡ false → AreAlike (table_of messages) (private_table p last)

-- A run's files are right: so is each session that a peer had. `told` is what the lines of the report tell, and `held` what
-- is told of the file of session `n` of the peer at place `p`.
abbrev pub IsAudited : World → List (Reads Saying) → List Entry → (ℕ → ℕ → Option (List ℕ)) → Type 0
IsAudited w lines told held =
    (p n : ℕ) (s : PeerState) → slice_get (last_world w lines).peers p ≡ Some s → 0 < n → n ≤ s.sessions
    → (bytes : List ℕ) × (held p n ≡ Some bytes) × IsSound (worlds w lines) (last_world w lines) p n s (marks_in told) (is_lost_in told p n) bytes

-- the marks that are of session `n` of the peer at a place
abbrev pub marks_to : ℕ → ℕ → List Mark → List Mark
marks_to p n syncs = filter (λ (m : Mark). (m.peer == p) && (m.session == n)) syncs

-- the private table of a peer in the world of a version
abbrev pub table_at : List World → ℕ → ℕ → Option Table
table_at ws p version = option_map (private_table p) (slice_get ws version)

-- the table that a session is to end with: that of the last world, where the session is still open
abbrev pub open_table : World → ℕ → ℕ → PeerState → Option Table
open_table last p n s = if s.up && (s.sessions == n) then Some (private_table p last) else None

-- Session `n` of the peer was heard right; and this is its first breach.
abbrev pub IsHeardRight : List World → World → ℕ → ℕ → PeerState → List Mark → Bool → List Message → Ending → Type 0
IsHeardRight ws last p n s syncs lost messages ending = breaches.IsHeardRight (past p n ws) (table_at ws p) (marks_to p n syncs) lost (open_table last p n s) messages ending

abbrev pub IsBreach : List World → World → ℕ → ℕ → PeerState → List Mark → Bool → List Message → Ending → Breach → Type 0
IsBreach ws last p n s syncs lost messages ending b = breaches.IsBreach (past p n ws) (table_at ws p) (marks_to p n syncs) lost (open_table last p n s) messages ending b

abbrev pub IsFirstBreach : List World → World → ℕ → ℕ → PeerState → List Mark → Bool → List Message → Ending → Breach → Type 0
IsFirstBreach ws last p n s syncs lost messages ending b = breaches.IsFirstBreach (past p n ws) (table_at ws p) (marks_to p n syncs) lost (open_table last p n s) messages ending b
