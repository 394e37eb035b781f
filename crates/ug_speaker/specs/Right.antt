-- What is right of the messages of one session.
use Rattle.std.specs.Prelude.{◌≡◌, ℕ, ◌≤◌, Bool, true, false, ◌||◌, List, [], ◌∷◌, ◌++◌, ◌⊎◌, count_by, drop, filter, slice_get, Some, None, is_some}
use Rattle.std.specs.List.{list_any}
use Rattle.ug_types.specs.declared.capabilities.Capabilities.{Capabilities}
use Rattle.ug_types.specs.declared.key.Key.{Key}
use Rattle.ug_types.specs.Attributes.{Attributes}
use Rattle.ug_types.specs.Messages.{Message, Updates, Begins, Ends, Ignored}
use Rattle.ug_message.specs.Tables.{Table, Reading, nothing_read, applied, table_of, tables_after, among}
use Rattle.ug_message.specs.Climbing.{NeverBack}
use Rattle.ug_message.specs.Spellable.{is_key, can_be_spelled}
use Rattle.ug_message.specs.Texts.{written}
use Rattle.ug_message.specs.Streams.{AreOf, IsUpdate, says_nothing}
use Rattle.ug_outbound.specs.declared.peer.Peer.{Peer}
use Rattle.ug_world.specs.declared.peer_state.PeerState.{PeerState}
use Rattle.ug_world.specs.World.{World}
use Rattle.ug_world.specs.Private.{private_table}
use Rattle.ug_world.specs.Worlds.{in_session, past}
use Rattle.ug_speaker.specs.Speech.{capabilities_of}

-- two tables have the same routes
abbrev pub Alike : Table → Table → Type 0
Alike one other = (key : Key) → one key ≡ other key

abbrev pub IsAmong : {T : Type 0} → T → List T → Type 0
IsAmong x [] = ⊥
IsAmong x (y ∷ ys) = (x ≡ y) ⊎ IsAmong x ys

-- A message of the session can spell the route: its key is one of the session, and its attributes have values in range.
pub record CanBeTold (c : Capabilities) (key : Key) (a : Attributes) : Type 0 where
  pub key_is : is_key c key ≡ true
  pub attributes_are : can_be_spelled c.family a ≡ true

-- So it is of each route of each private table in these worlds.
abbrev pub AreTellable : List World → Type 0
AreTellable worlds =
    (w : World) (p : ℕ) (s : PeerState) (key : Key) (a : Attributes) → IsAmong w worlds → slice_get w.peers p ≡ Some s
    → private_table p w key ≡ Some a → CanBeTold (capabilities_of s.peer) key a

-- The route can be announced, and withdrawn, in a message of its own: it is within the limit.
pub record FitsAlone (c : Capabilities) (key : Key) (a : Attributes) : Type 0 where
  pub announced : is_some (written c (Updates (record { withdrawn = []; attrs = Some a; announced = key ∷ [] }))) ≡ true
  pub withdrawn : is_some (written c (Updates (record { withdrawn = key ∷ []; attrs = None; announced = [] }))) ≡ true

-- So can each route of each private table in these worlds.
abbrev pub FitAlone : List World → Type 0
FitAlone worlds =
    (w : World) (p : ℕ) (s : PeerState) (key : Key) (a : Attributes) → IsAmong w worlds → slice_get w.peers p ≡ Some s
    → private_table p w key ≡ Some a → FitsAlone (capabilities_of s.peer) key a

abbrev pub ends_of_rib : List Message → ℕ
ends_of_rib messages = count_by says_nothing messages

-- At an End-of-RIB the table is the private one of a world of the session (RFC 4724 section 2).
abbrev pub EndsInWhole : ℕ → ℕ → List World → List Message → Type 0
EndsInWhole p n worlds messages =
    (before after : List Message) (m : Message) → messages ≡ before ++ m ∷ after → says_nothing m ≡ true
    → (w : World) × IsAmong w (filter (in_session p n) worlds) × Alike (table_of (before ++ m ∷ [])) (private_table p w)

-- The marks of refreshes are in turn (RFC 7313 section 4): the first begin comes after End-of-RIB, and each end after a
-- begin with no end between, where no route is stale any more. `ended` says that End-of-RIB came, `begun` that a
-- refresh has begun and not ended.
abbrev pub IsInTurn : Reading → Bool → Bool → List Message → Type 0
IsInTurn r ended begun [] = Unit {0}
IsInTurn r ended begun (Updates u ∷ ms) = IsInTurn (applied r (Updates u)) (ended || says_nothing (Updates u)) begun ms
IsInTurn r ended begun (Begins ∷ ms) = (ended ≡ true) × IsInTurn (applied r Begins) ended true ms
IsInTurn r ended begun (Ends ∷ ms) = (begun ≡ true) × ((key : Key) → r.stale key ≡ false) × IsInTurn (applied r Ends) ended false ms
IsInTurn r ended begun (Ignored ∷ ms) = ⊥

-- a refresh has begun and not ended
abbrev pub is_refreshing : Bool → List Message → Bool
is_refreshing begun [] = begun
is_refreshing begun (Updates u ∷ ms) = is_refreshing begun ms
is_refreshing begun (Begins ∷ ms) = is_refreshing true ms
is_refreshing begun (Ends ∷ ms) = is_refreshing false ms
is_refreshing begun (Ignored ∷ ms) = is_refreshing begun ms

-- the messages that a peer may be sent: without enhanced refresh there are no marks
abbrev pub AreFor : Peer → Bool → List Message → Type 0
AreFor p true messages = Unit {0}
AreFor p false messages = AreOf IsUpdate messages

-- What each session was told, in the worlds so far.
pub record IsToldRight (p n : ℕ) (peer : Peer) (worlds : List World) (messages : List Message) : Type 0 where
  -- after each message every route stands as the private table held it at some version of the session, never going back
  pub never_back : NeverBack (past p n worlds) (tables_after messages)
  pub end_of_rib : ends_of_rib messages ≤ 1
  pub whole : EndsInWhole p n worlds messages
  pub in_turn : IsInTurn nothing_read false false messages
  pub no_marks : AreFor peer peer.enhanced_refresh messages

-- What the present session of a live peer was told, when everything is told.
pub record IsToldAll (p : ℕ) (w : World) (messages : List Message) : Type 0 where
  pub whole : Alike (table_of messages) (private_table p w)
  pub end_of_rib : ends_of_rib messages ≡ 1
  pub ended : is_refreshing false messages ≡ false

-- The message announces the route.
abbrev pub announces : Key → Message → Bool
announces key (Updates u) = among u.announced key
announces key Begins = false
announces key Ends = false
announces key Ignored = false

abbrev pub is_begin : Message → Bool
is_begin (Updates u) = false
is_begin Begins = true
is_begin Ends = false
is_begin Ignored = false

-- where it is so, a message among these is the begin of a refresh
abbrev pub BeginsWhere : Bool → List Message → Type 0
BeginsWhere true messages = list_any is_begin messages ≡ true
BeginsWhere false messages = Unit {0}

-- Since a request came, which was after so many messages, each route of the private table was announced, and with
-- enhanced refresh the refresh was begun.
pub record IsToldAgain (p : ℕ) (peer : Peer) (w : World) (handed : ℕ) (messages : List Message) : Type 0 where
  pub announced : (key : Key) → is_some (private_table p w key) ≡ true → list_any (announces key) (drop handed messages) ≡ true
  pub begun : BeginsWhere peer.enhanced_refresh (drop handed messages)
