-- Where each peer stands at the end of a run: it is down, or its table has so many rows.
use Rattle.std.specs.Prelude.{◌≡◌, ℕ, ◌+◌, ◌-◌, Bool, true, false, List, [], ◌∷◌, length, slice_get, Option, Some, None}
use Rattle.ug_types.specs.declared.capabilities.Capabilities.{Capabilities}
use Rattle.ug_types.specs.declared.key.Key.{Key}
use Rattle.ug_types.specs.Attributes.{Attributes}
use Rattle.ug_types.specs.Messages.{Message}
use Rattle.ug_message.specs.Tables.{Table, table_of}
use Rattle.ug_message.specs.Received.{IsStream}
use Rattle.ug_check.specs.Decoded.{AreRows}
use Rattle.ug_world.specs.declared.peer_state.PeerState.{PeerState}
use Rattle.ug_world.specs.World.{World}
use Rattle.ug_world.specs.Private.{private_table}
use Rattle.ug_speaker.specs.Speech.{capabilities_of}
use Rattle.ug_speaker.specs.Right.{Alike}

-- The table has so many rows.
pub record HasRows (table : Table) (count : ℕ) : Type 0 where
  pub rows : List (Key × Attributes)
  pub are : AreRows rows table
  pub many : length rows ≡ count

-- The peer at a place is down, or its private table has so many rows.
abbrev pub IsStanding : World → ℕ → Bool → Option ℕ → Type 0
IsStanding w p false standing = standing ≡ None
IsStanding w p true None = ⊥
IsStanding w p true (Some count) = HasRows (private_table p w) count

-- So it is of each of these peers, of which the first stands at place `p`.
abbrev pub AreStandings : World → ℕ → List PeerState → List (Option ℕ) → Type 0
AreStandings w p [] [] = Unit {0}
AreStandings w p [] (x ∷ standings) = ⊥
AreStandings w p (s ∷ peers) [] = ⊥
AreStandings w p (s ∷ peers) (x ∷ standings) = IsStanding w p s.up x × AreStandings w (p + 1) peers standings

-- The bytes of a session are messages that leave this table.
pub record LeavesTable (c : Capabilities) (bytes : List ℕ) (table : Table) : Type 0 where
  pub messages : List Message
  pub rest : List ℕ
  pub read : IsStream c bytes messages rest
  pub leaves : Alike (table_of messages) table

-- Of these sessions of a peer the last leaves its private table, where the peer is up.
abbrev pub HoldsTable : World → ℕ → PeerState → List (List ℕ) → Type 0
HoldsTable w p s sessions =
    s.up ≡ true → (bytes : List ℕ) → slice_get sessions (length sessions - 1) ≡ Some bytes → LeavesTable (capabilities_of s.peer) bytes (private_table p w)

-- So it is of each of these peers, of which the first stands at place `p`.
abbrev pub HoldTables : World → ℕ → List PeerState → List (List (List ℕ)) → Type 0
HoldTables w p [] [] = Unit {0}
HoldTables w p [] (wire ∷ wires) = ⊥
HoldTables w p (s ∷ peers) [] = ⊥
HoldTables w p (s ∷ peers) (wire ∷ wires) = HoldsTable w p s wire × HoldTables w (p + 1) peers wires
