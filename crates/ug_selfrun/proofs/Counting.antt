-- The rows that are counted are those of the private table.
use Rattle.std.proofs.Common.{◌≡◌, ℕ, ◌-◌, Bool, true, List, length, Some, refl, sym, ◌∙◌, ap, subst}
use Rattle.std.specs.Prelude.{slice_get}
use Rattle.ug_types.specs.declared.capabilities.Capabilities.{Capabilities}
use Rattle.ug_types.specs.declared.key.Key.{Key}
use Rattle.ug_types.specs.Messages.{Message}
use Rattle.ug_outbound.specs.declared.peer.Peer.{Peer}
use Rattle.ug_message.specs.Tables.{Table, table_of}
use Rattle.ug_message.proofs.WholeMessages.{one_stream}
use Rattle.ug_check.specs.Decoded.{LeavesRows}
use Rattle.ug_world.specs.declared.peer_state.PeerState.{PeerState}
use Rattle.ug_world.specs.World.{World}
use Rattle.ug_world.specs.Private.{private_table}
use Rattle.ug_speaker.specs.Speech.{capabilities_of}
use Rattle.ug_selfrun.specs.Standings.{HasRows, IsStanding, LeavesTable, HoldsTable}

rows_of : (c : Capabilities) (bytes : List ℕ) (table : Table) (count : ℕ) → LeavesRows c bytes count → LeavesTable c bytes table → HasRows table count
rows_of c bytes table count r h =
    let same = (one_stream c bytes r.messages h.messages r.rest h.rest r.decoded.read h.read).0 in
    record {
      rows = r.rows;
      are = record { ascending = r.decoded.table.ascending; each = λ key. r.decoded.table.each key ∙ (ap (λ (ms : List Message). table_of ms key) same ∙ h.leaves key) };
      many = r.many;
    }

pub standing_rows : (w : World) (p : ℕ) (s : PeerState) (peer : Peer) (up : Bool) (bytes : List ℕ) (sessions : List (List ℕ)) (count : ℕ) → s.peer ≡ peer → s.up ≡ up → up ≡ true
    → slice_get sessions (length sessions - 1) ≡ Some bytes → LeavesRows (capabilities_of peer) bytes count → HoldsTable w p s sessions → IsStanding w p s.up (Some count)
standing_rows w p s peer up bytes sessions count is same live last r holds =
    subst (λ (b : Bool). IsStanding w p b (Some count)) (sym (same ∙ live))
    (rows_of (capabilities_of s.peer) bytes (private_table p w) count (subst (λ (q : Peer). LeavesRows (capabilities_of q) bytes count) (sym is) r) (holds (same ∙ live) bytes last))
