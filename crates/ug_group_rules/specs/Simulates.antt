-- A subgroup stands for each of its members: what a member was told, with what it has still to take, leads to what was
-- formatted there.
use Rattle.std.specs.Prelude.{◌≡◌, ℕ, ◌+◌, ◌⊎◌, true, false, List, [], map, drop, is_some, if◌then◌else◌}
use Rattle.std.specs.List.{list_any}
use Rattle.std.specs.Option.{option_map}
use Rattle.ug_types.specs.declared.key.Key.{Key}
use Rattle.ug_types.specs.Messages.{Message}
use Rattle.ug_message.specs.Tables.{nothing_read, reading_from, table_of, tables_after}
use Rattle.ug_message.specs.Climbing.{NeverBack}
use Rattle.ug_outbound.specs.Keys.{ends_of}
use Rattle.ug_message.specs.NextHops.{told_to}
use Rattle.ug_world.specs.declared.peer_state.PeerState.{PeerState}
use Rattle.ug_world.specs.World.{World, key_in}
use Rattle.ug_world.specs.Worlds.{past}
use Rattle.ug_adjout.specs.Tables.{has, value_at}
use Rattle.ug_pack.specs.Ready.{key_order}
use Rattle.ug_speaker.specs.Right.{AreFor, EndsInWhole, IsInTurn, announces, ends_of_rib, is_refreshing}
use Rattle.ug_group_rules.specs.declared.phase.Phase.TheVariants.{Quiet, Open}
use Rattle.ug_group_rules.specs.Packets.{Packet, message_to, wanted_rows}
use Rattle.ug_group_rules.specs.Machine.{Subgroup, is_owed}

-- what a member has still to take, as it will be told
abbrev pub rest_to : PeerState → List Packet → List Message
rest_to s packets = map (λ (packet : Packet). message_to (ends_of s.peer) packet.says) packets

-- `all`: what the member was told in its session, followed by what it has still to take
pub record Simulates (p : ℕ) (s : PeerState) (worlds : List World) (w : World) (x : Subgroup) (all : List Message) : Type 0 where
  -- (a) the subgroup has its member's key, and desires what the key wants
  pub key : x.key ≡ key_in w s
  pub desired : x.out.desired ≡ wanted_rows x.key w
  -- (b) the table is what was formatted, with the member's next hops; in a fresh subgroup nothing was, so that nothing was
  -- told in the session and nothing is left to take
  pub table : (k : Key) → table_of all k ≡ option_map (told_to (ends_of s.peer)) (value_at key_order x.out.formatted k)
  pub fresh : x.fresh ≡ true → x.out.formatted ≡ []
  pub untold : x.fresh ≡ true → all ≡ []
  -- (c) the tables never go back
  pub never_back : NeverBack (past p s.sessions worlds) (tables_after all)
  -- (d) one End-of-RIB is there or due, and at it the table is whole
  pub one_end : ends_of_rib all + (if x.ending then 1 else 0) ≡ 1
  pub whole : EndsInWhole p s.sessions worlds all
  -- the marks of refreshes (RFC 7313) are in turn, and only a peer with enhanced refresh has some; none is open while
  -- End-of-RIB is due; what the peer would drop at the end of one is forced; and they fit the phase
  pub in_turn : IsInTurn nothing_read false false all
  pub no_marks : AreFor s.peer s.peer.enhanced_refresh all
  pub not_due : x.phase ≡ Open → x.ending ≡ false
  pub stale : (k : Key) → (reading_from nothing_read all).stale k ≡ true → has key_order x.out.forced k ≡ true
  pub rests : x.phase ≡ Quiet → is_refreshing false all ≡ false
  pub begun : x.phase ≡ Open → is_refreshing false all ≡ true

-- (e) Behind so many of these messages each key that is formatted was announced again, or it is forced, or a refresh is
-- owed, whose begin forces all keys.
abbrev pub IsAnsweredSince : ℕ → Subgroup → List Message → Type 0
IsAnsweredSince count x all =
    (k : Key) → is_some (value_at key_order x.out.formatted k) ≡ true → (is_owed x.phase ≡ true) ⊎ ((has key_order x.out.forced k ≡ true) ⊎ (list_any (announces k) (drop count all) ≡ true))
