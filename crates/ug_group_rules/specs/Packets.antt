-- What the peers of a group key should have, the packets that tell them, and the message that each of them is sent.
use Rattle.std.specs.Prelude.{ℕ, Bool, List, []}
use Rattle.std.specs.List.{fold}
use Rattle.ug_types.specs.declared.key.Key.{Key}
use Rattle.ug_types.specs.declared.route.OutAttrs.{OutAttrs}
use Rattle.ug_types.specs.declared.route.PeerEnds.{PeerEnds}
use Rattle.ug_types.specs.contracts.route.OutAttrsPartialEq.TheImpl as out_eq
use Rattle.ug_types.specs.Keys.{weight_of}
use Rattle.ug_types.specs.Messages.{Message, Begins, Ends}
use Rattle.ug_outbound.specs.declared.key.GroupKey.{GroupKey}
use Rattle.ug_outbound.specs.contracts.key.GroupKeyPartialEq.TheImpl as key_eq
use Rattle.ug_outbound.specs.Keys.{limit_of}
use Rattle.ug_message.specs.NextHops.{told_to}
use Rattle.ug_world.specs.World.{World}
use Rattle.ug_world.specs.Private.{wanted, keys_of as world_keys}
use Rattle.ug_adjout.specs.Tables.{with_value}
use Rattle.ug_adjout.specs.Pending.{AdjRibOut, nothing_out, with_all_forced, with_all_formatted}
use Rattle.ug_adjout.specs.Desiring as desiring
use Rattle.ug_adjout.specs.Formatting.{Due, due}
use Rattle.ug_pack.specs.Rooms.{room, room_beside}
use Rattle.ug_pack.specs.Ready.{key_order}
use Rattle.ug_message.specs.Fitting.{announcing, withdrawing}

abbrev pub same_out : OutAttrs → OutAttrs → Bool
same_out a b = out_eq.ghosts.eq a b

abbrev pub same_group : GroupKey → GroupKey → Bool
same_group a b = key_eq.ghosts.eq a b

-- rows in key order, each a route but for its next hop
abbrev pub Rows : Type 0
Rows = List (Key × OutAttrs)

-- ---- the Adj-RIB-Out (RFC 4271 section 3.2) of peers of one group key

abbrev pub Out : Type 0
Out = AdjRibOut Key OutAttrs

abbrev pub with_wanted : GroupKey → World → Rows → Key → Rows
with_wanted group w rows key = with_value key_order rows key (wanted group w key)

-- what peers of the key should have of the Loc-RIB
unfoldable pub wanted_rows : GroupKey → World → Rows
wanted_rows group w = fold (with_wanted group w) [] (world_keys group.add_path w.routes)

-- These rows are desired from now on.
abbrev pub with_all_desired : Rows → Out → Out
with_all_desired rows out = desiring.with_all_desired key_order same_out rows out

-- nothing is formatted yet, and these rows are desired
abbrev pub all_desired : Rows → Out
all_desired rows = with_all_desired rows nothing_out

-- all keys of both tables are to be announced again
abbrev pub all_forced : Out → Out
all_forced out = with_all_forced key_order same_out out

-- the packet has told these keys
abbrev pub with_told : List Key → Out → Out
with_told keys out = with_all_formatted key_order same_out out keys

-- the routes that the next packet tells, as many as fit the limit of the key's sessions
abbrev pub routes_due : GroupKey → Out → Due Key OutAttrs
routes_due group out = due key_order same_out weight_of (room group.family (limit_of group)) (λ o. room_beside group.family (limit_of group) o.attrs) out

-- ---- packets

-- What a packet says: routes withdrawn, routes announced with one set of attributes (RFC 4271 section 4.3), End-of-RIB
-- (RFC 4724 section 2), or that a refresh begins or ends (RFC 7313 section 4).
pub data Says : Type 0 where
  Withdrawn : List Key → Says
  Announced : OutAttrs → List Key → Says
  EndOfRib : Says
  RefreshBegins : Says
  RefreshEnds : Says

-- a packet, with the number of the step that formatted it
pub record Packet : Type 0 where
  pub made : ℕ
  pub says : Says

-- the message that the peer at these ends is sent, with the next hop of its own (RFC 4271 section 5.1.3)
abbrev pub message_to : PeerEnds → Says → Message
message_to ends (Withdrawn keys) = withdrawing keys
message_to ends (Announced o keys) = announcing (told_to ends o) keys
message_to ends EndOfRib = withdrawing []
message_to ends RefreshBegins = Begins
message_to ends RefreshEnds = Ends
