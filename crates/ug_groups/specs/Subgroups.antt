-- A subgroup with its queue, as contracts see it, and what its members take and leave with.
use Rattle.std.specs.Prelude.{◌≡◌, ℕ, ◌<◌, List, [], map, length, take, get_or, slice_get, Some}
use Rattle.std.specs.List.{AllByRecursion}
use Rattle.ug_types.specs.declared.route.PeerEnds.{PeerEnds}
use Rattle.ug_board.specs.Rules.{buffer_size}
use Rattle.ug_queue.specs.Queues.{Queued, place_of, rest_of, IsMember, seat_all, AreNew}
use Rattle.ug_message.specs.Fitting.{text_of}
use Rattle.ug_outbound.specs.declared.key.GroupKey.{GroupKey}
use Rattle.ug_group_rules.specs.Packets.{Packet, message_to}
use Rattle.ug_groups.specs.declared.handed.Handed.{Handed}
use Rattle.ug_groups.specs.Packets.{Packed, said}
use Rattle.ug_groups.specs.Sent.{session_of, IsSent}
use Rattle.ug_groups.specs.Standings.{Standing}

-- what it keeps, and its queue of packets with a place for each member
pub record Grouped : Type 0 where
  pub point : Standing
  pub queue : Queued Packet

-- the queue, without where its packets lie in memory
abbrev pub said_queue : Queued Packed → Queued Packet
said_queue q = record { packets = map said q.packets; places = q.places; limit = q.limit }

-- its packets are those that its members' sessions can be sent
abbrev pub AreSent : GroupKey → Queued Packed → Type 0
AreSent key q = AllByRecursion (IsSent (session_of key)) q.packets

-- what the peer at these ends is sent by the packet
abbrev pub text_to : GroupKey → PeerEnds → Packet → List ℕ
text_to key ends packet = take buffer_size (text_of (session_of key) (message_to ends packet.says))

-- The first of these packets is handed out: its text stands at the front of the buffer.
pub record IsHanded (key : GroupKey) (ends : PeerEnds) (rest : List Packet) (buf : List ℕ) (h : Handed) : Type 0 where
  pub packet : Packet
  pub first : slice_get rest 0 ≡ Some packet
  pub made : h.made ≡ packet.made
  pub size : h.len ≡ length (text_to key ends packet)
  pub bytes : take h.len buf ≡ text_to key ends packet

-- ---- members that leave together

-- Some members are listed, each once, and they stand at one place of the queue.
pub record StandTogether (q : Queued Packet) (members : List ℕ) : Type 0 where
  pub some : 0 < length members
  pub first : IsMember q (get_or members 0 0)
  pub beside : AllByRecursion (λ m. place_of q m ≡ place_of q (get_or members 0 0)) members
  pub once : AreNew [] members

-- They stand at the front, and are listed by rising number, all below this one.
pub record AreFront (q : Queued Packet) (up : ℕ) (ms : List ℕ) : Type 0 where
  pub front : AllByRecursion (λ m. place_of q m ≡ Some 0) ms
  pub below : AllByRecursion (λ m. m < up) ms
  pub once : AreNew [] ms

-- the queue that they leave with: the packets that they have still to take
abbrev pub part_of : Queued Packet → List ℕ → Queued Packet
part_of q members = record { packets = rest_of q (get_or members 0 0); places = seat_all [] members; limit = q.limit }
