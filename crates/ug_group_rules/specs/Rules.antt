-- The rules of the machine of update groups, and what it is about.
use Rattle.std.specs.Prelude.{ℕ, ◌+◌, ◌-◌, ◌*◌, Bool, List, [], ◌∷◌, length, take, slice_get, Option, Some, None, if◌then◌else◌}
use Rattle.ug_types.specs.declared.mark.Mark.{Mark}
use Rattle.ug_types.specs.Messages.{Message, Ignored}
use Rattle.ug_board.specs.declared.steps.LaneStep.{LaneStep}
use Rattle.ug_board.specs.declared.steps.LaneStep.TheVariants.{Next, Lost}
use Rattle.ug_board.specs.declared.steps.LaneSaid.{LaneSaid}
use Rattle.ug_board.specs.declared.steps.LaneSaid.TheVariants.{Begun, Hand, Idle, Stop, Noted}
use Rattle.ug_board.specs.Rules.{Rules, buffer_size}
use Rattle.ug_outbound.specs.Keys.{ends_of}
use Rattle.ug_world.specs.declared.peer_state.PeerState.{PeerState}
use Rattle.ug_world.specs.World.{World}
use Rattle.ug_speaker.specs.Speech.{Purpose, TakesEvent, MarksTold, Ends, Prepares, Speech, capabilities_of}
use Rattle.ug_message.specs.Fitting.{text_of}
use Rattle.ug_group_rules.specs.Packets.{Packet, message_to}
use Rattle.ug_group_rules.specs.Machine.{Seat, Member, System, start, seat_at, first_left, Job, Take, Format, Merge, Slow, Sync, Close, Said, Took, Formatted, Merged, Moved, Marks, Closed, legal, after_job, job_reply, Upshot, Begins, Hands, Rests, upshot, after_next, after_loss, has_unlost, is_settled, is_drained}
use Rattle.ug_group_rules.specs.Evaluations.{evaluations}

-- the message that a peer is sent by a packet, and its text
abbrev pub message_for : Option PeerState → Option Packet → Message
message_for (Some peer) (Some packet) = message_to (ends_of peer.peer) packet.says
message_for (Some peer) None = Ignored
message_for None packet = Ignored

abbrev pub text_for : Option PeerState → Option Packet → List ℕ
text_for (Some peer) (Some packet) = take buffer_size (text_of (capabilities_of peer.peer) (message_to (ends_of peer.peer) packet.says))
text_for (Some peer) None = []
text_for None packet = []

abbrev pub at_rest : Bool → LaneSaid
at_rest closed = if closed then Stop else Idle

abbrev pub said_of : Bool → Option PeerState → Upshot → LaneSaid
said_of closed peer (Begins n) = Begun n
said_of closed peer (Hands n packet) = Hand n packet.made (length (text_for peer (Some packet)))
said_of closed peer Rests = at_rest closed

abbrev pub lane_reply : LaneStep → System → LaneSaid
lane_reply (Next p) s = said_of s.closed (slice_get s.world.peers p) (upshot p s)
lane_reply (Lost p n) s = Noted

abbrev pub after_lane : LaneStep → System → System
after_lane (Next p) s = after_next p s
after_lane (Lost p n) s = after_loss p n s

-- Each session begins and may be lost, and each packet may be handed out.
abbrev pub rest_due : Option Seat → ℕ
rest_due None = 0
rest_due (Some t) = length t.rest

abbrev pub member_due : ℕ → Member → ℕ
member_due sessions m = 2 * (sessions - m.begun) + rest_due m.seat + length m.unlost

abbrev pub due : List PeerState → List Member → ℕ
due peers [] = 0
due [] (m ∷ members) = member_due 0 m + due [] members
due (s ∷ peers) (m ∷ members) = member_due s.sessions m + due peers members

abbrev pub begun_of : Option Member → ℕ
begun_of None = 0
begun_of (Some m) = m.begun

-- only events run the outbound rules
abbrev pub evaluations_of : Job → System → ℕ
evaluations_of (Take e) s = evaluations e s
evaluations_of (Format g) s = 0
evaluations_of (Merge g h) s = 0
evaluations_of (Slow g) s = 0
evaluations_of Sync s = 0
evaluations_of Close s = 0

abbrev pub group_rules : Rules World System Job Said
group_rules = record {
  start = start;
  legal = legal;
  reply = job_reply;
  after = after_job;
  least = evaluations_of;
  most = evaluations_of;
  may_lose = λ p n s. has_unlost n (slice_get s.members p);
  lane_reply = lane_reply;
  after_lane = after_lane;
  handed = λ p s. text_for (slice_get s.world.peers p) (first_left (seat_at p s));
  due = λ s. due s.world.peers s.members;
  begun = λ p s. begun_of (slice_get s.members p);
}

abbrev pub purpose : Job → Purpose
purpose (Take e) = TakesEvent e
purpose (Format g) = Prepares
purpose (Merge g h) = Prepares
purpose (Slow g) = Prepares
purpose Sync = MarksTold
purpose Close = Ends

abbrev pub marks_of : Said → List Mark
marks_of (Took marks) = marks
marks_of (Formatted made) = []
marks_of Merged = []
marks_of (Moved g) = []
marks_of (Marks marks) = marks
marks_of Closed = []

abbrev pub group_speech : Speech World System Job Said
group_speech = record {
  first = λ w. w;
  world = λ s. s.world;
  purpose = purpose;
  message = λ p s. message_for (slice_get s.world.peers p) (first_left (seat_at p s));
  closed = λ s. s.closed;
  settled = is_settled;
  drained = is_drained;
  marks = marks_of;
}
