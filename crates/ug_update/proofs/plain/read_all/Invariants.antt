use Rattle.std.proofs.Common.{◌-◌, ◌≤◌, length, take, map}
use Rattle.ug_types.specs.Messages.{message_of}
use Rattle.ug_message.specs.Received.{AreSpelled}
use Rattle.ug_update.proofs.plain.read_all.Given as goal

-- the bytes up to here are spellings of the messages so far
abbrev pub invariant-loop-at : goal.invariant-loop-at
invariant-loop-at l = record {
  within : l.at ≤ length l.stream;
  spelled : AreSpelled l.session (map message_of l.items.items) (take l.at l.stream);
}

abbrev pub decreases-loop-at : goal.decreases-loop-at
decreases-loop-at l = length l.stream - l.at
