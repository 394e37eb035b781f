use Rattle.std.proofs.Common.{◌≡◌, ◌+◌, ◌≤◌, drop, map}
use Rattle.ug_events.specs.Views.{event_of}
use Rattle.ug_world.specs.Worlds.{last_world}
use Rattle.ug_speaker.specs.Owes.{AreEvents}
use Rattle.ug_report.specs.Report.{accepted_count, refused_count}
use Rattle.ug_selfrun.specs.Lines.{lines_of}
use Rattle.ug_selfrun.proofs.replaying.replay.Given as goal

-- what is left leads to the same world, with the same counts
abbrev pub invariant-loop-event : goal.invariant-loop-event
invariant-loop-event l = record {
  form : AreEvents (map event_of (drop l.event-index l.events));
  world : last_world l.world (lines_of (map event_of (drop l.event-index l.events))) ≡ last_world l.fn.world (lines_of (map event_of l.events));
  accepted : l.accepted + accepted_count l.world (lines_of (map event_of (drop l.event-index l.events))) ≡ accepted_count l.fn.world (lines_of (map event_of l.events));
  refused : l.refused + refused_count l.world (lines_of (map event_of (drop l.event-index l.events))) ≡ refused_count l.fn.world (lines_of (map event_of l.events));
  few_accepted : l.accepted ≤ l.event-index;
  few_refused : l.refused ≤ l.event-index;
}
