use Rattle.std.proofs.Common.{List, subst}
use Rattle.ug_types.specs.declared.key.Key.{Key}
use Rattle.ug_hearing.specs.Courses.{changes_of}
use Rattle.ug_audit_rules.specs.GroupLogs.{Entries, changes_in}
use Rattle.ug_audit_rules.specs.Merges.{IsTold}
use Rattle.ug_audit_rules.specs.Seats.{log_at}
use Rattle.ug_world.specs.Worlds.{worlds, last_world}
use Rattle.ug_audit_rules.specs.Lines.{said_in}
use Rattle.ug_audit_rules.proofs.HistorySteps.{timeline-of}
use Rattle.ug_audit_rules.proofs.timelines.Timelines.timeline.Goals as goal

pub returns-clause-timeline : goal.returns-clause-timeline
returns-clause-timeline c =
    (timeline-of c.args.id (worlds c.args.first.now (said_in c.args.events.now)) (last_world c.args.first.now (said_in c.args.events.now)) c.args.self.now c.in-Some.seat.now c.in_ok-timeline.timeline c.requires.timelines c.in-Some.ensures.0
    c.in-Some.ensures.1 (subst (λ (logs : List Entries). (q : Key) → IsTold c.in-Some.seat.now.ends c.in-Some.seat.now.ups.items (changes_in (log_at logs c.in-Some.seat.now.group) q) (changes_of c.in_ok-timeline.timeline.changes q)) c.deref.ensures.value c.in_ok-timeline.ensures.changes)
    c.in_ok-timeline.ensures.begun c.in_ok-timeline.ensures.ended).0

pub returns-clause-sessions : goal.returns-clause-sessions
returns-clause-sessions c =
    (timeline-of c.args.id (worlds c.args.first.now (said_in c.args.events.now)) (last_world c.args.first.now (said_in c.args.events.now)) c.args.self.now c.in-Some.seat.now c.in_ok-timeline.timeline c.requires.timelines c.in-Some.ensures.0
    c.in-Some.ensures.1 (subst (λ (logs : List Entries). (q : Key) → IsTold c.in-Some.seat.now.ends c.in-Some.seat.now.ups.items (changes_in (log_at logs c.in-Some.seat.now.group) q) (changes_of c.in_ok-timeline.timeline.changes q)) c.deref.ensures.value c.in_ok-timeline.ensures.changes)
    c.in_ok-timeline.ensures.begun c.in_ok-timeline.ensures.ended).1
