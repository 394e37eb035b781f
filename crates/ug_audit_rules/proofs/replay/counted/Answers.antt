use Rattle.std.proofs.Common.{List, ℕ, length, map, ap, arith}
use Rattle.ug_events.specs.Grammar.{line_of}
use Rattle.ug_world.specs.World.{World}
use Rattle.ug_audit_rules.specs.Lines.{said_in}
use Rattle.ug_audit_rules.proofs.Replayed.{replay_begins, replays_on, replay_ends}
use Rattle.ug_audit_rules.proofs.replay.counted.Goals as goal

pub loop-line-init : goal.loop-line-init
loop-line-init g c =
    let same = c.in_ok-world.ensures in
    let peers = ap (λ (w : World). length w.peers) same in
    let version = ap (λ (w : World). w.version) same in
    let zero_is = c.requires.first.version in
    let inside = c.requires.id in
    record {
      replayed = replay_begins c.args.id c.args.first.now c.in_ok-world.world c.new-progress.result (said_in c.args.events.now) c.requires.id c.requires.first same c.new-progress.ensures.changes c.new-progress.ensures.begun c.new-progress.ensures.ended;
      inside = omega (arith, peers, inside);
      room = omega (arith, version, zero_is);
    }

pub loop-line-preserved : goal.loop-line-preserved
loop-line-preserved g c =
    let some = c.in-Some.ensures.some in
    let count = ap (λ (ls : List (List ℕ)). length ls) some in
    let room = c.loop-line.invariant.room in
    let inside = c.loop-line.invariant.inside in
    let peers = c.in_ok-note_line.ensures.peers in
    let version = c.in_ok-note_line.ensures.version in
    record {
      replayed = replays_on c.args.id c.args.first.now c.loop-line.world c.note_line.new.world c.loop-line.progress c.note_line.new.progress (line_of c.in-Some.line.now) (said_in c.loop-line.rest.now) (said_in c.in-Some.behind.now) (said_in c.args.events.now)
          (ap (λ (ls : List (List ℕ)). map line_of ls) some) c.in_ok-note_line.ensures.world c.in_ok-note_line.ensures.stands c.loop-line.invariant.replayed;
      inside = omega (arith, inside, peers);
      room = omega (arith, room, version, count);
    }

pub returns-clause-timeline : goal.returns-clause-timeline
returns-clause-timeline g c =
    (replay_ends c.args.id c.args.first.now c.loop-line.world c.loop-line.progress c.in_ok-timeline.timeline (said_in c.loop-line.rest.now) (said_in c.args.events.now) (ap (λ (ls : List (List ℕ)). map line_of ls) c.in_default.ensures.none)
    c.in_ok-timeline.ensures.changes c.in_ok-timeline.ensures.begun c.in_ok-timeline.ensures.ended c.loop-line.invariant.replayed).0

pub returns-clause-sessions : goal.returns-clause-sessions
returns-clause-sessions g c =
    (replay_ends c.args.id c.args.first.now c.loop-line.world c.loop-line.progress c.in_ok-timeline.timeline (said_in c.loop-line.rest.now) (said_in c.args.events.now) (ap (λ (ls : List (List ℕ)). map line_of ls) c.in_default.ensures.none)
    c.in_ok-timeline.ensures.changes c.in_ok-timeline.ensures.begun c.in_ok-timeline.ensures.ended c.loop-line.invariant.replayed).1
